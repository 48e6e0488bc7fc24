-- By the steps from the cell to the goal, one by one.
use Rattle.std.proofs.Common.{◌≤◌, ◌-◌, arith}
use Rattle.least_costs.specs.Code.Places.{between}
use Rattle.least_costs.specs.Code.Marks.{mark_at}
use Rattle.least_costs.proofs.FarLemmas.{estimate}
use Rattle.least_costs.proofs.goal_search.GoalSearch.at_least.Goals as goal

pub returns : goal.returns
returns c = λ m is.
    let s = c.args.self.now in
    let n = c.min.result in
    let found : n ≤ mark_at s.marks c.args.cell = omega (arith, c.min.ensures, c.at.ensures.mark) in
    let left : n ≤ s.through - between c.args.cell s.start = omega (arith, c.min.ensures, c.found_within.ensures) in
    estimate m s.goal s.start s.marks s.next.items s.later.items s.through is c.args.cell n found left
