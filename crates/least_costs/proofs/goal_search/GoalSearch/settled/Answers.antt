-- By the steps from the cell to the goal, one by one.
use Rattle.std.proofs.Common.{◌≤◌, ◌-◌, arith}
use Rattle.least_costs.specs.Code.Places.{between}
use Rattle.least_costs.specs.Code.Marks.{mark_at}
use Rattle.least_costs.proofs.FarLemmas.{estimate}
use Rattle.least_costs.proofs.goal_search.GoalSearch.settled.Goals as goal

pub returns-then-mark-found_within : goal.returns-then-mark-found_within
returns-then-mark-found_within c = λ m is.
    let s = c.args.self.now in
    let n = c.at-mark.result in
    let found : n ≤ mark_at s.marks c.args.cell = omega (arith, c.at-mark.ensures.mark) in
    let left : n ≤ s.through - between c.args.cell s.start = omega (arith, c.if-mark-found_within.true, c.found_within.ensures) in
    estimate m s.goal s.start s.marks s.next.items s.later.items s.through is c.args.cell n found left
