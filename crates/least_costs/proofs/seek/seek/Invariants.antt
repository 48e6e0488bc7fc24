use Rattle.std.proofs.Common.{◌≡◌}
use Rattle.least_costs.specs.Code.Searching.{AllCost, IsCostSearch, wanted}
use Rattle.least_costs.proofs.seek.seek.Given as goal

abbrev pub invariant-loop-budget : goal.invariant-loop-budget
invariant-loop-budget l = (l.goal ≡ l.fn.goal) × IsCostSearch (wanted l.fn.goal l.query) l.budget l.front × (AllCost (wanted l.fn.goal l.query) l.first → AllCost (wanted l.fn.goal l.query) l.budget)
