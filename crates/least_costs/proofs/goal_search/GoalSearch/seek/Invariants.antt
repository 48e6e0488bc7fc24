use Rattle.std.proofs.Common.{◌≡◌}
use Rattle.least_costs.specs.Code.GoalSearches.{IsGoalSearch}
use Rattle.least_costs.proofs.goal_search.GoalSearch.seek.Given as goal

abbrev pub invariant-loop : goal.invariant-loop
invariant-loop l = IsGoalSearch l.legal l.self × (l.self.goal ≡ l.fn.self.goal)
