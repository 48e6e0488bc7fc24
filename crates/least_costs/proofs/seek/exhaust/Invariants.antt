use Rattle.std.proofs.Common.{◌≡◌}
use Rattle.least_costs.specs.Code.Searching.{IsCostSearch, wanted}
use Rattle.least_costs.proofs.seek.exhaust.Given as goal

abbrev pub invariant-loop : goal.invariant-loop
invariant-loop l = (l.goal ≡ l.fn.goal) × IsCostSearch (wanted l.fn.goal l.query) l.budget l.front
