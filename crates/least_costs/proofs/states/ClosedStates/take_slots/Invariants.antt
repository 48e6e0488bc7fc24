use Rattle.std.proofs.Common.{◌≡◌}
use Rattle.least_costs.proofs.states.ClosedStates.take_slots.Given as goal

abbrev pub invariant-loop-place : goal.invariant-loop-place
invariant-loop-place l = l.self ≡ l.fn.self
