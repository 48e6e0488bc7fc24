-- No act before was another.
use Rattle.std.proofs.Common.{◌≡◌, ◌<◌, ℕ}
use Rattle.continuing.specs.Code.Apart.{act_in_step}
use Rattle.continuing.proofs.departing.first_other.Given as goal

abbrev pub invariant-loop-step : goal.invariant-loop-step
invariant-loop-step l = (t : ℕ) → t < l.step → act_in_step l.new t ≡ act_in_step l.old t
