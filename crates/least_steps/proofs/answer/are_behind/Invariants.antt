use Rattle.std.proofs.Common.{◌≡◌, ℕ, ◌<◌, Some}
use Rattle.std.specs.Prelude.{slice_get}
use Rattle.least_steps.specs.declared.open_list.Open.{Open}
use Rattle.least_steps.specs.Code.Waiting.{IsBehind}
use Rattle.least_steps.proofs.answer.are_behind.Given as goal

abbrev pub invariant-loop-place : goal.invariant-loop-place
invariant-loop-place l = (k : ℕ) (p : Open) → k < l.place-index → slice_get l.places k ≡ Some p → IsBehind l.reached l.goal p
