use Rattle.std.proofs.Common.{◌≡◌, ◌<◌, ℕ, Some}
use Rattle.std.specs.Prelude.{slice_get}
use Rattle.model.specs.Plan.{Course}
use Rattle.checker.specs.Moving.{KeepsToGround}
use Rattle.checker.proofs.straying.may_stray.Given as goal

-- the agents before keep to their ground
abbrev pub invariant-loop-agent : goal.invariant-loop-agent
invariant-loop-agent l = (i : ℕ) (course : Course) → i < l.agent → slice_get l.courses i ≡ Some course → KeepsToGround l.map course
