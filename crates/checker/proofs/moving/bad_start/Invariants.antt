use Rattle.std.proofs.Common.{◌≡◌, ◌<◌, ℕ, Some}
use Rattle.std.specs.Prelude.{slice_get}
use Rattle.model.specs.Plan.{Course, IsPassable}
use Rattle.checker.proofs.moving.bad_start.Given as goal

-- each start before is passable
abbrev pub invariant-loop-agent : goal.invariant-loop-agent
invariant-loop-agent l = (i : ℕ) (course : Course) → i < l.agent → slice_get l.courses i ≡ Some course → IsPassable l.map course.start
