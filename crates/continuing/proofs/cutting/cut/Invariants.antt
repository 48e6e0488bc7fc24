-- The courses before are cut.
use Rattle.std.proofs.Common.{◌≡◌, take, map}
use Rattle.continuing.specs.Continuing.{cut_course}
use Rattle.continuing.proofs.cutting.cut.Given as goal

abbrev pub invariant-loop-course : goal.invariant-loop-course
invariant-loop-course l = (l.kept.number ≡ l.plan.number) × (l.kept.courses ≡ map (cut_course l.time) (take l.course-index l.plan.courses))
