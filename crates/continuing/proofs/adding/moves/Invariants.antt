-- With the moves of the others it is those of all.
use Rattle.std.proofs.Common.{◌≡◌, ◌+◌, drop}
use Rattle.continuing.specs.Adding.{moves_made}
use Rattle.continuing.proofs.adding.moves.Given as goal

abbrev pub invariant-loop-course : goal.invariant-loop-course
invariant-loop-course l = l.count + moves_made (drop l.course-index l.courses) ≡ moves_made l.courses
