-- What is left can only add to it.
use Rattle.std.proofs.Common.{◌≡◌, drop}
use Rattle.std.specs.Prelude.{max}
use Rattle.model.specs.Plan.{longest_of}
use Rattle.checker.proofs.finding.longest.Given as goal

abbrev pub invariant-loop-course : goal.invariant-loop-course
invariant-loop-course l = max l.longest (longest_of (drop l.course-index l.courses)) ≡ longest_of l.courses
