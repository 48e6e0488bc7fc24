-- With the acts of the others it is that of all.
use Rattle.std.proofs.Common.{◌≡◌, max, drop}
use Rattle.model.specs.Plan.{longest_of}
use Rattle.plan_commands.proofs.path_text.count_of_times.Given as goal

abbrev pub invariant-loop-course : goal.invariant-loop-course
invariant-loop-course l = max l.most (longest_of (drop l.course-index l.courses)) ≡ longest_of l.courses
