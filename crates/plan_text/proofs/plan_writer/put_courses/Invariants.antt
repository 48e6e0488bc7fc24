-- The lines of the agents that follow are left.
use Rattle.std.proofs.Common.{drop, map}
use Rattle.text_io.specs.Text.{ended}
use Rattle.text_io.specs.Sink.{Leaves}
use Rattle.plan_text.specs.PlanText.{course_line}
use Rattle.plan_text.proofs.plan_writer.put_courses.Given as goal

abbrev pub invariant-loop-course : goal.invariant-loop-course
invariant-loop-course g l =
    Leaves g.W.Write.contents l.fn.sink l.sink (ended (map course_line l.courses)) (ended (map course_line (drop l.course-index l.courses)))
