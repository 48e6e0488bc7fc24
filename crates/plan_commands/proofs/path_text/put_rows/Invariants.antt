-- The lines of the times that follow are left, and the agents stand where they are at the first of these.
use Rattle.std.proofs.Common.{◌≡◌, ◌-◌}
use Rattle.text_io.specs.Text.{ended}
use Rattle.text_io.specs.Sink.{Leaves}
use Rattle.plan_commands.specs.PathText.{count_of_times, path_lines, path_text}
use Rattle.plan_commands.specs.Code.Rows.{row_at, rows_from, rows_of_courses}
use Rattle.plan_commands.specs.Code.Walks.{AreStretches, begun}
use Rattle.plan_commands.proofs.path_text.put_rows.Given as goal

abbrev pub invariant-loop-time : goal.invariant-loop-time
invariant-loop-time g l = record {
  left : Leaves g.W.Write.contents l.fn.sink l.sink (path_text (rows_of_courses l.courses))
      (ended (path_lines l.time (rows_from l.courses l.time (count_of_times l.courses - l.time))));
  cells : l.cells ≡ row_at l.courses l.time;
  stretches : AreStretches l.courses (begun l.time) l.stretches;
}
