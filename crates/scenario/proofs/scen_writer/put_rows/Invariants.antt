-- The lines of the rows that follow are left.
use Rattle.std.proofs.Common.{drop, map}
use Rattle.text_io.specs.Text.{ended}
use Rattle.scenario.specs.Query.{row_line}
use Rattle.text_io.specs.Sink.{Leaves}
use Rattle.scenario.proofs.scen_writer.put_rows.Given as goal

abbrev pub invariant-loop-row : goal.invariant-loop-row
invariant-loop-row g l =
    Leaves g.W.Write.contents l.fn.sink l.sink (ended (map row_line l.rows)) (ended (map row_line (drop l.row-index l.rows)))
