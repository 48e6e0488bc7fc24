-- The lines that follow are left.
use Rattle.std.proofs.Common.{drop}
use Rattle.std.specs.List.{flat_map}
use Rattle.text_io.specs.Sink.{Leaves}
use Rattle.fleet_commands.specs.StatusText.{status_line}
use Rattle.fleet_commands.proofs.status_line.put_all.Given as goal

abbrev pub invariant-loop-line : goal.invariant-loop-line
invariant-loop-line g l = Leaves g.W.Write.contents l.fn.sink l.sink (flat_map (status_line l.fn.json) l.lines) (flat_map (status_line l.fn.json) (drop l.line-index l.lines))
