-- The cells that follow are left.
use Rattle.std.proofs.Common.{[], ◌∷◌, ◌++◌, drop}
use Rattle.text_io.specs.Sink.{Leaves}
use Rattle.text_io.specs.Text.{line_feed}
use Rattle.carrier_text.specs.AnswerLines.{go_line}
use Rattle.carrier_text.proofs.WayLemmas.{way_left}
use Rattle.carrier_text.proofs.answer_lines.put_go.Given as goal

abbrev pub invariant-loop-cell : goal.invariant-loop-cell
invariant-loop-cell g l = Leaves g.W.Write.contents l.fn.sink l.sink (go_line l.cells ++ line_feed ∷ []) (way_left (drop l.cell-index l.cells))
