-- The cells that follow are left.
use Rattle.std.proofs.Common.{drop}
use Rattle.text_io.specs.Text.{spaced_numbers}
use Rattle.text_io.specs.Sink.{Leaves}
use Rattle.plan_commands.specs.PathText.{numbers_of}
use Rattle.plan_commands.proofs.cell_text.put_far_cells.Given as goal

abbrev pub invariant-loop-cell : goal.invariant-loop-cell
invariant-loop-cell g l =
    Leaves g.W.Write.contents l.fn.sink l.sink (spaced_numbers (numbers_of l.cells)) (spaced_numbers (numbers_of (drop l.cell-index l.cells)))
