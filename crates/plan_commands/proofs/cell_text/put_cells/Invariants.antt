-- The cells that follow are left.
use Rattle.std.proofs.Common.{◌≡◌}
use Rattle.std.specs.Slice.Iter.{chunks_rest, chunks_size}
use Rattle.text_io.specs.Sink.{Leaves}
use Rattle.plan_commands.proofs.CellLemmas.{text_of}
use Rattle.plan_commands.proofs.cell_text.put_cells.Given as goal

abbrev pub invariant-loop-piece : goal.invariant-loop-piece
invariant-loop-piece g l =
    (goal.iterator-loop-piece g).can_next l.piece-iterator
    × (goal.iterator-loop-piece g).is_finite l.piece-iterator
    × (chunks_size l.piece-iterator ≡ 256)
    × Leaves g.W.Write.contents l.fn.sink l.sink (text_of l.cells) (text_of (chunks_rest l.piece-iterator))
