-- The pieces that follow are left.
use Rattle.std.proofs.Common.{drop}
use Rattle.text_io.specs.Sink.{Leaves}
use Rattle.ending.specs.Pieces.{pieces_of, pieces_text}
use Rattle.ending.proofs.pieces.put_pieces.Given as goal

abbrev pub invariant-loop-piece : goal.invariant-loop-piece
invariant-loop-piece g l =
    Leaves g.W.Write.contents l.fn.sink l.sink (pieces_text (pieces_of l.pieces)) (pieces_text (pieces_of (drop l.piece-index l.pieces)))
