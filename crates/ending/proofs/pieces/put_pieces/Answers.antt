-- Each turn puts the first of the pieces that are left.
use Rattle.std.proofs.Common.{◌+◌, drop, subst, refl}
use Rattle.std.proofs.lemmas.List.{at_drop_more}
use Rattle.std.proofs.lemmas.Result.{err_from_is_err_and}
use Rattle.text_io.specs.Sink.{Leaves}
use Rattle.text_io.specs.Laws.Putting.{Leaves-less, Leaves-broken}
use Rattle.ending.specs.Pieces.{pieces_of, pieces_text}
use Rattle.ending.proofs.pieces.put_pieces.Goals as goal

pub returns-in_err-put_piece-clause-err : goal.returns-in_err-put_piece-clause-err
returns-in_err-put_piece-clause-err g c =
    let p = err_from_is_err_and c.from_residual.result c.from_residual.ensures.1 in
    let at = c.loop-piece.piece-index in
    let left = pieces_text (pieces_of (drop (at + 1) c.args.pieces.now)) in
    let next = subst (Leaves g.W.Write.contents _ _ _) (at_drop_more (λ l. pieces_text (pieces_of l)) c.args.pieces.now at _ c.loop-piece-test.true) c.loop-piece.invariant in
    rw p.1 (Leaves-broken g.W.Write.contents _ _ _ _ _ left _ next refl c.in_err-put_piece.ensures.err)

pub loop-piece-preserved : goal.loop-piece-preserved
loop-piece-preserved g c =
    let at = c.loop-piece.piece-index in
    let left = pieces_text (pieces_of (drop (at + 1) c.args.pieces.now)) in
    let next = subst (Leaves g.W.Write.contents _ _ _) (at_drop_more (λ l. pieces_text (pieces_of l)) c.args.pieces.now at _ c.loop-piece-test.true) c.loop-piece.invariant in
    Leaves-less g.W.Write.contents _ _ _ _ _ left _ next refl c.in_ok-put_piece.ensures.ok
