-- The pieces, and then the end.
use Rattle.std.proofs.Common.{◌++◌, refl}
use Rattle.std.proofs.lemmas.Result.{err_from_is_err_and}
use Rattle.text_io.specs.Laws.Putting.{Leaves-all, Leaves-less, Leaves-broken, Puts-last, Breaks-last}
use Rattle.ending.specs.Pieces.{pieces_of, pieces_text}
use Rattle.ending.proofs.pieces.put_ended.Goals as goal

pub returns-in_err-put_pieces-clause-err : goal.returns-in_err-put_pieces-clause-err
returns-in_err-put_pieces-clause-err g c =
    let p = err_from_is_err_and c.from_residual.result c.from_residual.ensures.1 in
    let pieces = pieces_text (pieces_of c.args.pieces.now) in
    let all = Leaves-all g.W.Write.contents _ _ (pieces ++ c.args.end.now) refl in
    rw p.1 (Leaves-broken g.W.Write.contents _ _ _ _ pieces c.args.end.now _ all refl c.in_err-put_pieces.ensures.err)

pub returns-clause-ok : goal.returns-clause-ok
returns-clause-ok g c =
    let pieces = pieces_text (pieces_of c.args.pieces.now) in
    let all = Leaves-all g.W.Write.contents _ _ (pieces ++ c.args.end.now) refl in
    let less = Leaves-less g.W.Write.contents _ _ _ _ pieces c.args.end.now _ all refl c.in_ok-put_pieces.ensures.ok in
    Puts-last g.W.Write.contents _ _ _ _ c.args.end.now _ c.put.result less refl c.put.ensures.ok

pub returns-clause-err : goal.returns-clause-err
returns-clause-err g c =
    let pieces = pieces_text (pieces_of c.args.pieces.now) in
    let all = Leaves-all g.W.Write.contents _ _ (pieces ++ c.args.end.now) refl in
    let less = Leaves-less g.W.Write.contents _ _ _ _ pieces c.args.end.now _ all refl c.in_ok-put_pieces.ensures.ok in
    Breaks-last g.W.Write.contents _ _ _ _ c.args.end.now _ c.put.result less refl c.put.ensures.err
