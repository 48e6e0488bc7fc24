-- The word, and then the number.
use Rattle.std.proofs.Common.{◌∙◌, ◌++◌, refl}
use Rattle.std.specs.Prelude.{decimal}
use Rattle.std.proofs.lemmas.Result.{err_from_is_err_and}
use Rattle.text_io.specs.Laws.Putting.{Leaves-all, Leaves-less, Leaves-broken, Puts-last, Breaks-last}
use Rattle.ending.proofs.pieces.put_piece.Goals as goal

pub returns-in_err-put-clause-err : goal.returns-in_err-put-clause-err
returns-in_err-put-clause-err g c =
    let p = err_from_is_err_and c.from_residual.result c.from_residual.ensures.1 in
    let word = c.args.piece.now.word.now in
    let number = decimal c.args.piece.now.number in
    let all = Leaves-all g.W.Write.contents _ _ (word ++ number) refl in
    rw p.1 (Leaves-broken g.W.Write.contents _ _ _ _ word number _ all refl c.in_err-put.ensures.err)

pub returns-clause-ok : goal.returns-clause-ok
returns-clause-ok g c =
    let word = c.args.piece.now.word.now in
    let number = decimal c.args.piece.now.number in
    let all = Leaves-all g.W.Write.contents _ _ (word ++ number) refl in
    let less = Leaves-less g.W.Write.contents _ _ _ _ word number _ all refl c.in_ok-put.ensures.ok in
    Puts-last g.W.Write.contents _ _ _ _ number _ c.put-2.result less (c.as_bytes.ensures.value ∙ c.format.ensures.text) c.put-2.ensures.ok

pub returns-clause-err : goal.returns-clause-err
returns-clause-err g c =
    let word = c.args.piece.now.word.now in
    let number = decimal c.args.piece.now.number in
    let all = Leaves-all g.W.Write.contents _ _ (word ++ number) refl in
    let less = Leaves-less g.W.Write.contents _ _ _ _ word number _ all refl c.in_ok-put.ensures.ok in
    Breaks-last g.W.Write.contents _ _ _ _ number _ c.put-2.result less (c.as_bytes.ensures.value ∙ c.format.ensures.text) c.put-2.ensures.err
