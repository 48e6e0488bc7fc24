-- The word, and then the number.
use Rattle.std.proofs.Common.{◌++◌, append_assoc, refl, sym}
use Rattle.std.specs.Prelude.{codes, decimal}
use Rattle.std.proofs.lemmas.Result.{err_from_is_err_and}
use Rattle.text_io.specs.Laws.Putting.{Leaves-all, Leaves-less, Leaves-broken, Puts-last, Breaks-last}
use Rattle.ending.proofs.writing.put_number.Goals as goal

pub returns-in_err-put-clause-err : goal.returns-in_err-put-clause-err
returns-in_err-put-clause-err g c =
    let p = err_from_is_err_and c.from_residual.result c.from_residual.ensures.1 in
    let number = codes " " ++ decimal c.args.number in
    let all = Leaves-all g.W.Write.contents _ _ (c.args.word.now ++ number) (sym (append_assoc c.args.word.now (codes " ") (decimal c.args.number))) in
    rw p.1 (Leaves-broken g.W.Write.contents _ _ _ _ c.args.word.now number _ all refl c.in_err-put.ensures.err)

pub returns-clause-ok : goal.returns-clause-ok
returns-clause-ok g c =
    let number = codes " " ++ decimal c.args.number in
    let all = Leaves-all g.W.Write.contents _ _ (c.args.word.now ++ number) (sym (append_assoc c.args.word.now (codes " ") (decimal c.args.number))) in
    let less = Leaves-less g.W.Write.contents _ _ _ _ c.args.word.now number _ all refl c.in_ok-put.ensures.ok in
    Puts-last g.W.Write.contents _ _ _ _ number _ c.put_number_after.result less refl c.put_number_after.ensures.ok

pub returns-clause-err : goal.returns-clause-err
returns-clause-err g c =
    let number = codes " " ++ decimal c.args.number in
    let all = Leaves-all g.W.Write.contents _ _ (c.args.word.now ++ number) (sym (append_assoc c.args.word.now (codes " ") (decimal c.args.number))) in
    let less = Leaves-less g.W.Write.contents _ _ _ _ c.args.word.now number _ all refl c.in_ok-put.ensures.ok in
    Breaks-last g.W.Write.contents _ _ _ _ number _ c.put_number_after.result less refl c.put_number_after.ensures.err
