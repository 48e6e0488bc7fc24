-- The word, the number's digits, and then what follows them.
use Rattle.std.proofs.Common.{◌++◌, refl, sym, ◌∙◌, append_assoc}
use Rattle.std.specs.Prelude.{decimal}
use Rattle.std.proofs.lemmas.Result.{err_from_is_err_and}
use Rattle.text_io.specs.Laws.Putting.{Leaves-all, Leaves-less, Leaves-broken, Puts-last, Breaks-last}
use Rattle.plan_text.proofs.plan_writer.put_number.Goals as goal

pub returns-in_err-put-clause-err : goal.returns-in_err-put-clause-err
returns-in_err-put-clause-err g c =
    let p = err_from_is_err_and c.from_residual.result c.from_residual.ensures.1 in
    let word = c.args.word.now in
    let rest = decimal c.args.number ++ c.args.end.now in
    let all = Leaves-all g.W.Write.contents _ (word ++ decimal c.args.number ++ c.args.end.now) (word ++ rest)
    (sym (append_assoc word (decimal c.args.number) c.args.end.now)) in
    rw p.1 (Leaves-broken g.W.Write.contents _ _ _ _ word rest _ all refl c.in_err-put.ensures.err)

pub returns-in_err-put-2-clause-err : goal.returns-in_err-put-2-clause-err
returns-in_err-put-2-clause-err g c =
    let p = err_from_is_err_and c.from_residual-in_err-put-2.result c.from_residual-in_err-put-2.ensures.1 in
    let word = c.args.word.now in
    let rest = decimal c.args.number ++ c.args.end.now in
    let all = Leaves-all g.W.Write.contents _ (word ++ decimal c.args.number ++ c.args.end.now) (word ++ rest)
    (sym (append_assoc word (decimal c.args.number) c.args.end.now)) in
    let less = Leaves-less g.W.Write.contents _ _ _ _ word rest _ all refl c.in_ok-put.ensures.ok in
    rw p.1 (Leaves-broken g.W.Write.contents _ _ _ _ (decimal c.args.number) c.args.end.now _ less
    (c.as_bytes.ensures.value ∙ c.format.ensures.text) c.in_err-put-2.ensures.err)

pub returns-clause-ok : goal.returns-clause-ok
returns-clause-ok g c =
    let word = c.args.word.now in
    let rest = decimal c.args.number ++ c.args.end.now in
    let all = Leaves-all g.W.Write.contents _ (word ++ decimal c.args.number ++ c.args.end.now) (word ++ rest)
    (sym (append_assoc word (decimal c.args.number) c.args.end.now)) in
    let less = Leaves-less g.W.Write.contents _ _ _ _ word rest _ all refl c.in_ok-put.ensures.ok in
    let last = Leaves-less g.W.Write.contents _ _ _ _ (decimal c.args.number) c.args.end.now _ less
    (c.as_bytes.ensures.value ∙ c.format.ensures.text) c.in_ok-put-2.ensures.ok in
    Puts-last g.W.Write.contents _ _ _ _ c.args.end.now _ c.put-3.result last refl c.put-3.ensures.ok

pub returns-clause-err : goal.returns-clause-err
returns-clause-err g c =
    let word = c.args.word.now in
    let rest = decimal c.args.number ++ c.args.end.now in
    let all = Leaves-all g.W.Write.contents _ (word ++ decimal c.args.number ++ c.args.end.now) (word ++ rest)
    (sym (append_assoc word (decimal c.args.number) c.args.end.now)) in
    let less = Leaves-less g.W.Write.contents _ _ _ _ word rest _ all refl c.in_ok-put.ensures.ok in
    let last = Leaves-less g.W.Write.contents _ _ _ _ (decimal c.args.number) c.args.end.now _ less
    (c.as_bytes.ensures.value ∙ c.format.ensures.text) c.in_ok-put-2.ensures.ok in
    Breaks-last g.W.Write.contents _ _ _ _ c.args.end.now _ c.put-3.result last refl c.put-3.ensures.err
