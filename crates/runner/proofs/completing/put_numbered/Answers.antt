-- The word, a space with the number, and the LF.
use Rattle.std.proofs.Common.{[], ◌∷◌, ◌++◌, refl, sym, append_assoc}
use Rattle.std.specs.Prelude.{decimal}
use Rattle.std.proofs.lemmas.Result.{err_from_is_err_and}
use Rattle.text_io.specs.Text.{space, line_feed}
use Rattle.text_io.specs.Laws.Putting.{Leaves-all, Leaves-less, Leaves-broken, Puts-last, Breaks-last}
use Rattle.runner.proofs.completing.put_numbered.Goals as goal

pub returns-in_err-put-clause-err : goal.returns-in_err-put-clause-err
returns-in_err-put-clause-err g c =
    let p = err_from_is_err_and c.from_residual.result c.from_residual.ensures.1 in
    let word = c.args.word.now in
    let number = space ∷ decimal c.args.number in
    let rest = number ++ line_feed ∷ [] in
    let all = Leaves-all g.W.Write.contents _ ((word ++ number) ++ line_feed ∷ []) (word ++ rest) (sym (append_assoc word number (line_feed ∷ []))) in
    rw p.1 (Leaves-broken g.W.Write.contents _ _ _ _ word rest _ all refl c.in_err-put.ensures.err)

pub returns-in_err-put_number_after-clause-err : goal.returns-in_err-put_number_after-clause-err
returns-in_err-put_number_after-clause-err g c =
    let p = err_from_is_err_and c.from_residual-in_err-put_number_after.result c.from_residual-in_err-put_number_after.ensures.1 in
    let word = c.args.word.now in
    let number = space ∷ decimal c.args.number in
    let rest = number ++ line_feed ∷ [] in
    let all = Leaves-all g.W.Write.contents _ ((word ++ number) ++ line_feed ∷ []) (word ++ rest) (sym (append_assoc word number (line_feed ∷ []))) in
    let less = Leaves-less g.W.Write.contents _ _ _ _ word rest _ all refl c.in_ok-put.ensures.ok in
    rw p.1 (Leaves-broken g.W.Write.contents _ _ _ _ number (line_feed ∷ []) _ less refl c.in_err-put_number_after.ensures.err)

pub returns-clause-ok : goal.returns-clause-ok
returns-clause-ok g c =
    let word = c.args.word.now in
    let number = space ∷ decimal c.args.number in
    let rest = number ++ line_feed ∷ [] in
    let all = Leaves-all g.W.Write.contents _ ((word ++ number) ++ line_feed ∷ []) (word ++ rest) (sym (append_assoc word number (line_feed ∷ []))) in
    let less = Leaves-less g.W.Write.contents _ _ _ _ word rest _ all refl c.in_ok-put.ensures.ok in
    let last = Leaves-less g.W.Write.contents _ _ _ _ number (line_feed ∷ []) _ less refl c.in_ok-put_number_after.ensures.ok in
    Puts-last g.W.Write.contents _ _ _ _ (line_feed ∷ []) _ c.put_byte.result last refl c.put_byte.ensures.ok

pub returns-clause-err : goal.returns-clause-err
returns-clause-err g c =
    let word = c.args.word.now in
    let number = space ∷ decimal c.args.number in
    let rest = number ++ line_feed ∷ [] in
    let all = Leaves-all g.W.Write.contents _ ((word ++ number) ++ line_feed ∷ []) (word ++ rest) (sym (append_assoc word number (line_feed ∷ []))) in
    let less = Leaves-less g.W.Write.contents _ _ _ _ word rest _ all refl c.in_ok-put.ensures.ok in
    let last = Leaves-less g.W.Write.contents _ _ _ _ number (line_feed ∷ []) _ less refl c.in_ok-put_number_after.ensures.ok in
    Breaks-last g.W.Write.contents _ _ _ _ (line_feed ∷ []) _ c.put_byte.result last refl c.put_byte.ensures.err
