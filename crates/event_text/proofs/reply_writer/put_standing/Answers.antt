-- The word and the places, and then the number of moves.
use Rattle.std.proofs.Common.{[], ◌∷◌, ◌++◌, refl, sym, ap, append_assoc, codes}
use Rattle.std.proofs.lemmas.Result.{err_from_is_err_and}
use Rattle.text_io.specs.Laws.Putting.{Leaves-all, Leaves-less, Leaves-broken, Puts-last, Breaks-last}
use Rattle.event_text.specs.ReplyText.{standing_line}
use Rattle.text_io.specs.Text.{spaced_numbers}
use Rattle.event_text.proofs.reply_writer.put_standing.Goals as goal

pub returns-in_err-put_numbers-clause-err : goal.returns-in_err-put_numbers-clause-err
returns-in_err-put_numbers-clause-err g c =
    let p = err_from_is_err_and c.from_residual.result c.from_residual.ensures.1 in
    let front = c.args.word.now ++ spaced_numbers c.args.places.now in
    let rest = codes " done" ++ spaced_numbers (c.args.finished ∷ []) in
    let all = Leaves-all g.W.Write.contents _ (standing_line c.args.word.now c.args.places.now c.args.finished) (front ++ rest)
    (sym (append_assoc front (codes " done") (spaced_numbers (c.args.finished ∷ [])))) in
    rw p.1 (Leaves-broken g.W.Write.contents _ _ _ _ front rest _ all refl c.in_err-put_numbers.ensures.err)

pub returns-clause-ok : goal.returns-clause-ok
returns-clause-ok g c =
    let front = c.args.word.now ++ spaced_numbers c.args.places.now in
    let rest = codes " done" ++ spaced_numbers (c.args.finished ∷ []) in
    let all = Leaves-all g.W.Write.contents _ (standing_line c.args.word.now c.args.places.now c.args.finished) (front ++ rest)
    (sym (append_assoc front (codes " done") (spaced_numbers (c.args.finished ∷ [])))) in
    let less = Leaves-less g.W.Write.contents _ _ _ _ front rest _ all refl c.in_ok-put_numbers.ensures.ok in
    Puts-last g.W.Write.contents _ _ _ _ rest _ c.put_numbers-2.result less (ap (λ n. codes " done" ++ spaced_numbers (n ∷ [])) c.from.ensures) c.put_numbers-2.ensures.ok

pub returns-clause-err : goal.returns-clause-err
returns-clause-err g c =
    let front = c.args.word.now ++ spaced_numbers c.args.places.now in
    let rest = codes " done" ++ spaced_numbers (c.args.finished ∷ []) in
    let all = Leaves-all g.W.Write.contents _ (standing_line c.args.word.now c.args.places.now c.args.finished) (front ++ rest)
    (sym (append_assoc front (codes " done") (spaced_numbers (c.args.finished ∷ [])))) in
    let less = Leaves-less g.W.Write.contents _ _ _ _ front rest _ all refl c.in_ok-put_numbers.ensures.ok in
    Breaks-last g.W.Write.contents _ _ _ _ rest _ c.put_numbers-2.result less (ap (λ n. codes " done" ++ spaced_numbers (n ∷ [])) c.from.ensures) c.put_numbers-2.ensures.err
