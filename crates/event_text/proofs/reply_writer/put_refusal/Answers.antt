-- The word, the name, and then the numbers, if there are any.
use Rattle.std.proofs.Common.{[], ◌∷◌, ◌++◌, refl, sym, ap, ◌∙◌, append-nil, codes}
use Rattle.std.proofs.lemmas.Result.{err_from_is_err_and}
use Rattle.text_io.specs.Laws.Putting.{Leaves-all, Leaves-less, Leaves-broken, Puts-last, Breaks-last}
use Rattle.event_text.specs.ReplyText.{refusal_name, refusal_numbers}
use Rattle.text_io.specs.Text.{spaced_numbers}
use Rattle.event_text.proofs.ReplyLemmas.{numbers-none}
use Rattle.event_text.proofs.reply_writer.put_refusal.Goals as goal

pub returns-in_err-put-clause-err : goal.returns-in_err-put-clause-err
returns-in_err-put-clause-err g c =
    let p = err_from_is_err_and c.from_residual.result c.from_residual.ensures.1 in
    let rest = refusal_name c.args.why ++ spaced_numbers (refusal_numbers c.args.why) in
    let all = Leaves-all g.W.Write.contents _ (codes "refused " ++ rest) (codes "refused " ++ rest) refl in
    rw p.1 (Leaves-broken g.W.Write.contents _ _ _ _ (codes "refused ") rest _ all refl c.in_err-put.ensures.err)

pub returns-in-Waits-clause-ok : goal.returns-in-Waits-clause-ok
returns-in-Waits-clause-ok g c =
    let rest = refusal_name c.args.why ++ spaced_numbers (refusal_numbers c.args.why) in
    let all = Leaves-all g.W.Write.contents _ (codes "refused " ++ rest) (codes "refused " ++ rest) refl in
    let less = Leaves-less g.W.Write.contents _ _ _ _ (codes "refused ") rest _ all refl c.in_ok-put.ensures.ok in
    let name = c.as_bytes-name.ensures.value ∙ c.refusal_name.ensures in
    let j = c.from.ensures in
    let count = c.from-in-Waits.ensures in
    let given = ap (λ n. n ++ spaced_numbers (c.from.result ∷ c.from-in-Waits.result ∷ [])) name
    ∙ (ap (λ n. refusal_name c.args.why ++ spaced_numbers (n ∷ c.from-in-Waits.result ∷ [])) j
    ∙ (ap (λ n. refusal_name c.args.why ++ spaced_numbers (c.in-Waits.j ∷ n ∷ [])) count
    ∙ ap (λ w. refusal_name c.args.why ++ spaced_numbers (refusal_numbers w)) (sym c.in-Waits.is))) in
    Puts-last g.W.Write.contents _ _ _ _ rest _ c.put_numbers.result less given c.put_numbers.ensures.ok

pub returns-in-Waits-clause-err : goal.returns-in-Waits-clause-err
returns-in-Waits-clause-err g c =
    let rest = refusal_name c.args.why ++ spaced_numbers (refusal_numbers c.args.why) in
    let all = Leaves-all g.W.Write.contents _ (codes "refused " ++ rest) (codes "refused " ++ rest) refl in
    let less = Leaves-less g.W.Write.contents _ _ _ _ (codes "refused ") rest _ all refl c.in_ok-put.ensures.ok in
    let name = c.as_bytes-name.ensures.value ∙ c.refusal_name.ensures in
    let j = c.from.ensures in
    let count = c.from-in-Waits.ensures in
    let given = ap (λ n. n ++ spaced_numbers (c.from.result ∷ c.from-in-Waits.result ∷ [])) name
    ∙ (ap (λ n. refusal_name c.args.why ++ spaced_numbers (n ∷ c.from-in-Waits.result ∷ [])) j
    ∙ (ap (λ n. refusal_name c.args.why ++ spaced_numbers (c.in-Waits.j ∷ n ∷ [])) count
    ∙ ap (λ w. refusal_name c.args.why ++ spaced_numbers (refusal_numbers w)) (sym c.in-Waits.is))) in
    Breaks-last g.W.Write.contents _ _ _ _ rest _ c.put_numbers.result less given c.put_numbers.ensures.err

pub returns-in-BadEntry-clause-ok : goal.returns-in-BadEntry-clause-ok
returns-in-BadEntry-clause-ok g c =
    let rest = refusal_name c.args.why ++ spaced_numbers (refusal_numbers c.args.why) in
    let all = Leaves-all g.W.Write.contents _ (codes "refused " ++ rest) (codes "refused " ++ rest) refl in
    let less = Leaves-less g.W.Write.contents _ _ _ _ (codes "refused ") rest _ all refl c.in_ok-put.ensures.ok in
    let name = c.as_bytes-name.ensures.value ∙ c.refusal_name.ensures in
    let given = ap (λ n. n ++ spaced_numbers (c.from-in-BadEntry.result ∷ [])) name
    ∙ (ap (λ n. refusal_name c.args.why ++ spaced_numbers (n ∷ [])) c.from-in-BadEntry.ensures
    ∙ ap (λ w. refusal_name c.args.why ++ spaced_numbers (refusal_numbers w)) (sym c.in-BadEntry.is)) in
    Puts-last g.W.Write.contents _ _ _ _ rest _ c.put_numbers-in-BadEntry.result less given c.put_numbers-in-BadEntry.ensures.ok

pub returns-in-BadEntry-clause-err : goal.returns-in-BadEntry-clause-err
returns-in-BadEntry-clause-err g c =
    let rest = refusal_name c.args.why ++ spaced_numbers (refusal_numbers c.args.why) in
    let all = Leaves-all g.W.Write.contents _ (codes "refused " ++ rest) (codes "refused " ++ rest) refl in
    let less = Leaves-less g.W.Write.contents _ _ _ _ (codes "refused ") rest _ all refl c.in_ok-put.ensures.ok in
    let name = c.as_bytes-name.ensures.value ∙ c.refusal_name.ensures in
    let given = ap (λ n. n ++ spaced_numbers (c.from-in-BadEntry.result ∷ [])) name
    ∙ (ap (λ n. refusal_name c.args.why ++ spaced_numbers (n ∷ [])) c.from-in-BadEntry.ensures
    ∙ ap (λ w. refusal_name c.args.why ++ spaced_numbers (refusal_numbers w)) (sym c.in-BadEntry.is)) in
    Breaks-last g.W.Write.contents _ _ _ _ rest _ c.put_numbers-in-BadEntry.result less given c.put_numbers-in-BadEntry.ensures.err

pub returns-in_default : goal.returns-in_default
returns-in_default g c =
    let rest = refusal_name c.args.why ++ spaced_numbers (refusal_numbers c.args.why) in
    let all = Leaves-all g.W.Write.contents _ (codes "refused " ++ rest) (codes "refused " ++ rest) refl in
    let less = Leaves-less g.W.Write.contents _ _ _ _ (codes "refused ") rest _ all refl c.in_ok-put.ensures.ok in
    let name = c.as_bytes-name.ensures.value ∙ c.refusal_name.ensures in
    let none = ap (λ ns. refusal_name c.args.why ++ spaced_numbers ns) (numbers-none c.args.why c.in_default.not-Waits c.in_default.not-BadEntry) in
    let given = name ∙ sym (none ∙ append-nil (refusal_name c.args.why)) in
    record {
      ok = Puts-last g.W.Write.contents _ _ _ _ rest _ c.put-in_default.result less given c.put-in_default.ensures.ok;
      err = Breaks-last g.W.Write.contents _ _ _ _ rest _ c.put-in_default.result less given c.put-in_default.ensures.err;
    }
