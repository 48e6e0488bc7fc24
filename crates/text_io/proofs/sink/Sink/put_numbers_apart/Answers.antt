-- The word, and in each turn the next number.
use Rattle.std.proofs.Common.{◌≡◌, ℕ, List, ◌+◌, ◌++◌, ◌∷◌, take, drop, get_or, refl, sym, ap, ◌∙◌, subst, arith, append_assoc, append-nil}
use Rattle.std.specs.Prelude.{decimal}
use Rattle.std.proofs.lemmas.List.{take_all}
use Rattle.std.proofs.lemmas.Result.{err_from_is_err_and}
use Rattle.text_io.specs.Sink.{Puts}
use Rattle.text_io.specs.Text.{separated}
use Rattle.text_io.specs.Laws.Putting.{Puts-trans, Breaks-text, Breaks-text-after}
use Rattle.text_io.proofs.SinkLemmas.{separated_more, separated_parts}
use Rattle.text_io.proofs.sink.Sink.put_numbers_apart.Goals as goal

pub returns-in_err-put-clause-err : goal.returns-in_err-put-clause-err
returns-in_err-put-clause-err g c =
    let p = err_from_is_err_and c.from_residual.result c.from_residual.ensures.1 in
    let rest = separated c.args.separator c.args.numbers.now in
    rw p.1 (Breaks-text g.W.Write.contents _ _ c.args.word.now rest (c.args.word.now ++ rest) refl c.in_err-put.ensures.err)

pub loop-number-init : goal.loop-number-init
loop-number-init g c = subst (Puts g.W.Write.contents _ _) (sym (append-nil c.args.word.now)) c.in_ok-put.ensures.ok

pub returns-in_err-put_number_after-clause-err : goal.returns-in_err-put_number_after-clause-err
returns-in_err-put_number_after-clause-err g c =
    let p = err_from_is_err_and c.from_residual-in_err-put_number_after.result c.from_residual-in_err-put_number_after.ensures.1 in
    let sep = c.args.separator in
    let numbers = c.args.numbers.now in
    let i = c.loop-number.number-index in
    let word = c.args.word.now in
    let front = separated sep (take i numbers) in
    let next = sep ∷ decimal (get_or numbers i 0) in
    let rest = separated sep (drop (i + 1) numbers) in
    let all : ((word ++ front) ++ next) ++ rest ≡ word ++ separated sep numbers =
    ap (λ l. l ++ rest) (append_assoc word front next) ∙ (append_assoc word (front ++ next) rest
    ∙ ap (λ l. word ++ l) (sym (separated_parts sep numbers i c.loop-number-test.true))) in
    rw p.1 (Breaks-text-after g.W.Write.contents _ _ _ (word ++ front) next rest (word ++ separated sep numbers) all c.loop-number.invariant
    c.in_err-put_number_after.ensures.err)

pub loop-number-preserved : goal.loop-number-preserved
loop-number-preserved g c =
    let sep = c.args.separator in
    let numbers = c.args.numbers.now in
    let i = c.loop-number.number-index in
    let word = c.args.word.now in
    let front = separated sep (take i numbers) in
    let next = sep ∷ decimal (get_or numbers i 0) in
    let more : (word ++ front) ++ next ≡ word ++ separated sep (take (i + 1) numbers) =
    append_assoc word front next ∙ ap (λ l. word ++ l) (sym (separated_more sep numbers i c.loop-number-test.true)) in
    subst (Puts g.W.Write.contents _ _) more
    (Puts-trans g.W.Write.contents _ _ _ (word ++ front) next c.loop-number.invariant c.in_ok-put_number_after.ensures.ok)

pub returns-clause-ok : goal.returns-clause-ok
returns-clause-ok g c =
    let numbers = c.args.numbers.now in
    let all = take_all c.loop-number.number-index numbers (omega arith) in
    subst (λ (ns : List ℕ). Puts g.W.Write.contents c.args.self.now c.loop-number.self (c.args.word.now ++ separated c.args.separator ns)) all c.loop-number.invariant
