-- Each turn puts the digits of the first of the bytes that are left.
use Rattle.std.proofs.Common.{◌≡◌, ◌++◌, [], length, take, drop, refl, sym, ap, ◌∙◌, subst}
use Rattle.std.proofs.lemmas.Bool.{eqb-true}
use Rattle.std.proofs.lemmas.List.{take-append-drop, take_rest, nil_from_length}
use Rattle.std.proofs.lemmas.Result.{err_from_is_err_and}
use Rattle.hex.specs.Hex.{encode_lower}
use Rattle.text_io.specs.Sink.{Leaves}
use Rattle.text_io.specs.Laws.Putting.{Leaves-less, Leaves-broken, Leaves-none}
use Rattle.event_text.proofs.ReplyLemmas.{encode_lower-append, encode_lower-none}
use Rattle.event_text.proofs.reply_writer.put_hexadecimal.Goals as goal

pub returns-in_err-put_digits-clause-err : goal.returns-in_err-put_digits-clause-err
returns-in_err-put_digits-clause-err g c =
    let p = err_from_is_err_and c.from_residual.result c.from_residual.ensures.1 in
    let rest = c.loop-rest.rest.now in
    let count = c.min-count.result in
    let parts : encode_lower rest ≡ encode_lower (take count rest) ++ encode_lower (drop count rest)
    = ap encode_lower (sym (take-append-drop count rest)) ∙ encode_lower-append (take count rest) (drop count rest) in
    let next = subst (Leaves g.W.Write.contents _ _ _) parts c.loop-rest.invariant in
    rw p.1 (Leaves-broken g.W.Write.contents _ _ _ _ _ (encode_lower (drop count rest)) _ next refl c.in_err-put_digits.ensures.err)

pub loop-rest-preserved : goal.loop-rest-preserved
loop-rest-preserved g c =
    let rest = c.loop-rest.rest.now in
    let count = c.min-count.result in
    let parts : encode_lower rest ≡ encode_lower (take count rest) ++ encode_lower (drop count rest)
    = ap encode_lower (sym (take-append-drop count rest)) ∙ encode_lower-append (take count rest) (drop count rest) in
    let next = subst (Leaves g.W.Write.contents _ _ _) parts c.loop-rest.invariant in
    rw (take_rest rest count)
    (Leaves-less g.W.Write.contents _ _ _ _ _ (encode_lower (drop count rest)) _ next refl c.in_ok-put_digits.ensures.ok)

pub returns-clause-ok : goal.returns-clause-ok
returns-clause-ok g c =
    let rest = c.loop-rest.rest.now in
    let empty : rest ≡ [] = nil_from_length rest (eqb-true (length rest) 0 (sym c.is_empty.ensures ∙ c.loop-rest-test.false)) in
    Leaves-none g.W.Write.contents _ _ _ (subst (Leaves g.W.Write.contents _ _ _) (ap encode_lower empty ∙ encode_lower-none) c.loop-rest.invariant)
