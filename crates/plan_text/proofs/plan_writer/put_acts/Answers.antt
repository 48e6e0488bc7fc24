-- Each turn puts the characters of the first of the acts that are left.
use Rattle.std.proofs.Common.{◌≡◌, ◌<◌, ◌++◌, length, take, drop, map, refl, sym, ap, ◌∙◌, subst, arith}
use Rattle.std.proofs.lemmas.Bool.{eqb-false}
use Rattle.std.proofs.lemmas.List.{take-append-drop, map-append, take_rest}
use Rattle.std.proofs.lemmas.Result.{err_from_is_err_and}
use Rattle.text_io.specs.Sink.{Breaks, Leaves}
use Rattle.text_io.specs.Laws.Putting.{Leaves-less, Leaves-broken}
use Rattle.plan_text.specs.PlanText.{act_character}
use Rattle.plan_text.proofs.SpellingLemmas.{acts_text-others}
use Rattle.plan_text.proofs.plan_writer.put_acts.Goals as goal

pub returns-in_err-put_characters-clause-err : goal.returns-in_err-put_characters-clause-err
returns-in_err-put_characters-clause-err g c =
    let p = err_from_is_err_and c.from_residual.result c.from_residual.ensures.1 in
    let rest = c.loop-rest.rest.now in
    let count = c.min-count.result in
    let parts : map act_character rest ≡ map act_character (take count rest) ++ map act_character (drop count rest)
    = ap (map act_character) (sym (take-append-drop count rest)) ∙ map-append act_character (take count rest) (drop count rest) in
    let next = subst (Leaves g.W.Write.contents _ _ _) parts c.loop-rest.invariant in
    let some : 0 < length c.args.acts.now =
    omega (arith, eqb-false (length c.args.acts.now) 0 (sym c.is_empty.ensures ∙ c.if-is_empty.false)) in
    rw p.1 (subst (Breaks g.W.Write.contents _ _) (sym (acts_text-others c.args.acts.now some))
    (Leaves-broken g.W.Write.contents _ _ _ _ _ (map act_character (drop count rest)) _ next refl c.in_err-put_characters.ensures.err))

pub loop-rest-preserved : goal.loop-rest-preserved
loop-rest-preserved g c =
    let rest = c.loop-rest.rest.now in
    let count = c.min-count.result in
    let parts : map act_character rest ≡ map act_character (take count rest) ++ map act_character (drop count rest)
    = ap (map act_character) (sym (take-append-drop count rest)) ∙ map-append act_character (take count rest) (drop count rest) in
    let next = subst (Leaves g.W.Write.contents _ _ _) parts c.loop-rest.invariant in
    rw (take_rest rest count)
    (Leaves-less g.W.Write.contents _ _ _ _ _ (map act_character (drop count rest)) _ next refl c.in_ok-put_characters.ensures.ok)
