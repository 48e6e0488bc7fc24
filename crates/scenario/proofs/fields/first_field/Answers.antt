use Rattle.std.proofs.Common.{◌≡◌, ◌≢◌, ◌<◌, ◌∷◌, length, drop, sym, ap, ◌∙◌, arith, length-drop}
use Rattle.std.proofs.lemmas.Bool.{eqb-true, eqb-false}
use Rattle.std.proofs.lemmas.List.{take_all, nil_from_length}
use Rattle.scenario.specs.Fields.{fields_between}
use Rattle.scenario.proofs.FieldLemmas.{fields_between-none, fields_between-next}
use Rattle.scenario.proofs.fields.first_field.Goals as goal

pub returns-then-is_empty : goal.returns-then-is_empty
returns-then-is_empty c =
    let none : length c.trim_start-rest.result.now ≡ 0 = eqb-true _ _ (sym c.is_empty.ensures ∙ c.if-is_empty.true) in
    fields_between-none c.args.separator c.args.bytes.now (sym c.trim_start-rest.ensures ∙ nil_from_length _ none)

pub returns : goal.returns
returns c =
    let ne : length c.trim_start-rest.result.now ≢ 0 = eqb-false _ _ (sym c.is_empty.ensures ∙ c.if-is_empty.false) in
    let some : 0 < length c.trim_start-rest.result.now = omega arith in
    fields_between-next c.args.separator c.args.bytes.now c.trim_start-rest.result.now c.separator_at-end.result c.requires
    c.trim_start-rest.ensures some c.separator_at-end.ensures
    ∙ (ap (λ xs. xs ∷ fields_between c.args.separator (drop c.separator_at-end.result c.trim_start-rest.result.now)) (sym c.trim_end.ensures)
    ∙ ap (λ xs. c.trim_end.result.now ∷ fields_between c.args.separator xs)
    (sym (take_all _ (drop c.separator_at-end.result c.trim_start-rest.result.now) (omega (arith, length-drop c.separator_at-end.result c.trim_start-rest.result.now)))))
