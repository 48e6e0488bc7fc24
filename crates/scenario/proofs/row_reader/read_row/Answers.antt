use Rattle.std.proofs.Common.{◌≡◌, true, length, refl, sym, ap, ◌∙◌, subst}
use Rattle.std.proofs.lemmas.Bool.{eqb-false}
use Rattle.std.proofs.lemmas.Result.{err_from_is_err_and}
use Rattle.scenario.specs.Query.{IsQuery}
use Rattle.scenario.specs.ScenText.{SpellsRow}
use Rattle.scenario.specs.ScenFault.{row_due, is_in_grid}
use Rattle.scenario.specs.Code.Parsing.{fields_seen, RefusesLine}
use Rattle.scenario.proofs.RowLemmas.{IsQuery-from_fields, SpellsRow-from_fields}
use Rattle.scenario.proofs.ReadRowLemmas.{in_grid-from_numbers, coordinates, row_read, row_line-from_content, faults-grid, faults-length, are_right}
use Rattle.scenario.proofs.row_reader.read_row.Goals as goal

pub returns-in_err-fields : goal.returns-in_err-fields
returns-in_err-fields c =
    let p = err_from_is_err_and c.from_residual.result c.from_residual.ensures.1 in
    rw p.1 (subst (RefusesLine row_due c.args.number c.args.line.now) (sym p.2)
    (c.in_err-fields.ensures c.args.line.now c.requires.line c.requires.short (sym c.content_of-content.ensures)
    (λ none. eqb-false _ 0 (sym c.is_empty.ensures ∙ c.if-is_empty.false) (ap length (c.content_of-content.ensures ∙ none)))))

pub returns-then-not-is_in_grid : goal.returns-then-not-is_in_grid
returns-then-not-is_in_grid c =
    let f = fields_seen c.in_ok-fields.fields in
    let line = row_line-from_content c.args.line.now c.content_of-content.result.now c.is_empty.result f c.requires.line c.requires.short
    c.content_of-content.ensures c.is_empty.ensures c.if-is_empty.false c.in_ok-fields.ensures.0 in
    faults-grid c.args.number c.args.line.now f line c.in_ok-fields.ensures.1
    (sym (in_grid-from_numbers f c.in_ok-fields.numbers c.in_ok-fields.ensures.1 c.in_ok-fields.ensures.2) ∙ (sym c.is_in_grid.ensures ∙ c.if-not-is_in_grid.true))

pub returns-in_default : goal.returns-in_default
returns-in_default c =
    let f = fields_seen c.in_ok-fields.fields in
    let line = row_line-from_content c.args.line.now c.content_of-content.result.now c.is_empty.result f c.requires.line c.requires.short
    c.content_of-content.ensures c.is_empty.ensures c.if-is_empty.false c.in_ok-fields.ensures.0 in
    faults-length c.args.number c.args.line.now f line c.in_ok-fields.ensures.1
    (sym (in_grid-from_numbers f c.in_ok-fields.numbers c.in_ok-fields.ensures.1 c.in_ok-fields.ensures.2) ∙ (sym c.is_in_grid.ensures ∙ c.if-not-is_in_grid.false))
    c.in_default.ensures

pub from_numbers-requires : goal.from_numbers-requires
from_numbers-requires c =
    let f = fields_seen c.in_ok-fields.fields in
    let inside : is_in_grid f ≡ true =
    sym (in_grid-from_numbers f c.in_ok-fields.numbers c.in_ok-fields.ensures.1 c.in_ok-fields.ensures.2) ∙ (sym c.is_in_grid.ensures ∙ c.if-not-is_in_grid.false) in
    let line = row_line-from_content c.args.line.now c.content_of-content.result.now c.is_empty.result f c.requires.line c.requires.short
    c.content_of-content.ensures c.is_empty.ensures c.if-is_empty.false c.in_ok-fields.ensures.0 in
    let at = coordinates f c.in_ok-fields.numbers c.in_ok-fields.ensures.1 c.in_ok-fields.ensures.2 inside in
    let read = row_read f c.in_ok-fields.numbers _ c.in_ok-fields.ensures.2 at refl c.in_ok-name.ensures refl refl refl refl refl refl
    c.in-Some.ensures.1 c.in-Some.ensures.2 in
    subst IsQuery (sym read)
    (IsQuery-from_fields c.args.line.now f (are_right c.args.line.now f line c.in_ok-fields.ensures.1 inside c.in-Some.ensures.0))

pub returns : goal.returns
returns c =
    let f = fields_seen c.in_ok-fields.fields in
    let inside : is_in_grid f ≡ true =
    sym (in_grid-from_numbers f c.in_ok-fields.numbers c.in_ok-fields.ensures.1 c.in_ok-fields.ensures.2) ∙ (sym c.is_in_grid.ensures ∙ c.if-not-is_in_grid.false) in
    let line = row_line-from_content c.args.line.now c.content_of-content.result.now c.is_empty.result f c.requires.line c.requires.short
    c.content_of-content.ensures c.is_empty.ensures c.if-is_empty.false c.in_ok-fields.ensures.0 in
    let at = coordinates f c.in_ok-fields.numbers c.in_ok-fields.ensures.1 c.in_ok-fields.ensures.2 inside in
    let made = c.from_numbers.ensures in
    let read = row_read f c.in_ok-fields.numbers c.from_numbers.result c.in_ok-fields.ensures.2 at (ap (λ q. q.bucket) made)
    (ap (λ q. q.name) made ∙ c.in_ok-name.ensures) (ap (λ q. q.width) made) (ap (λ q. q.height) made)
    (ap (λ q. q.start.x) made) (ap (λ q. q.start.y) made) (ap (λ q. q.goal.x) made) (ap (λ q. q.goal.y) made)
    (ap (λ q. q.listed) made ∙ c.in-Some.ensures.1) (ap (λ q. q.decimals) made ∙ c.in-Some.ensures.2) in
    subst (λ q. SpellsRow q c.args.line.now) (sym read)
    (SpellsRow-from_fields c.args.line.now f (are_right c.args.line.now f line c.in_ok-fields.ensures.1 inside c.in-Some.ensures.0))
