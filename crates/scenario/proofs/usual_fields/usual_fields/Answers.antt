-- The fields one after another, and the numbers that they spell.
use Rattle.std.proofs.Common.{◌≡◌, [], ◌∷◌, length, refl, sym, ap, ◌∙◌, arith}
use Rattle.std.proofs.lemmas.Bool.{eqb-true}
use Rattle.std.proofs.lemmas.List.{nil_from_length}
use Rattle.text_io.specs.Text.{tab}
use Rattle.scenario.specs.Fields.{fields_between}
use Rattle.scenario.specs.ScenFault.{Fields}
use Rattle.scenario.specs.Code.Parsing.{most_told}
use Rattle.scenario.proofs.FieldLemmas.{fields_between-none}
use Rattle.scenario.proofs.ShortLemmas.{short-field, tab-field, tab-separator, no_wrong_short, told}
use Rattle.scenario.proofs.usual_fields.usual_fields.Goals as goal

pub returns : goal.returns
returns c =
    let bucket = c.in_ok-bucket.bucket in
    let width = c.in_ok-width.width in
    let height = c.in_ok-height.height in
    let start_x = c.in_ok-start_x.start_x in
    let start_y = c.in_ok-start_y.start_y in
    let goal_x = c.in_ok-goal_x.goal_x in
    let goal_y = c.in_ok-goal_y.goal_y in
    let b = c.in_ok-bucket.ensures in
    let w = c.in_ok-width.ensures in
    let h = c.in_ok-height.ensures in
    let sx = c.in_ok-start_x.ensures in
    let sy = c.in_ok-start_y.ensures in
    let gx = c.in_ok-goal_x.ensures in
    let gy = c.in_ok-goal_y.ensures in
    let f : Fields = record {
      bucket = bucket.digits.now;
      name = c.in_ok-name.name.now;
      width = width.digits.now;
      height = height.digits.now;
      start_x = start_x.digits.now;
      start_y = start_y.digits.now;
      goal_x = goal_x.digits.now;
      goal_y = goal_y.digits.now;
      listed = c.in_ok-listed.listed.now;
    } in
    let none : length c.in_ok-listed.rest.now ≡ 0 = eqb-true _ _ (sym c.is_empty.ensures ∙ c.if-not-is_empty.false) in
    let some_width = c.is_size.ensures.0 c.if-not-is_size.false in
    let some_height = c.is_size-else-not-is_size.ensures.0 c.if-not-is_size-2.false in
    let is_width = w.value in
    let is_height = h.value in
    let wide = some_width.0 in
    let narrow = some_width.1 in
    let high = some_height.0 in
    let low = some_height.1 in
    let few = b.short in
    let is_bucket = b.value in
    let x0 = sx.short in
    let y0 = sy.short in
    let x1 = gx.short in
    let y1 = gy.short in (
      ap (λ s. fields_between s c.args.content.now) (tab-separator c.args.content.now bucket.digits.now bucket.rest.now bucket.value b)
          ∙ short-field c.args.content.now bucket.digits.now bucket.rest.now bucket.value b
          ∙ ap (λ l. bucket.digits.now ∷ l) (c.in_ok-name.ensures
          ∙ ap (λ l. f.name ∷ l) (tab-field c.in_ok-name.rest.now c.in_ok-behind_tab.field-0.now c.in_ok-behind_tab.ensures
          ∙ short-field c.in_ok-behind_tab.field-0.now width.digits.now width.rest.now width.value w
          ∙ ap (λ l. f.width ∷ l) (short-field width.rest.now height.digits.now height.rest.now height.value h
          ∙ ap (λ l. f.height ∷ l) (short-field height.rest.now start_x.digits.now start_x.rest.now start_x.value sx
          ∙ ap (λ l. f.start_x ∷ l) (short-field start_x.rest.now start_y.digits.now start_y.rest.now start_y.value sy
          ∙ ap (λ l. f.start_y ∷ l) (short-field start_y.rest.now goal_x.digits.now goal_x.rest.now goal_x.value gx
          ∙ ap (λ l. f.goal_x ∷ l) (short-field goal_x.rest.now goal_y.digits.now goal_y.rest.now goal_y.value gy
          ∙ ap (λ l. f.goal_y ∷ l) (c.in_ok-listed.ensures
          ∙ ap (λ l. f.listed ∷ l) (ap (fields_between tab) (nil_from_length c.in_ok-listed.rest.now none) ∙ fields_between-none tab [] refl))))))))),
      no_wrong_short f b.number (omega (arith, few, is_bucket)) w.number (omega (arith, wide, is_width)) (omega (arith, narrow, is_width)) h.number (omega (arith, high, is_height))
          (omega (arith, low, is_height)) sx.number sy.number gx.number gy.number,
      record {
        bucket = b.value;
        width = w.value;
        height = h.value;
        start_x = c.from.ensures ∙ told start_x.value most_told f.start_x sx.value (omega (arith, x0));
        start_y = c.from-2.ensures ∙ told start_y.value most_told f.start_y sy.value (omega (arith, y0));
        goal_x = c.from-3.ensures ∙ told goal_x.value most_told f.goal_x gx.value (omega (arith, x1));
        goal_y = c.from-4.ensures ∙ told goal_y.value most_told f.goal_y gy.value (omega (arith, y1));
      },
    )
