use Rattle.std.proofs.Common.{◌≡◌, ◌++◌, refl, sym, ap, ◌∙◌, arith, codes}
use Rattle.std.proofs.lemmas.List.{append_cancel_left}
use Rattle.text_io.specs.Numerals.{numeral_value}
use Rattle.text_io.specs.Laws.Parts.{prefixed}
use Rattle.plan_text.proofs.header_lines.read_number.Goals as goal

pub returns-in_default-saturated_numeral : goal.returns-in_default-saturated_numeral
returns-in_default-saturated_numeral c =
    let digits = c.in-Some.digits.now in
    let is : c.args.line.now ≡ codes "number " ++ digits =
    prefixed (codes "number ") c.args.line.now digits c.in-Some.ensures.cases.0 c.in-Some.ensures.cases.1 in
    let value = c.in-Some-saturated_numeral.ensures.1 in (
      refl,
      record { ended = refl; short = c.requires },
      (
        (digits, is),
        λ n says small.
            let same : says.0 ≡ digits = append_cancel_left (codes "number ") says.0 digits (sym says.1 ∙ is) in
            let spelled : numeral_value digits ≡ n = sym (ap numeral_value same) ∙ says.2.spells.2 in
            omega (arith, value, spelled, small),
      ),
    )
