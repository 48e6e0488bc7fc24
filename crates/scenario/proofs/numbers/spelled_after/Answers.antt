use Rattle.std.proofs.Common.{◌≡◌, ◌<◌, ◌≤◌, min, true, Some, length, get_or, sym, ap, ◌∙◌, arith}
use Rattle.std.specs.Char.{is_ascii_digit}
use Rattle.std.specs.List.{list_all}
use Rattle.std.specs.Str.Parse.{digits_value_after}
use Rattle.std.proofs.lemmas.Bool.{cond-true}
use Rattle.std.proofs.lemmas.List.{drop_all}
use Rattle.std.proofs.lemmas.Grind.{common_steps}
use Rattle.scenario.specs.Code.Parsing.{most_told}
use Rattle.text_io.specs.Laws.Numerals.{value_after-digit}
use Rattle.scenario.proofs.numbers.spelled_after.Goals as goal

pub loop-b-preserved : goal.loop-b-preserved
loop-b-preserved c =
    let digit : is_ascii_digit (get_or c.args.bytes.now c.loop-b.b-index 0) ≡ true = sym c.is_ascii_digit.ensures.value ∙ c.if-not-is_ascii_digit.false in
    let within : c.loop-b.b-index < length c.args.bytes.now = omega arith in
    let sum = c.with_digit-value.ensures in
    record {
      value = value_after-digit c.args.bytes.now c.loop-b.b-index c.loop-b.value c.from.result c.with_digit-value.result most_told within
          digit c.from.ensures sum
          ∙ c.loop-b.invariant.value;
      within = omega (arith, sum);
      digits = grind (arith, common_steps, c.loop-b.invariant.digits, digit);
    }

pub returns : goal.returns
returns c =
    let past : length c.args.bytes.now ≤ c.loop-b.b-index = omega arith in
    let none = drop_all c.loop-b.b-index c.args.bytes.now past in
    let all : list_all is_ascii_digit c.args.bytes.now ≡ true =
    sym c.loop-b.invariant.digits ∙ ap (list_all is_ascii_digit) none in
    let least : min c.loop-b.value most_told ≡ c.loop-b.value = omega (arith, c.loop-b.invariant.within) in
    let value : c.loop-b.value ≡ min (digits_value_after 10 c.args.start c.args.bytes.now) most_told =
    sym least ∙ (sym (ap (λ xs. min (digits_value_after 10 c.loop-b.value xs) most_told) none) ∙ c.loop-b.invariant.value) in
    ap Some value ∙ sym (cond-true _ _ _ all)
