-- Each digit is one more of the number, which has at most nineteen.
use Rattle.std.proofs.Common.{◌≡◌, ◌-◌, ◌<◌, true, length, get_or, sym, ◌∙◌, arith}
use Rattle.std.specs.Char.{is_ascii_digit}
use Rattle.text_io.proofs.NumeralLemmas.{digits_more, value_more, digit_at_most, small_more, digits_fit}
use Rattle.text_io.proofs.numerals.leading_digits.Goals as goal

pub overflow_mul-value : goal.overflow_mul-value
overflow_mul-value c =
    let few : c.loop-count.count < 19 = omega (arith, c.min-most.ensures) in
    let fits = digits_fit c.loop-count.count c.loop-count.value 0 few c.loop-count.invariant.small (omega arith) in
    omega (arith, fits)

pub overflow_add-value : goal.overflow_add-value
overflow_add-value c =
    let few : c.loop-count.count < 19 = omega (arith, c.min-most.ensures) in
    let b = get_or c.args.bytes.now c.loop-count.count 0 in
    let test : is_ascii_digit b ≡ true = sym c.is_ascii_digit.ensures.value ∙ c.if-not-is_ascii_digit.false in
    let least = digit_at_most b c.from.result test (omega arith) in
    let fits = digits_fit c.loop-count.count c.loop-count.value c.from.result few c.loop-count.invariant.small least in
    omega (arith, fits)

pub loop-count-preserved : goal.loop-count-preserved
loop-count-preserved c =
    let bytes = c.args.bytes.now in
    let i = c.loop-count.count in
    let within : i < length bytes = omega (arith, c.min-most.ensures) in
    let test : is_ascii_digit (get_or bytes i 0) ≡ true = sym c.is_ascii_digit.ensures.value ∙ c.if-not-is_ascii_digit.false in
    let digit : c.from.result ≡ get_or bytes i 0 - 48 = omega arith in
    let least = digit_at_most (get_or bytes i 0) c.from.result test digit in
    record {
      digits = digits_more bytes i within c.loop-count.invariant.digits test;
      value = value_more bytes i c.loop-count.value c.from.result within test digit c.loop-count.invariant.value;
      small = small_more i c.loop-count.value c.from.result c.loop-count.invariant.small least;
    }
