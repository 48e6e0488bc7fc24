-- Four digits are taken off at a time, and there are at most twenty.
use Rattle.std.proofs.Common.{arith, lit<}
use Rattle.std.proofs.lemmas.Fmt.{length-decimal-le}
use Rattle.itoa.proofs.Decimal.{length_four}
use Rattle.text_io.proofs.digits.count_of_digits.Goals as goal

pub overflow_add-count : goal.overflow_add-count
overflow_add-count c =
    let most = length-decimal-le 20 c.args.number (lit< tt) (omega (arith, c.ranges.number.fits)) c.ranges.number.fits in
    let digits = c.loop-left.invariant.digits in
    omega (arith, most, digits)

pub loop-left-preserved : goal.loop-left-preserved
loop-left-preserved c =
    let range = c.loop-left.invariant.range in
    let digits = c.loop-left.invariant.digits in
    let four = length_four c.loop-left.left c.loop-left-test.true range in
    record { range = omega (arith, range); digits = omega (arith, digits, four) }

pub overflow_add-result : goal.overflow_add-result
overflow_add-result c =
    let most = length-decimal-le 20 c.args.number (lit< tt) (omega (arith, c.ranges.number.fits)) c.ranges.number.fits in
    let digits = c.loop-left.invariant.digits in
    let few = c.count_of_few.ensures in
    omega (arith, most, digits, few)

pub returns : goal.returns
returns c =
    let digits = c.loop-left.invariant.digits in
    let few = c.count_of_few.ensures in
    omega (arith, digits, few)
