-- Each case by how many digits are taken off.
use Rattle.std.proofs.Common.{◌/◌, arith, sym}
use Rattle.itoa.proofs.Decimal.{length_one, length_two, length_pair}
use Rattle.text_io.proofs.digits.count_of_few.Goals as goal

pub returns-then-number-lt10 : goal.returns-then-number-lt10
returns-then-number-lt10 c = sym (length_one c.args.number c.if-number-lt10.true)

pub returns-then-number-lt100 : goal.returns-then-number-lt100
returns-then-number-lt100 c = sym (length_two c.args.number c.if-number-lt10.false c.if-number-lt100.true)

pub returns-then-number-lt1000 : goal.returns-then-number-lt1000
returns-then-number-lt1000 c =
    let more = c.if-number-lt100.false in
    let less = c.if-number-lt1000.true in
    let pair = length_pair c.args.number more c.ranges.number.fits in
    let one = length_one (c.args.number / 100) (omega (arith, less)) in
    omega (arith, pair, one)

pub returns-else-number-lt1000 : goal.returns-else-number-lt1000
returns-else-number-lt1000 c =
    let more = c.if-number-lt1000.false in
    let less = c.requires in
    let pair = length_pair c.args.number (omega (arith, more)) c.ranges.number.fits in
    let two = length_two (c.args.number / 100) (omega (arith, more)) (omega (arith, less)) in
    omega (arith, pair, two)
