-- The digits before the last two, and then these.
use Rattle.std.proofs.Common.{◌/◌, ◌%◌, ◌++◌, take, sym, ap, ◌∙◌, append_assoc}
use Rattle.std.specs.Prelude.{decimal}
use Rattle.itoa.proofs.Decimal.{pair, decimal_pair}
use Rattle.text_io.proofs.digits.write_few.Goals as goal

pub returns-else-number-lt100-clause-written : goal.returns-else-number-lt100-clause-written
returns-else-number-lt100-clause-written c =
    let front = decimal (c.args.number / 100) in
    let last = pair (c.args.number % 100) in
    c.write_pair.ensures.written ∙ (ap (λ l. l ++ last) c.write_short-front.ensures.written ∙ (append_assoc (take c.args.at c.args.bytes.now) front last
    ∙ ap (λ l. take c.args.at c.args.bytes.now ++ l) (sym (decimal_pair c.args.number c.if-number-lt100.false c.ranges.number.fits))))
