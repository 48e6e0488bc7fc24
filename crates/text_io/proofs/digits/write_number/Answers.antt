-- The digits before the last four, and then these.
use Rattle.std.proofs.Common.{◌/◌, ◌%◌, ◌++◌, take, sym, ap, ◌∙◌, append_assoc}
use Rattle.std.specs.Prelude.{decimal}
use Rattle.itoa.proofs.Decimal.{pair, decimal_four}
use Rattle.text_io.proofs.digits.write_number.Goals as goal

pub returns-then-number-lt100000000-clause-written : goal.returns-then-number-lt100000000-clause-written
returns-then-number-lt100000000-clause-written c =
    let front = decimal (c.args.number / 10000) in
    let first = pair (c.args.number % 10000 / 100) in
    let second = pair (c.args.number % 10000 % 100) in
    c.write_pair.ensures.written ∙ (ap (λ l. l ++ second) (c.write_pair-pair.ensures.written ∙ ap (λ l. l ++ first) c.write_few-front.ensures.written)
    ∙ (append_assoc (take c.args.at c.args.bytes.now ++ front) first second ∙ (append_assoc (take c.args.at c.args.bytes.now) front (first ++ second)
    ∙ ap (λ l. take c.args.at c.args.bytes.now ++ l) (sym (decimal_four c.args.number c.if-number-lt10000.false c.ranges.number.fits)))))
