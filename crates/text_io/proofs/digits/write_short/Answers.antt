-- One digit or two.
use Rattle.std.proofs.Common.{◌++◌, take, sym, ap, ◌∙◌}
use Rattle.std.proofs.lemmas.Fmt.{decimal_digit}
use Rattle.itoa.proofs.Decimal.{decimal_two}
use Rattle.text_io.proofs.digits.write_short.Goals as goal

pub returns-then-number-lt10-clause-written : goal.returns-then-number-lt10-clause-written
returns-then-number-lt10-clause-written c =
    c.write_digit.ensures.written ∙ ap (λ l. take c.args.at c.args.bytes.now ++ l) (sym (decimal_digit c.args.number c.if-number-lt10.true))

pub returns-else-number-lt10-clause-written : goal.returns-else-number-lt10-clause-written
returns-else-number-lt10-clause-written c =
    c.write_pair.ensures.written ∙ ap (λ l. take c.args.at c.args.bytes.now ++ l) (sym (decimal_two c.args.number c.if-number-lt10.false c.requires.short))
