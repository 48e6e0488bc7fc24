-- One numeral more, of the next number.
use Rattle.std.proofs.Common.{rules, subst, sym}
use Rattle.plan_commands.specs.Code.Numerals.{AreNumerals}
use Rattle.plan_commands.proofs.NumeralLemmas.{numerals_push}
use Rattle.plan_commands.proofs.numerals.numerals.Goals as goal

pub loop-number-preserved : goal.loop-number-preserved
loop-number-preserved c =
    let now = c.loop-number.invariant in
    record {
      all = subst AreNumerals (sym c.in_ok-push.ensures.items) (numerals_push c.loop-number.numerals.items c.loop-number.number c.of.result now.all now.count c.of.ensures);
      count = search rules;
    }
