-- There is a numeral for each number before.
use Rattle.std.proofs.Common.{◌≡◌, length}
use Rattle.plan_commands.specs.Code.Numerals.{AreNumerals}
use Rattle.plan_commands.proofs.numerals.numerals.Given as goal

abbrev pub invariant-loop-number : goal.invariant-loop-number
invariant-loop-number l = record { all : AreNumerals l.numerals.items; count : length l.numerals.items ≡ l.number }
