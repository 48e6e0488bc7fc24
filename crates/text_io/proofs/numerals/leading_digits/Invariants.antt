-- The value so far is that of the digits before.
use Rattle.std.proofs.Common.{◌≡◌, ◌^◌, ◌<◌, true, take}
use Rattle.std.specs.List.{list_all}
use Rattle.std.specs.Char.{is_ascii_digit}
use Rattle.text_io.specs.Numerals.{numeral_value}
use Rattle.text_io.proofs.numerals.leading_digits.Given as goal

abbrev pub invariant-loop-count : goal.invariant-loop-count
invariant-loop-count l = record {
  digits : list_all is_ascii_digit (take l.count l.bytes) ≡ true;
  value : l.value ≡ numeral_value (take l.count l.bytes);
  small : l.value < 10 ^ l.count;
}
