-- With the digits that follow, the value so far spells the whole.
use Rattle.std.proofs.Common.{◌≡◌, drop}
use Rattle.std.specs.List.{list_all}
use Rattle.std.specs.Char.{is_ascii_digit}
use Rattle.std.specs.Str.Parse.{digits_value_after}
use Rattle.text_io.specs.Numerals.{numeral_value}
use Rattle.text_io.proofs.numerals.spelled.Given as goal

abbrev pub invariant-loop-b : goal.invariant-loop-b
invariant-loop-b l = record {
  value : digits_value_after 10 l.value (drop l.b-index l.bytes) ≡ numeral_value l.bytes;
  digits : list_all is_ascii_digit (drop l.b-index l.bytes) ≡ list_all is_ascii_digit l.bytes;
}
