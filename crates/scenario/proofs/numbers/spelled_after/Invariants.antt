-- With the digits that follow, the value so far spells the whole.
use Rattle.std.proofs.Common.{◌≡◌, ◌≤◌, min, drop}
use Rattle.std.specs.List.{list_all}
use Rattle.std.specs.Char.{is_ascii_digit}
use Rattle.std.specs.Str.Parse.{digits_value_after}
use Rattle.scenario.specs.Code.Parsing.{most_told}
use Rattle.scenario.proofs.numbers.spelled_after.Given as goal

abbrev pub invariant-loop-b : goal.invariant-loop-b
invariant-loop-b l = record {
  value : min (digits_value_after 10 l.value (drop l.b-index l.bytes)) most_told ≡ min (digits_value_after 10 l.start l.bytes) most_told;
  within : l.value ≤ most_told;
  digits : list_all is_ascii_digit (drop l.b-index l.bytes) ≡ list_all is_ascii_digit l.bytes;
}
