-- Digits stand so far, and spell the value.
use Rattle.std.proofs.Common.{◌≡◌, ◌<◌, true, take}
use Rattle.std.specs.List.{list_all}
use Rattle.std.specs.Char.{is_ascii_digit}
use Rattle.std.specs.Str.Parse.{digits_value_after}
use Rattle.scenario.proofs.usual_fields.short_number.Given as goal

abbrev pub invariant-loop-i : goal.invariant-loop-i
invariant-loop-i l = record {
  digits : list_all is_ascii_digit (take l.i l.bytes) ≡ true;
  value : l.value ≡ digits_value_after 10 0 (take l.i l.bytes);
  short : l.value < 1000000000;
}
