-- The digits that were taken off are counted.
use Rattle.std.proofs.Common.{◌≡◌, ◌+◌, ◌<◌, ◌^◌, length}
use Rattle.std.specs.Prelude.{decimal}
use Rattle.text_io.proofs.digits.count_of_digits.Given as goal

abbrev pub decreases-loop-left : goal.decreases-loop-left
decreases-loop-left l = l.left

abbrev pub invariant-loop-left : goal.invariant-loop-left
invariant-loop-left l = record {
  range : l.left < 2 ^ 64;
  digits : length (decimal l.number) ≡ l.count + length (decimal l.left);
}
