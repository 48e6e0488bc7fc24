use Rattle.std.proofs.Common.{◌≡◌, ◌≤◌, length, take}
use Rattle.checker.specs.Code.Resting.{rested_acts}
use Rattle.checker.proofs.resting.count_without_waits.Given as goal

abbrev pub invariant-loop-kept : goal.invariant-loop-kept
invariant-loop-kept l = record {
  within : l.kept ≤ length l.acts;
  same : rested_acts (take l.kept l.acts) ≡ rested_acts l.acts;
}

abbrev pub decreases-loop-kept : goal.decreases-loop-kept
decreases-loop-kept l = l.kept
