use Rattle.std.proofs.Common.{ℕ, ◌<◌, ◌≤◌}
use Rattle.std.specs.Prelude.{IsTrue}
use Rattle.walks.specs.Code.TableEntries.{number_on}
use Rattle.walks.specs.Code.Tightness.{AreCorners, KeepsBlockAt}
use Rattle.walks.proofs.tightness.keeps_patch.Given as goal

-- a row that is held is told, and each block above it keeps
abbrev pub invariant-loop-y : goal.invariant-loop-y
invariant-loop-y l = record {
  corners : IsTrue l.is_held → AreCorners l.map (number_on l.entries l.map.width) l.left l.right l.y l.upper;
  kept : (k : ℕ) → k < l.y → l.top ≤ k → (x : ℕ) → l.left ≤ x → x < l.right → KeepsBlockAt l.map (number_on l.entries l.map.width) x k;
}
