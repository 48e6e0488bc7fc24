use Rattle.std.proofs.Common.{ℕ, ◌+◌, ◌*◌, ◌<◌, ◌≤◌}
use Rattle.walks.specs.Code.TableEntries.{number_on}
use Rattle.walks.specs.Code.Tightness.{KeepsBlockAt}
use Rattle.walks.proofs.tightness.keeps_band.Given as goal

-- each block of the band whose column is in a strip before it keeps
abbrev pub invariant-loop-strip : goal.invariant-loop-strip
invariant-loop-strip l = (y : ℕ) → l.top ≤ y → y < l.top + 64 → y < l.map.height → (x : ℕ) → x < 64 * l.strip → x < l.map.width
    → KeepsBlockAt l.map (number_on l.entries l.map.width) x y
