use Rattle.std.proofs.Common.{ℕ, ◌*◌, ◌<◌}
use Rattle.walks.specs.Code.TableEntries.{number_on}
use Rattle.walks.specs.Code.Tightness.{KeepsBlockAt}
use Rattle.walks.proofs.tightness.is_tight.Given as goal

-- each block whose row is in a band before it keeps
abbrev pub invariant-loop-band : goal.invariant-loop-band
invariant-loop-band l = (y : ℕ) → y < 64 * l.band → y < l.map.height → (x : ℕ) → x < l.map.width → KeepsBlockAt l.map (number_on l.entries l.map.width) x y
