use Rattle.std.proofs.Common.{◌≡◌, ℕ, ◌<◌}
use Rattle.std.specs.Prelude.{slice_get, slice_index}
use Rattle.walks.specs.Code.TileKeys.{number_by}
use Rattle.walks.proofs.tiles.Tiles.put_within.Given as goal

-- the numbers of the keys before are told
abbrev pub invariant-loop-i : goal.invariant-loop-i
invariant-loop-i l = (k : ℕ) → k < l.i → slice_index l.numbers k ≡ number_by l.beyond (slice_get l.keys k)
