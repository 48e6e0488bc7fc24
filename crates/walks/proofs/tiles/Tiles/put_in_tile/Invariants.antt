use Rattle.std.proofs.Common.{◌≡◌, ℕ, ◌+◌, ◌<◌}
use Rattle.std.specs.Prelude.{slice_index}
use Rattle.walks.specs.Code.TileKeys.{number_at}
use Rattle.walks.proofs.tiles.Tiles.put_in_tile.Given as goal

-- the numbers of the cells before are told
abbrev pub invariant-loop-i : goal.invariant-loop-i
invariant-loop-i l = (k : ℕ) → k < l.i → slice_index l.numbers k ≡ number_at l.self (l.x + k) l.y
