-- What the tiles of a search say of each cell.
use Rattle.std.specs.Prelude.{ℕ, ◌+◌, ◌*◌, ◌/◌, ◌%◌, ◌^◌, nat_lt}
use Rattle.std.specs.Prelude.{if◌then◌else◌, List, [], Option, None, Some, slice_get}
use Rattle.walks.specs.declared.keys.Key.{Key}
use Rattle.scenario.specs.declared.length.Length.{Length}
use Rattle.walks.specs.declared.tiles.Tile.{Tile}
use Rattle.walks.specs.declared.tiles.Tiles.{Tiles}
use Rattle.walks.specs.Code.KeyParts.{number_within, length_of_number}
use Rattle.walks.specs.Code.Distances.{beyond_number}
use Rattle.walks.specs.Code.Rounding.{rounded}

abbrev pub keys_in : Option Tile → List Key
keys_in None = []
keys_in (Some tile) = tile.keys.items

-- the tile that a cell is in, where so many stand in a row
abbrev pub tile_number : (across x y : ℕ) → ℕ
tile_number across x y = y / 64 * across + x / 64

-- the key of a cell
abbrev pub key_at : Tiles → (x y : ℕ) → Option Key
key_at t x y =
    slice_get (keys_in (slice_get t.all.items (tile_number t.across x y))) (y % 64 * 64 + x % 64)

abbrev pub number_by : ℕ → Option Key → ℕ
number_by beyond None = beyond
number_by beyond (Some key) = number_within beyond key.value

-- the number of a cell
abbrev pub number_at : Tiles → (x y : ℕ) → ℕ
number_at t x y = number_by (beyond_number t.beyond x y) (key_at t x y)

-- the least length that is not below a number; none is that of no length
abbrev pub length_from : ℕ → Option Length
length_from number = if nat_lt number (2 ^ 62) then length_of_number (rounded number) else None

-- the entry of a place, row by row
abbrev pub place_entry : Tiles → ℕ → Option Length
place_entry t place = length_from (number_at t (place % t.width) (place / t.width))
