-- Where the numbers of cells stand: those of a tile, 16 x 16 cells, side by side.
use Rattle.std.specs.Prelude.{◌≡◌, ℕ, ◌+◌, ◌*◌, ◌/◌, ◌%◌, ◌<◌}
use Rattle.std.specs.Prelude.{◌≤◌, ◌⊎◌, List, length, get_or, Some, slice_get}
use Rattle.grid.specs.declared.cell.Cell.{Cell}
use Rattle.depgraph.specs.declared.tiles.Tiles.{Tiles}

-- the tile of a cell, where so many lie side by side
abbrev pub tile_of : ℕ → Cell → ℕ
tile_of across cell = cell.y / 16 * across + cell.x / 16

-- where the cell stands in its tile
abbrev pub offset_of : Cell → ℕ
offset_of cell = cell.y % 16 * 16 + cell.x % 16

-- the part of the numbers that the cell's tile has, or 0
abbrev pub tile_part : Tiles → Cell → ℕ
tile_part t cell = get_or t.parts.items (tile_of t.across cell) 0

abbrev pub place_of : Tiles → Cell → ℕ
place_of t cell = tile_part t cell * 256 + offset_of cell

-- one more than the cell's number, or 0 where it has none
abbrev pub number_held : Tiles → Cell → ℕ
number_held t cell = get_or t.numbers.items (place_of t cell) 0

-- the cell has a tile, and no cell of another column of tiles has the same
pub record IsCovered (t : Tiles) (cell : Cell) : Type 0 where
  pub column : cell.x / 16 < t.across
  pub tile : tile_of t.across cell < length t.parts.items

-- each tile that has a part has it alone; the first part, which none has, has no numbers
pub record AreTiles (t : Tiles) : Type 0 where
  pub within : (i : ℕ) → get_or t.parts.items i 0 * 256 + 256 ≤ length t.numbers.items
  pub apart : (i j : ℕ) → 0 < get_or t.parts.items i 0
      → get_or t.parts.items i 0 ≡ get_or t.parts.items j 0 → i ≡ j
  pub first : (i : ℕ) → i < 256 → get_or t.numbers.items i 0 ≡ 0
  pub whole : length t.numbers.items ≡ length t.numbers.items / 256 * 256

-- they have the same tiles
pub record IsSameMap (old new : Tiles) : Type 0 where
  pub across : new.across ≡ old.across
  pub count : length new.parts.items ≡ length old.parts.items

-- the cell's tile has a part now, and no number has changed
pub record HasRoom (old new : Tiles) (cell : Cell) : Type 0 where
  pub map : IsSameMap old new
  pub tiles : AreTiles new
  pub part : 0 < tile_part new cell
  pub kept : (c : Cell) → number_held new c ≡ number_held old c
  pub size : length new.numbers.items ≤ length old.numbers.items + 256

-- the cell has this number now: it had it, or had none and has the next one
pub record IsNumbered (old new : Tiles) (cell : Cell) (next number : ℕ) : Type 0 where
  pub now : number_held new cell ≡ number + 1
  pub before : ((number_held old cell ≡ 0) × (number ≡ next)) ⊎ (number_held old cell ≡ number + 1)

-- each name's number stands in its place, and no others do
pub record AreHeld (t : Tiles) (names : List Cell) : Type 0 where
  pub covered : (n : ℕ) (c : Cell) → slice_get names n ≡ Some c → IsCovered t c
  pub named : (n : ℕ) (c : Cell) → slice_get names n ≡ Some c → number_held t c ≡ n + 1
  pub known
      : (n : ℕ) (c : Cell) → IsCovered t c → number_held t c ≡ n + 1 → slice_get names n ≡ Some c
