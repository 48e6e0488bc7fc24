-- What a caller sees of a map, and the steps on it.
use Rattle.std.specs.Prelude.{◌≡◌, ◌≢◌, ℕ, ◌+◌, ◌*◌, ◌<◌, ◌≤◌}
use Rattle.std.specs.Prelude.{◌⊎◌, IsTrue, ◌&&◌, if◌then◌else◌, nat_lt, List}
use Rattle.std.specs.Prelude.{length, Option, Some, None, MatchOption, slice_get, slice_set}
use Rattle.grid.specs.declared.cell.Cell.{Cell}
use Rattle.grid.specs.declared.terrain.Terrain.{Terrain}
use Rattle.grid.specs.declared.terrain.Terrain.TheVariants.{Void}
use Rattle.grid.specs.Terrain.{blocked, class_of, joins}

-- the terrain of the cells, row by row
pub record Grid : Type 0 where
  pub width : ℕ
  pub height : ℕ
  pub terrain : List Terrain

-- the sizes that a map may have
pub record IsSize (width height : ℕ) : Type 0 where
  pub some_width : 0 < width
  pub width_limit : width ≤ 65535
  pub some_height : 0 < height
  pub height_limit : height ≤ 65535
  pub cell_limit : width * height ≤ 4194304

-- a terrain for every cell, within the limits
pub record IsMap (m : Grid) : Type 0 where
  pub size : IsSize m.width m.height
  pub cells : length m.terrain ≡ m.width * m.height

-- the terrain at a cell, if it is on the map
abbrev pub terrain_at : Grid → Cell → Option Terrain
terrain_at m c =
    if nat_lt c.x m.width && nat_lt c.y m.height then slice_get m.terrain
    (c.y * m.width + c.x) else None

-- the map with that cell out of bounds, if it is on the map
abbrev pub with_blocked : Grid → Cell → Option Grid
with_blocked m c =
    if nat_lt c.x m.width && nat_lt c.y m.height then Some (record {
      width = m.width;
      height = m.height;
      terrain = slice_set m.terrain (c.y * m.width + c.x) Void;
    }) else None

-- the cell is on the map and isn't blocked
abbrev pub IsPassable : Grid → Cell → Type 0
IsPassable m c = MatchOption (terrain_at m c) ⊥ (λ terrain. class_of terrain ≢ blocked)

-- the numbers differ by one
abbrev pub AreNext : ℕ → ℕ → Type 0
AreNext a b = (a ≡ b + 1) ⊎ (b ≡ a + 1)

-- the cells share a side
abbrev pub ShareSide : Cell → Cell → Type 0
ShareSide u v = ((u.x ≡ v.x) × AreNext u.y v.y) ⊎ ((u.y ≡ v.y) × AreNext u.x v.x)

-- A straight step may lead from the one terrain to the other: their classes are land and land, land
-- and swamp in either order, swamp and swamp, or water and water. Off the map there is no terrain,
-- and none leads there.
abbrev pub AreJoined : Option Terrain → Option Terrain → Type 0
AreJoined from to =
    MatchOption from ⊥ (λ t. MatchOption to ⊥ (λ u. IsTrue (joins (class_of t) (class_of u))))

-- A legal straight step: the cells share a side, and the terrain of the one joins that of the
-- other.
pub record IsStraightStep (m : Grid) (u v : Cell) : Type 0 where
  pub side : ShareSide u v
  pub joined : AreJoined (terrain_at m u) (terrain_at m v)

-- A legal diagonal step: the cells differ by one in x and by one in y, and round each of the two
-- cells beside both, two legal straight steps lead from the one to the other.
pub record IsDiagonalStep (m : Grid) (u v : Cell) : Type 0 where
  pub columns : AreNext u.x v.x
  pub rows : AreNext u.y v.y
  pub first : IsStraightStep m u (record { x = u.x; y = v.y })
  pub first_on : IsStraightStep m (record { x = u.x; y = v.y }) v
  pub second : IsStraightStep m u (record { x = v.x; y = u.y })
  pub second_on : IsStraightStep m (record { x = v.x; y = u.y }) v
