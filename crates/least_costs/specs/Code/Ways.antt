-- Which straight steps are legal from each cell of a map.
use Rattle.std.specs.Prelude.{◌≡◌, ℕ, ◌+◌, ◌-◌, ◌*◌, ◌<◌, ◌≤◌}
use Rattle.std.specs.Prelude.{◌⊎◌, true, List, Some, length, slice_get}
use Rattle.grid.specs.declared.cell.Cell.{Cell}
use Rattle.grid.specs.Map.{Grid, IsStraightStep}
use Rattle.least_costs.specs.declared.legal_steps.Ways.{Ways}

-- each legal step from the cell leads to one beside it to which there is a way, and each way is one
pub record AreWays (m : Grid) (u : Cell) (ways : Ways) : Type 0 where
  pub hold : (v : Cell) → IsStraightStep m u v
      → ((v ≡ record { x = u.x; y = u.y - 1 }) × (ways.north ≡ true))
      ⊎ ((v ≡ record { x = u.x; y = u.y + 1 }) × (u.y < 65535) × (ways.south ≡ true))
      ⊎ ((v ≡ record { x = u.x - 1; y = u.y }) × (ways.west ≡ true))
      ⊎ ((v ≡ record { x = u.x + 1; y = u.y }) × (u.x < 65535) × (ways.east ≡ true))
  pub north : ways.north ≡ true → IsStraightStep m u (record { x = u.x; y = u.y - 1 })
  pub south
      : ways.south ≡ true → (u.y < 65535) × IsStraightStep m u (record { x = u.x; y = u.y + 1 })
  pub west : ways.west ≡ true → IsStraightStep m u (record { x = u.x - 1; y = u.y })
  pub east : ways.east ≡ true → (u.x < 65535) × IsStraightStep m u (record { x = u.x + 1; y = u.y })

-- so are those of the cells that the list has, row by row
abbrev pub AreAllWays : Grid → List Ways → Type 0
AreAllWays m all =
    (u : Cell) (ways : Ways) → u.x < m.width → slice_get all (u.y * m.width + u.x) ≡ Some ways
    → AreWays m u ways

-- it has all cells of the map
pub record HasAllWays (m : Grid) (width : ℕ) (all : List Ways) : Type 0 where
  pub same_width : width ≡ m.width
  pub count : m.width * m.height ≤ length all
  pub legal : AreAllWays m all
