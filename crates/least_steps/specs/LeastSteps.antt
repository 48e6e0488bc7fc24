-- The least number of straight steps between two cells of a map.
use Rattle.std.specs.Prelude.{ℕ, ◌≤◌, List, Option, Some, None}
use Rattle.grid.specs.declared.cell.Cell.{Cell}
use Rattle.grid.specs.Map.{Grid}
use Rattle.walks.specs.Walk.{IsWalk}

-- a walk of straight steps alone takes so many, and none takes fewer
pub record IsFewest (m : Grid) (u v : Cell) (n : ℕ) : Type 0 where
  pub walk : List Cell
  pub is_walk : IsWalk m u v walk n 0
  pub least : (cells : List Cell) (k : ℕ) → IsWalk m u v cells k 0 → n ≤ k

-- that number, or none, where no such walk leads from the one cell to the other
abbrev pub IsLeastSteps : Grid → Cell → Cell → Option ℕ → Type 0
IsLeastSteps m u v None = (cells : List Cell) (k : ℕ) → IsWalk m u v cells k 0 → ⊥
IsLeastSteps m u v (Some n) = IsFewest m u v n
