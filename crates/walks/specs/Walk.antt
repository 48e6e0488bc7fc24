-- Walks on a map, their lengths, and which of them are shortest.
use Rattle.std.specs.Prelude.{◌≡◌, ℕ, ◌+◌, ◌⊎◌, List, [], ◌∷◌, None}
use Rattle.grid.specs.declared.cell.Cell.{Cell}
use Rattle.grid.specs.Map.{Grid, terrain_at, IsStraightStep, IsDiagonalStep}
use Rattle.scenario.specs.declared.length.Length.{Length}
use Rattle.scenario.specs.Length.{IsAtMost}

-- the cell is on the map
abbrev pub IsOn : Grid → Cell → Type 0
IsOn m c = terrain_at m c ≡ None → ⊥

-- The cells are a walk from u to v, with so many straight and so many diagonal steps: each cell is
-- next to the one before by a legal step, and a single cell of the map is a walk without a step,
-- whatever its terrain.
abbrev pub IsWalk : Grid → Cell → Cell → List Cell → (straight diagonal : ℕ) → Type 0
IsWalk m u v [] straight diagonal = ⊥
IsWalk m u v (c ∷ []) straight diagonal =
    (c ≡ u) × (c ≡ v) × IsOn m c × (straight ≡ 0) × (diagonal ≡ 0)
IsWalk m u v (c ∷ w ∷ cells) straight diagonal =
    (c ≡ u) × (s : ℕ) × (d : ℕ) × IsWalk m w v (w ∷ cells) s d
    × ((IsStraightStep m u w × (straight ≡ s + 1) × (diagonal ≡ d))
    ⊎ (IsDiagonalStep m u w × (straight ≡ s) × (diagonal ≡ d + 1)))

-- some walk has the length, and no walk has a lesser one
pub record IsShortest (m : Grid) (u v : Cell) (l : Length) : Type 0 where
  pub walk : List Cell
  pub is_walk : IsWalk m u v walk l.straight l.diagonal
  pub least : (cells : List Cell) (straight diagonal : ℕ) → IsWalk m u v cells straight diagonal
      → IsAtMost l.straight l.diagonal straight diagonal

-- no walk leads from the one to the other
abbrev pub IsUnreachable : Grid → Cell → Cell → Type 0
IsUnreachable m u v =
    (cells : List Cell) (straight diagonal : ℕ) → IsWalk m u v cells straight diagonal → ⊥
