-- Walks by their numbers, and the cells that a search has reached. A straight step has the number
-- 6625109, and a diagonal one 9369319; that of a walk to a cell is one straight step more, so that
-- none is 0.
use Rattle.std.specs.Prelude.{◌≡◌, ℕ, ◌+◌, ◌*◌, ◌^◌, ◌<◌, ◌≤◌, ◌⊎◌}
use Rattle.std.specs.Prelude.{Bool, true, false, List, Option, None, Some, slice_get}
use Rattle.grid.specs.declared.cell.Cell.{Cell}
use Rattle.grid.specs.Map.{Grid, IsStraightStep, IsDiagonalStep}
use Rattle.walks.specs.Walk.{IsWalk}

-- the number of a cell, row by row
abbrev pub number_in : Grid → Cell → ℕ
number_in m c = c.y * m.width + c.x

-- ---- walks

-- a step that is taken, and its number; diagonal ones are taken or not
abbrev pub IsMove : Grid → Bool → Cell → Cell → ℕ → Type 0
IsMove m aslant u v n =
    (IsStraightStep m u v × (n ≡ 6625109))
    ⊎ ((aslant ≡ true) × IsDiagonalStep m u v × (n ≡ 9369319))

-- a walk of such steps, and its number
pub record IsWay (m : Grid) (aslant : Bool) (u v : Cell) (cells : List Cell) (n : ℕ) : Type 0 where
  pub straight : ℕ
  pub diagonal : ℕ
  pub is_walk : IsWalk m u v cells straight diagonal
  pub kinds : aslant ≡ false → diagonal ≡ 0
  pub number : n ≡ straight * 6625109 + diagonal * 9369319

-- a walk of this number comes to the cell
abbrev pub WalksTo : Grid → Bool → Cell → Cell → ℕ → Type 0
WalksTo m aslant start c n =
    (cells : List Cell) × (k : ℕ) × IsWay m aslant start c cells k × (n ≡ k + 6625109)

-- a number is no less than what was found; where nothing was, there is none
abbrev pub IsNoLess : Option ℕ → ℕ → Type 0
IsNoLess None n = ⊥
IsNoLess (Some found) n = found ≤ n

-- the least number of a walk from the one cell to the other, or none, where none leads there
abbrev pub IsLeastNumber : Grid → Bool → Cell → Cell → Option ℕ → Type 0
IsLeastNumber m aslant u v found =
    ((n : ℕ) → found ≡ Some n → WalksTo m aslant u v n)
    × ((cells : List Cell) (k : ℕ) → IsWay m aslant u v cells k → IsNoLess found (k + 6625109))

-- ---- what was reached

-- A mark stands for each cell: this base and the number of a walk there, or something that is
-- greater than each such sum.
abbrev pub IsNumber : Grid → ℕ → List ℕ → Cell → ℕ → Type 0
IsNumber m base marks c n = (slice_get marks (number_in m c) ≡ Some (base + n)) × (n < 2 ^ 45)

-- the cell is reached, by a number of at most so much
pub record HasAtMost (m : Grid) (base : ℕ) (marks : List ℕ) (c : Cell) (n : ℕ) : Type 0 where
  pub number : ℕ
  pub is_number : IsNumber m base marks c number
  pub most : number ≤ n

-- the number of the cell, if it is reached
abbrev pub IsFound : Grid → ℕ → List ℕ → Cell → Option ℕ → Type 0
IsFound m base marks c None = (n : ℕ) → IsNumber m base marks c n → ⊥
IsFound m base marks c (Some n) = IsNumber m base marks c n

-- the cell is not reached, or by a greater number
abbrev pub IsAbove : Grid → ℕ → List ℕ → Cell → ℕ → Type 0
IsAbove m base marks c n =
    (mark : ℕ) × (slice_get marks (number_in m c) ≡ Some mark) × (base + n < mark)
