-- What a search keeps while it goes on.
use Rattle.std.specs.Prelude.{◌≡◌, ℕ, ◌+◌, ◌*◌, ◌^◌, ◌<◌, ◌≤◌}
use Rattle.std.specs.Prelude.{◌⊎◌, Bool, List, Some, length, slice_get}
use Rattle.grid.specs.declared.cell.Cell.{Cell}
use Rattle.grid.specs.Map.{Grid, IsMap}
use Rattle.walks.specs.Walk.{IsOn}
use Rattle.least_steps.specs.Code.Reaching.{HasAtMost, IsMove, IsNumber, WalksTo, number_in}
use Rattle.least_steps.specs.Code.Steps.{AreLegal, cell_behind, weight}

-- on which map, with diagonal steps or without, from where, and what is marked of the cells
pub record Exploration : Type 0 where
  pub map : Grid
  pub aslant : Bool
  pub start : Cell
  pub base : ℕ
  pub marks : List ℕ

-- A walk leads to each cell that was reached; and of each cell its legal steps are known, or 0
-- stands for them.
pub record IsExploration (m : Grid) (aslant : Bool) (start : Cell) (base : ℕ)
    (marks legal : List ℕ) : Type 0 where
  pub is_map : IsMap m
  pub cells : length marks ≡ m.width * m.height
  pub sets : length legal ≡ m.width * m.height
  pub limit : base ≤ 2 ^ 63
  pub least : (i : ℕ) (mark : ℕ) → slice_get marks i ≡ Some mark → base ≤ mark
  pub reached
      : (c : Cell) (n : ℕ) → IsOn m c → IsNumber m base marks c n → WalksTo m aslant start c n
  pub known : (c : Cell) (steps : ℕ) → IsOn m c → slice_get legal (number_in m c) ≡ Some steps
      → 0 < steps → AreLegal m c steps

-- by the fields of what is explored
abbrev pub Has : Exploration → Cell → ℕ → Type 0
Has e c n = HasAtMost e.map e.base e.marks c n

abbrev pub IsNumberOf : Exploration → Cell → ℕ → Type 0
IsNumberOf e c n = IsNumber e.map e.base e.marks c n

abbrev pub Comes : Exploration → Cell → ℕ → Type 0
Comes e c n = WalksTo e.map e.aslant e.start c n

-- ---- the steps from a cell

-- A lesser number leads there in another way: from a cell that is reached, behind which so much is
-- to go.
pub record IsShorter (e : Exploration) (v : Cell) (n : ℕ) : Type 0 where
  pub before : Cell
  pub number : ℕ
  pub rest : ℕ
  pub on : IsOn e.map before
  pub has : Has e before number
  pub leads : (k : ℕ) → Comes e before k → Comes e v (k + rest)
  pub less : number + rest < n

-- An equal number does, which ends by a straight step.
pub record IsTurned (e : Exploration) (v : Cell) (n : ℕ) : Type 0 where
  pub before : Cell
  pub between : Cell
  pub number : ℕ
  pub has : Has e before number
  pub aslant : IsMove e.map e.aslant before between 9369319
  pub straight : IsMove e.map e.aslant between v 6625109
  pub most : number + 9369319 + 6625109 ≤ n

-- Each step from the cell was taken, behind a walk of this number, or need not be. In place of a
-- straight one no other is taken for an equal number.
abbrev pub IsLeft : Exploration → Cell → ℕ → Type 0
IsLeft e c n = (v : Cell) (step : ℕ) → IsMove e.map e.aslant c v step
    → Has e v (n + step) ⊎ (IsShorter e v (n + step) ⊎ (IsTurned e v (n + step) × (step ≡ 9369319)))

-- a step of this number led to the cell, behind a walk of as much less; or none did, for 8
abbrev pub IsArrival : Exploration → Cell → ℕ → ℕ → Type 0
IsArrival e c n by =
    (by ≡ 8) ⊎ ((by < 8) × (before : Cell) × (k : ℕ) × (c ≡ cell_behind by before)
    × IsMove e.map e.aslant before c (weight by) × Has e before k × (k + weight by ≤ n))

-- ---- from one state to the next

-- the same search, in which no number is greater than before
pub record Advances (old new : Exploration) : Type 0 where
  pub map : new.map ≡ old.map
  pub aslant : new.aslant ≡ old.aslant
  pub start : new.start ≡ old.start
  pub base : new.base ≡ old.base
  pub falls : (c : Cell) (n : ℕ) → Has old c n → Has new c n

-- and only this cell has another number
pub record Lowers (old new : Exploration) (c : Cell) (n : ℕ) : Type 0 where
  pub advances : Advances old new
  pub has : Has new c n
  pub only : (v : Cell) (k : ℕ) → IsOn new.map v → IsNumberOf new v k → IsNumberOf old v k
      ⊎ ((v ≡ c) × (k ≡ n))
