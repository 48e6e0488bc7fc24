-- Numbers in the order in which they come first.
use Rattle.std.specs.Prelude.{◌≡◌, ℕ, ◌+◌, ◌*◌, ◌<◌, ◌≤◌}
use Rattle.std.specs.Prelude.{List, length, get_or, map, Some, slice_get}
use Rattle.grid.specs.declared.cell.Cell.{Cell}
use Rattle.model.specs.declared.visit.Visit.{Visit}
use Rattle.depgraph.specs.Code.Entries.{begin_in}
use Rattle.depgraph.specs.Code.Numbers.{no_cell}
use Rattle.depgraph.specs.Code.Waits.{no_visit}

-- Each listed number stands in the order, behind those that are listed before it.
pub record IsOrder (listed order : List ℕ) : Type 0 where
  pub whole : (p : ℕ) → p < length listed → (m : ℕ) × (slice_get order m ≡ Some (get_or listed p 0))
  pub sound : (m : ℕ) → m < length order → (p : ℕ) × (p < length listed)
      × (get_or listed p 0 ≡ get_or order m 0)
  pub rising : (m l q : ℕ) → m < l → l < length order → q < length listed
      → get_or listed q 0 ≡ get_or order l 0
      → (p : ℕ) × (p < q) × (get_or listed p 0 ≡ get_or order m 0)
  pub few : length order ≤ length listed

-- when the first visit of the cell with a number begins, and whose it is, in one number
abbrev pub first_of : List Visit → List ℕ → ℕ → ℕ
first_of visits ends n =
    (get_or visits (begin_in ends n) no_visit).time * 65536
    + (get_or visits (begin_in ends n) no_visit).agent

-- The number of each cell once, as the first visits go: by time, and then by agent.
pub record AreByFirst (visits : List Visit) (visit_ends order : List ℕ) : Type 0 where
  pub count : length order ≡ length visit_ends
  pub sound : (m : ℕ) → m < length order → get_or order m 0 < length visit_ends
  pub whole : (n : ℕ) → n < length visit_ends → (m : ℕ) × (slice_get order m ≡ Some n)
  pub different : (m l n : ℕ) → slice_get order m ≡ Some n → slice_get order l ≡ Some n → m ≡ l
  pub rising : (m l : ℕ) → m < l → l < length order
      → first_of visits visit_ends (get_or order m 0) ≤ first_of visits visit_ends
      (get_or order l 0)

-- the cells with these numbers, each with its number
abbrev pub numbered : List Cell → List ℕ → List (Cell × ℕ)
numbered names order = map (λ n. (get_or names n no_cell, n)) order

-- The cells, each with its number, in such an order of numbers.
pub record AreOrdered (names : List Cell) (listed : List ℕ) (cells : List (Cell × ℕ)) : Type 0 where
  pub order : List ℕ
  pub ordered : IsOrder listed order
  pub are : cells ≡ numbered names order
