-- The numbers of cells.
use Rattle.std.specs.Prelude.{◌≡◌, ℕ, ◌<◌, ◌≤◌, ◌⊎◌, List, []}
use Rattle.std.specs.Prelude.{◌∷◌, ◌++◌, length, get_or, map, Some, slice_get}
use Rattle.grid.specs.declared.cell.Cell.{Cell}
use Rattle.depgraph.specs.declared.placing.Arrival.{Arrival}
use Rattle.depgraph.specs.Code.Schedules.{entry_in}

abbrev pub no_cell : Cell
no_cell = record { x = 0; y = 0 }

-- the cells with these numbers
abbrev pub cells_by : List Cell → List ℕ → List Cell
cells_by names numbers = map (λ n. get_or names n no_cell) numbers

-- each of these numbers is one of a cell
abbrev pub AreKnown : List Cell → List ℕ → Type 0
AreKnown names numbers = (e : ℕ) → e < length numbers → get_or numbers e 0 < length names

-- no cell stands twice in the list
abbrev pub AreDistinct : List Cell → Type 0
AreDistinct names =
    (a b : ℕ) (c : Cell) → slice_get names a ≡ Some c → slice_get names b ≡ Some c → a ≡ b

-- the cell has this number in the new list: it is added at the end, or was there
pub record HasNumber (old new : List Cell) (cell : Cell) (number : ℕ) : Type 0 where
  pub is_at : slice_get new number ≡ Some cell
  pub grown : ((number ≡ length old) × (new ≡ old ++ cell ∷ []))
      ⊎ ((number < length old) × (new ≡ old))

-- Each cell of a list has the number of its name. Each name is that of some cell.
pub record AreNumbered (cells names : List Cell) (numbers : List ℕ) : Type 0 where
  pub distinct : AreDistinct names
  pub named : (e : ℕ) → e < length numbers → slice_get names (get_or numbers e 0)
      ≡ Some (get_or cells e no_cell)
  pub occurs
      : (n : ℕ) → n < length names → (e : ℕ) × (e < length numbers) × (get_or numbers e 0 ≡ n)
  pub few : length names ≤ length numbers

-- all cells have their numbers, and there are so many
abbrev pub AreNumbersOf : List Cell → List ℕ → ℕ → Type 0
AreNumbersOf cells numbers count =
    (names : List Cell) × AreNumbered cells names numbers × (length numbers ≡ length cells)
    × (count ≡ length names)

-- Of so many arrivals, each has the number of its cell's name.
pub record AreListed (cells : List Cell) (ends : List ℕ) (arrivals : List Arrival)
    (names : List Cell) (listed : List ℕ) : Type 0 where
  pub distinct : AreDistinct names
  pub named : (p : ℕ) → p < length listed → slice_get names (get_or listed p 0)
      ≡ Some (get_or cells (entry_in ends arrivals p) no_cell)
  pub known : (p : ℕ) → p < length listed → get_or listed p 0 < length names
  pub occurs : (n : ℕ) → n < length names → (p : ℕ) × (p < length listed) × (get_or listed p 0 ≡ n)
