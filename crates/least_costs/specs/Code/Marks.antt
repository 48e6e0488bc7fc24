-- How far each cell is from a goal, as far as a search has found.
use Rattle.std.specs.Prelude.{◌≡◌, ℕ, ◌<◌, List, Option, Some, None, length, slice_get}
use Rattle.grid.specs.declared.cell.Cell.{Cell}
use Rattle.least_costs.specs.declared.marks.MarkRow.{MarkRow}
use Rattle.least_costs.specs.declared.marks.Marks.{Marks}

-- the mark, or that of a cell to which no way was found
abbrev pub mark_or_none : Option ℕ → ℕ
mark_or_none None = 4294967295
mark_or_none (Some mark) = mark

abbrev pub mark_in_row : Option MarkRow → ℕ → ℕ
mark_in_row None x = 4294967295
mark_in_row (Some row) x = mark_or_none (slice_get row.marks.items x)

-- the mark of a cell
unfoldable pub mark_of : List MarkRow → Cell → ℕ
mark_of rows c = mark_in_row (slice_get rows c.y) c.x

abbrev pub mark_at : Marks → Cell → ℕ
mark_at marks c = mark_of marks.rows.items c

-- each cell has the mark that it had
abbrev pub AreSameMarks : Marks → Marks → Type 0
AreSameMarks old new = (c : Cell) → mark_at new c ≡ mark_at old c

-- one cell has another mark
pub record IsPut (old : Marks) (cell : Cell) (mark : ℕ) (new : Marks) : Type 0 where
  pub here : mark_at new cell ≡ mark
  pub others : (c : Cell) → (c ≡ cell → ⊥) → mark_at new c ≡ mark_at old c

-- there is a mark at the place
abbrev pub HasMarkRoom : Marks → (row column : ℕ) → Type 0
HasMarkRoom marks row column =
    (r : MarkRow) × (slice_get marks.rows.items row ≡ Some r) × (column < length r.marks.items)
