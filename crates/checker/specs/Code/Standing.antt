-- Where agents stand, as a list of cells.
use Rattle.std.specs.Prelude.{ℕ, ◌+◌, ◌*◌, List, get_or}
use Rattle.grid.specs.declared.cell.Cell.{Cell}
pub use Rattle.checker.specs.Moving.{IsOnGrid}

-- the cell of an agent; where there is no such agent, anything may stand for it
abbrev pub cell_in : List Cell → ℕ → Cell
cell_in cells i = get_or cells i (record { x = 0; y = 0 })

-- the cell's place in a table of rows
abbrev pub place_in : ℕ → Cell → ℕ
place_in width c = c.y * width + c.x
