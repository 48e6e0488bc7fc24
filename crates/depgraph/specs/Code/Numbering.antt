-- Cells that are kept as numbers.
use Rattle.std.specs.Prelude.{ℕ, ◌+◌, ◌*◌, ◌≤◌, List, length}
use Rattle.grid.specs.declared.cell.Cell.{Cell}
use Rattle.depgraph.specs.declared.numbering.Numbering.{Numbering}
use Rattle.depgraph.specs.declared.tiles.Tiles.{Tiles}
use Rattle.depgraph.specs.Code.Numbers.{cells_by, AreNumbered}
use Rattle.depgraph.specs.Code.Tiles.{AreTiles, AreHeld}

-- each of these numbers is that of a cell, whose tile holds it
pub record AreNumbering (t : Tiles) (names : List Cell) (numbers : List ℕ) : Type 0 where
  pub tiles : AreTiles t
  pub held : AreHeld t names
  pub numbered : AreNumbered (cells_by names numbers) names numbers
  pub size : length t.numbers.items ≤ (length numbers + 1) * 256

abbrev pub IsNumbering : Numbering → Type 0
IsNumbering n = AreNumbering n.tiles n.names.items n.numbers.items

-- the cells that were added
abbrev pub cells_in : Numbering → List Cell
cells_in n = cells_by n.names.items n.numbers.items
