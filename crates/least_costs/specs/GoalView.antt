-- What a caller sees of a table of steps to a goal.
use Rattle.grid.specs.declared.cell.Cell.{Cell}
use Rattle.grid.specs.Map.{Grid}

-- the map, and the cell to which the steps lead
pub record GoalView : Type 0 where
  pub map : Grid
  pub goal : Cell
