use Rattle.std.proofs.Common.{◌<◌, take}
use Rattle.grid.specs.declared.cell.Cell.{Cell}
use Rattle.depgraph.specs.Code.Numbering.{IsNumbering, cells_in}
use Rattle.depgraph.specs.Code.Paths.{ArePaths}
use Rattle.depgraph.specs.Code.Tiles.{IsCovered}
use Rattle.depgraph.proofs.paths.paths_of.Given as goal

abbrev pub invariant-loop-agent : goal.invariant-loop-agent
invariant-loop-agent l = record {
  numbering : IsNumbering l.cells;
  covered : (cell : Cell) → cell.x < l.plan.width → cell.y < l.plan.height → IsCovered l.cells.tiles cell;
  paths : ArePaths (take l.agent l.plan.timetable.tracks) (cells_in l.cells) l.times.items l.ends.items;
}
