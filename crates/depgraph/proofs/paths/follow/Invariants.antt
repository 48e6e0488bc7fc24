use Rattle.std.proofs.Common.{◌≡◌, ◌++◌, ◌+◌, ◌<◌, ◌^◌, None, length}
use Rattle.std.specs.Prelude.{All}
use Rattle.depgraph.specs.Code.Arrivals.{entered, entry_times}
use Rattle.depgraph.specs.Code.Numbering.{IsNumbering, cells_in}
use Rattle.depgraph.specs.Code.Tiles.{IsCovered, IsSameMap}
use Rattle.depgraph.proofs.paths.follow.Given as goal

-- what is left to be added comes behind what there is
abbrev pub invariant-loop-cell : goal.invariant-loop-cell
invariant-loop-cell l = record {
  numbering : IsNumbering l.path;
  map : IsSameMap l.initial.path.tiles l.path.tiles;
  covered : All (IsCovered l.path.tiles) l.cell-iterator;
  few : length l.path.numbers.items + length l.cell-iterator < 2 ^ 32;
  path : cells_in l.path ++ entered l.here l.cell-iterator ≡ cells_in l.initial.path ++ entered None l.fn.cells;
  times : l.times.items ++ entry_times l.here l.cell-iterator l.time ≡ l.initial.times.items ++ entry_times None l.fn.cells 0;
  count : l.time + length l.cell-iterator ≡ length l.fn.cells;
}
