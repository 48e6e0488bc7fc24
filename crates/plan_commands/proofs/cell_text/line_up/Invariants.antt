-- The text of the cells before stands in the first bytes.
use Rattle.std.proofs.Common.{◌≡◌, ◌*◌, ◌≤◌, length, take}
use Rattle.plan_commands.proofs.CellLemmas.{text_of}
use Rattle.plan_commands.proofs.cell_text.line_up.Given as goal

abbrev pub invariant-loop-cell : goal.invariant-loop-cell
invariant-loop-cell l = record {
  short : l.len ≤ 14 * l.cell-index;
  room : length l.bytes ≡ 3584;
  text : take l.len l.bytes ≡ text_of (take l.cell-index l.cells);
}
