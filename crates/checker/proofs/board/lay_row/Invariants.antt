use Rattle.std.proofs.Common.{◌+◌, ◌*◌}
use Rattle.checker.specs.Code.Squares.{IsLaid}
use Rattle.checker.proofs.board.lay_row.Given as goal

abbrev pub invariant-loop-column : goal.invariant-loop-column
invariant-loop-column l = IsLaid l.map l.squares (l.row * l.map.width + l.column)
