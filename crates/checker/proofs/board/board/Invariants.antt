use Rattle.std.proofs.Common.{◌*◌}
use Rattle.checker.specs.Code.Squares.{IsLaid}
use Rattle.checker.proofs.board.board.Given as goal

abbrev pub invariant-loop-row : goal.invariant-loop-row
invariant-loop-row l = IsLaid l.map l.squares.items (l.row * l.map.width)
