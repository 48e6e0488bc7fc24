use Rattle.std.proofs.Common.{◌≡◌, ◌+◌, ◌*◌, length}
use Rattle.least_costs.specs.Code.Ways.{AreAllWays}
use Rattle.least_costs.proofs.legal_steps.put_row.Given as goal

abbrev pub invariant-loop-column : goal.invariant-loop-column
invariant-loop-column l = (length l.ways.items ≡ l.row * l.map.width + l.column) × AreAllWays l.map l.ways.items
