use Rattle.std.proofs.Common.{◌≡◌, ◌*◌, length}
use Rattle.least_costs.specs.Code.Ways.{AreAllWays}
use Rattle.least_costs.proofs.legal_steps.LegalSteps.of.Given as goal

abbrev pub invariant-loop-row : goal.invariant-loop-row
invariant-loop-row l = (length l.ways.items ≡ l.row * l.map.width) × AreAllWays l.map l.ways.items
