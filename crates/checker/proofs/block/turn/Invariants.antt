use Rattle.std.proofs.Common.{◌-◌, ◌≤◌, length}
use Rattle.checker.specs.Code.Blocks.{AreActRows}
use Rattle.checker.proofs.RowLemmas.{AreTurnedTo}
use Rattle.checker.proofs.block.turn.Given as goal

abbrev pub invariant-loop-first : goal.invariant-loop-first
invariant-loop-first l = record {
  within : l.first ≤ length l.walkers;
  rows : AreActRows (length l.courses) l.rows;
  turned : AreTurnedTo l.courses l.step l.walkers l.rows l.first;
}

abbrev pub decreases-loop-first : goal.decreases-loop-first
decreases-loop-first l = length l.walkers - l.first
