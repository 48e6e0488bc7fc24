use Rattle.checker.proofs.RowLemmas.{IsHeldTo}
use Rattle.checker.proofs.block.hold.Given as goal

abbrev pub invariant-loop-walker : goal.invariant-loop-walker
invariant-loop-walker l = IsHeldTo l.courses l.step l.walkers l.initial.squares l.squares l.walker-index
