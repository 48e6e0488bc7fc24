use Rattle.checker.proofs.UnderWayStarts.{AreFirst}
use Rattle.checker.proofs.under_way.walkers.Given as goal

abbrev pub invariant-loop-agent : goal.invariant-loop-agent
invariant-loop-agent l = AreFirst l.map l.courses l.walkers.items l.agent
