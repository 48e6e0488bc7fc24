use Rattle.std.proofs.Common.{◌+◌}
use Rattle.checker.specs.Code.Watching.{IsSeen, AreSameAgents}
use Rattle.checker.proofs.checker.Checker.take_block.Given as goal

abbrev pub invariant-loop-taken : goal.invariant-loop-taken
invariant-loop-taken l = record {
  seen : IsSeen l.self.map.now l.self.plan.now (l.step + l.taken) l.walkers l.squares;
  same : AreSameAgents l.initial.walkers l.walkers;
}
