use Rattle.std.proofs.Common.{◌≡◌}
use Rattle.depgraph.proofs.PassLemmas.{AreTaken}
use Rattle.depgraph.proofs.following.Pass.take_step.Given as goal

abbrev pub invariant-loop-coming : goal.invariant-loop-coming
invariant-loop-coming l = record {
  time : l.self.time ≡ l.initial.self.time;
  taken : AreTaken l.meetings l.initial.self.time l.comings l.coming-index l.self.last.items l.self.waits.items;
}
