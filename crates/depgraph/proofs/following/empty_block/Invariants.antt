use Rattle.std.proofs.Common.{◌≡◌, length}
use Rattle.depgraph.proofs.following.empty_block.Given as goal

abbrev pub invariant-loop-step : goal.invariant-loop-step
invariant-loop-step l = length l.block.items ≡ l._step
