use Rattle.std.proofs.Common.{◌≡◌, ◌++◌, drop}
use Rattle.depgraph.specs.Code.Turning.{agents_of}
use Rattle.depgraph.proofs.rotations.agents_on.Given as goal

-- the agents so far, and behind them those of the entries that are left
abbrev pub invariant-loop-entry : goal.invariant-loop-entry
invariant-loop-entry l = l.agents.items ++ agents_of l.waits l.agent (drop l.entry-index l.trail) ≡ agents_of l.waits l.first l.trail
