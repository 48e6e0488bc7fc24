use Rattle.std.proofs.Common.{◌≡◌, ℕ, [], length, Some}
use Rattle.std.specs.Prelude.{slice_get}
use Rattle.agent.specs.Agents.{AgentOn}
use Rattle.model.specs.declared.version.Version.{Version}
use Rattle.agent.specs.declared.counted_tape.CountedTape.{CountedTape}
use Rattle.executor.specs.Standing.{IsMember}
use Rattle.executor.proofs.runner.Runner.over.Given as goal

-- there are agents up to the next, none of which has begun a move
abbrev pub invariant-agents : goal.invariant-agents
invariant-agents l = record {
  count : length l.agents.items ≡ l.id;
  members : (i : ℕ) (a : AgentOn CountedTape) → slice_get l.agents.items i ≡ Some a → (v : Version) → IsMember v l.graph [] i a;
}
