use Rattle.std.proofs.Common.{◌≡◌, ℕ, ◌<◌, Some}
use Rattle.std.specs.Prelude.{slice_get}
use Rattle.agent.specs.Agents.{AgentOn}
use Rattle.agent.specs.declared.counted_tape.CountedTape.{CountedTape}
use Rattle.executor.specs.Code.Waiting.{HasStopped}
use Rattle.executor.proofs.arrival.have_arrived.Given as goal

-- those before the next are at their ends
abbrev pub invariant-loop-id : goal.invariant-loop-id
invariant-loop-id l = (i : ℕ) (a : AgentOn CountedTape) → i < l.id → slice_get l.agents i ≡ Some a → HasStopped l.graph i a
