use Rattle.std.proofs.Common.{◌≡◌, ℕ, length, Some}
use Rattle.std.specs.Prelude.{slice_get}
use Rattle.proof_check.specs.declared.leaf.AgentAtLeaf.{AgentAtLeaf}
use Rattle.proof_check.specs.Code.AgentsAsked.{IsAgentAsked}
use Rattle.proof_check.proofs.leaf.agents_asked.Given as goal

abbrev pub invariant-loop-agent : goal.invariant-loop-agent
invariant-loop-agent l = record {
  count : length l.agents.items ≡ l.agent;
  each : (k : ℕ) (one : AgentAtLeaf) → slice_get l.agents.items k ≡ Some one → IsAgentAsked l.demands l.fn.least l.bound k one;
}
