-- The agents at a leaf.
use Rattle.std.proofs.Common.{◌∙◌, ℕ, List}
use Rattle.grid.specs.Map.{Grid}
use Rattle.optimality.specs.declared.constraint.Demand.{Demand}
use Rattle.optimality.specs.declared.constraint.Ends.{Ends}
use Rattle.proof_check.specs.declared.leaf.AgentAtLeaf.{AgentAtLeaf}
use Rattle.proof_check.specs.Leaf.{AreAgentsAt}
use Rattle.proof_check.specs.Code.AgentsAsked.{AreAgentsAsked}
use Rattle.proof_check.specs.Code.Trails.{AreFoundLeast}

pub agents_found : (m : Grid) (ends : List Ends) (demands : List Demand) (bound : ℕ) (numbers : List ℕ) (agents : List AgentAtLeaf)
    → AreFoundLeast m ends demands bound numbers → AreAgentsAsked demands numbers bound agents → AreAgentsAt m ends demands agents
agents_found m ends demands bound numbers agents found asked = record {
  count = asked.count ∙ found.count;
  asked = λ k agent is. (asked.each k agent is).asked;
  least = λ k agent own is there. let one = asked.each k agent is in found.costs k agent.least own one.number there one.below;
}
