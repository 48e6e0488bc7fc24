-- What is asked of each agent, beside what it costs at least.
use Rattle.std.specs.Prelude.{◌≡◌, ℕ, ◌<◌, List, Some, length, slice_get}
use Rattle.optimality.specs.declared.constraint.Demand.{Demand}
use Rattle.optimality.specs.Constraints.{constraints_of}
use Rattle.proof_check.specs.declared.leaf.AgentAtLeaf.{AgentAtLeaf}

-- the agent with this number is asked what the demands ask of it, and its number is below the bound
pub record IsAgentAsked (demands : List Demand) (numbers : List ℕ) (bound k : ℕ)
    (agent : AgentAtLeaf) : Type 0 where
  pub asked : agent.asked.items ≡ constraints_of demands k
  pub number : slice_get numbers k ≡ Some agent.least
  pub below : agent.least < bound

-- there is one for each number
pub record AreAgentsAsked (demands : List Demand) (numbers : List ℕ) (bound : ℕ)
    (agents : List AgentAtLeaf) : Type 0 where
  pub count : length agents ≡ length numbers
  pub each : (k : ℕ) (agent : AgentAtLeaf) → slice_get agents k ≡ Some agent
      → IsAgentAsked demands numbers bound k agent
