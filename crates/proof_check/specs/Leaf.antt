-- What a leaf in a line of a proof asks of the agents, and what they cost at least under that.
use Rattle.std.specs.Prelude.{◌≡◌, ℕ, List, ◌∷◌, ◌++◌, Option, Some, length, slice_get}
use Rattle.std.specs.Io.KnownBytes.{Consumes}
use Rattle.text_io.specs.Reading.{line_number}
use Rattle.text_io.specs.Text.{ended}
use Rattle.grid.specs.Map.{Grid}
use Rattle.optimality.specs.declared.constraint.Demand.{Demand}
use Rattle.optimality.specs.declared.constraint.Ends.{Ends}
use Rattle.optimality.specs.Constraints.{constraints_of}
use Rattle.optimality.specs.Judging.{Subtree}
use Rattle.optimality.specs.Walkers.{IsLeastCost}
use Rattle.proof_text.specs.ProofText.{ProofDue, ProofLeads, header_due, nodes_due}
use Rattle.proof_check.specs.declared.leaf.AgentAtLeaf.{AgentAtLeaf}
use Rattle.proof_check.specs.declared.leaf.LowLeaf.{LowLeaf}

-- There is one for each agent: it is asked all that the demands ask of it, and costs so much at
-- least.
pub record AreAgentsAt (m : Grid) (ends : List Ends) (demands : List Demand)
    (agents : List AgentAtLeaf) : Type 0 where
  pub count : length agents ≡ length ends
  pub asked : (k : ℕ) (agent : AgentAtLeaf) → slice_get agents k ≡ Some agent
      → agent.asked.items ≡ constraints_of demands k
  pub least : (k : ℕ) (agent : AgentAtLeaf) (own : Ends) → slice_get agents k ≡ Some agent
      → slice_get ends k ≡ Some own
      → IsLeastCost m own (constraints_of demands k) agent.least

-- a node is due next, and these are the agents there
pub record IsDue (m : Grid) (ends : List Ends) (due : ProofDue) (leaf : LowLeaf) : Type 0 where
  pub count : ℕ
  pub here : Subtree
  pub others : List Subtree
  pub is : due ≡ nodes_due leaf.objective leaf.bound count (here ∷ others)
  pub agents : AreAgentsAt m ends here.demands leaf.agents.items

-- The lines before the one with this number were read, and are right: behind them the leaf is due.
pub record ShowsLeaf (m : Grid) (ends : List Ends) (number : ℕ)
    (old_left new_left : Option (List ℕ)) (leaf : LowLeaf) : Type 0 where
  pub delivered : List ℕ
  pub consumed : Consumes old_left new_left delivered
  pub before : List (List ℕ)
  pub ahead : List ℕ
  pub bytes : delivered ≡ ended before ++ ahead
  pub number_is : number ≡ line_number before
  pub due : ProofDue
  pub right : ProofLeads m ends header_due before due
  pub is_due : IsDue m ends due leaf
