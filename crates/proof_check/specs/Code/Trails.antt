-- What is asked on the way to a node, and what was found of the agents under it.
use Rattle.std.specs.Prelude.{◌≡◌, ℕ, ◌<◌, List, [], ◌∷◌, length, take, map, Some, slice_get, ⊤}
use Rattle.std.specs.List.{AllByRecursion}
use Rattle.grid.specs.Map.{Grid}
use Rattle.least_costs.specs.GoalView.{GoalView}
use Rattle.optimality.specs.declared.constraint.Demand.{Demand}
use Rattle.optimality.specs.declared.constraint.Ends.{Ends}
use Rattle.optimality.specs.declared.node.Node.{Node}
use Rattle.optimality.specs.declared.node.Node.TheVariants.{Vertex, Swap, At, Goes, Stays}
use Rattle.optimality.specs.Constraints.{constraints_of}
use Rattle.optimality.specs.Splitting.{first_demands, second_demands}
use Rattle.optimality.specs.Walkers.{CostsAtLeast, IsLeastCost}
use Rattle.proof_check.specs.declared.trail.Child.{Child}
use Rattle.proof_check.specs.declared.trail.Child.TheVariants.{Root, First, Second}
use Rattle.proof_check.specs.declared.trail.Kept.{Kept}
use Rattle.proof_check.specs.Code.Rising.{RisesTo}

-- what a child asks, beside what its parent does
abbrev pub child_demands : List Ends → Child → List Demand
child_demands ends Root = []
child_demands ends (First node) = first_demands node
child_demands ends (Second node) = second_demands ends node

-- the time that a node names
abbrev pub node_time : Node → ℕ
node_time (Vertex i j t c) = t
node_time (Swap i j t u v) = t
node_time (At i t c) = t
node_time (Goes i t u v) = t
node_time (Stays i t) = t

-- it is one of a text
abbrev pub IsTimely : Child → Type 0
IsTimely Root = ⊤
IsTimely (First node) = node_time node < 65536
IsTimely (Second node) = node_time node < 65536

-- the agent costs so much at least under the first demands
abbrev pub HoldsKept : Grid → List Ends → List Demand → Kept → Type 0
HoldsKept m ends demands kept =
    (own : Ends) → slice_get ends kept.agent ≡ Some own
    → CostsAtLeast m own (constraints_of (take kept.asked demands) kept.agent) kept.cost

abbrev pub asked_numbers : List Kept → List ℕ
asked_numbers kept = map (λ (k : Kept). k.asked) kept

-- What was kept holds, the newest last, and none of it was found under more than so many demands.
pub record AreKeptWithin (m : Grid) (ends : List Ends) (demands : List Demand) (count : ℕ)
    (kept : List Kept) : Type 0 where
  pub rising : RisesTo (asked_numbers kept) count
  pub hold : AllByRecursion (HoldsKept m ends demands) kept

abbrev pub IsTrail : Grid → List Ends → List Demand → List Kept → Type 0
IsTrail m ends demands kept = AreKeptWithin m ends demands (length demands) kept

-- there is a table for each agent, to its goal
abbrev pub AreTables : Grid → List Ends → List GoalView → Type 0
AreTables m [] tables = tables ≡ []
AreTables m (own ∷ ends) tables =
    (others : List GoalView) × (tables ≡ record { map = m; goal = own.goal } ∷ others)
    × AreTables m ends others

-- no agent costs less than its number, and one below the limit is what it costs at least
pub record AreFoundLeast (m : Grid) (ends : List Ends) (demands : List Demand) (limit : ℕ)
    (numbers : List ℕ) : Type 0 where
  pub count : length numbers ≡ length ends
  pub least : (k n : ℕ) (own : Ends) → slice_get numbers k ≡ Some n → slice_get ends k ≡ Some own
      → CostsAtLeast m own (constraints_of demands k) n
  pub costs : (k n : ℕ) (own : Ends) → slice_get numbers k ≡ Some n → slice_get ends k ≡ Some own
      → n < limit → IsLeastCost m own (constraints_of demands k) n
