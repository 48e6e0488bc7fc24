-- Which plans are still to be judged while a tree is read, and when a leaf stands.
use Rattle.std.specs.Prelude.{◌≡◌, ℕ, ◌+◌, ◌<◌, ◌≤◌, ◌⊎◌, List, []}
use Rattle.std.specs.Prelude.{◌∷◌, ◌++◌, length, map, max, sum, Some, slice_get}
use Rattle.grid.specs.Map.{Grid}
use Rattle.model.specs.Costs.{makespan, sum_of_costs}
use Rattle.model.specs.Plan.{IsTimetableOf, IsValid, Plan}
use Rattle.model.specs.Timetable.{Timetable}
use Rattle.optimality.specs.declared.constraint.Demand.{Demand}
use Rattle.optimality.specs.declared.constraint.Ends.{Ends}
use Rattle.optimality.specs.declared.constraint.Objective.{Objective}
use Rattle.optimality.specs.declared.constraint.Objective.TheVariants.{Cost, Makespan}
use Rattle.optimality.specs.declared.node.Node.{Node}
use Rattle.optimality.specs.Constraints.{MeetsDemands, constraints_of}
use Rattle.optimality.specs.Splitting.{ends_of, first_demands, second_demands}
use Rattle.optimality.specs.Walkers.{CostsAtLeast, IsLeastCost}

-- what a plan costs
abbrev pub objective_value : Objective → Timetable → ℕ
objective_value Cost tt = sum_of_costs tt
objective_value Makespan tt = makespan tt

-- the greatest of the numbers; 0 where there is none
abbrev pub greatest_number : List ℕ → ℕ
greatest_number [] = 0
greatest_number (n ∷ numbers) = max n (greatest_number numbers)

-- what the agents cost together, a number each
abbrev pub objective_of : Objective → List ℕ → ℕ
objective_of Cost numbers = sum numbers
objective_of Makespan numbers = greatest_number numbers

-- What is to be shown: no valid plan on the map in which each agent, by its number, goes from its
-- start to its goal costs less.
abbrev pub BoundHolds : Grid → List Ends → Objective → ℕ → Type 0
BoundHolds m ends objective bound =
    (p : Plan) (tt : Timetable) → IsValid m p → IsTimetableOf p tt → map ends_of tt.tracks ≡ ends
    → bound ≤ objective_value objective tt

-- A subtree that is due: what is asked of the agents at its root, and how many nodes are above
-- that.
pub record Subtree : Type 0 where
  pub demands : List Demand
  pub above : ℕ

-- the whole tree: nothing is asked at its root
abbrev pub root : Subtree
root = record { demands = []; above = 0 }

-- the children of a node that splits, in order
abbrev pub children : List Ends → Node → Subtree → List Subtree
children ends node here =
    record { demands = here.demands ++ first_demands node; above = here.above + 1 }
    ∷ record { demands = here.demands ++ second_demands ends node; above = here.above + 1 } ∷ []

-- no agent costs less than its number, under what is asked of it
pub record AreAtLeast (m : Grid) (ends : List Ends) (demands : List Demand)
    (numbers : List ℕ) : Type 0 where
  pub count : length numbers ≡ length ends
  pub each : (k n : ℕ) (own : Ends) → slice_get numbers k ≡ Some n → slice_get ends k ≡ Some own
      → CostsAtLeast m own (constraints_of demands k) n

-- and each can cost so much
pub record AreLeast (m : Grid) (ends : List Ends) (demands : List Demand)
    (numbers : List ℕ) : Type 0 where
  pub count : length numbers ≡ length ends
  pub each : (k n : ℕ) (own : Ends) → slice_get numbers k ≡ Some n → slice_get ends k ≡ Some own
      → IsLeastCost m own (constraints_of demands k) n

-- A leaf stands: what the agents cost at least comes to the bound, or one of them has no walk,
-- which costs at least whatever is wanted.
abbrev pub LeafStands : Grid → List Ends → Objective → ℕ → List Demand → Type 0
LeafStands m ends objective bound demands =
    (numbers : List ℕ) × AreAtLeast m ends demands numbers
    × (bound ≤ objective_of objective numbers)

-- A leaf is too low: each agent has a walk, and what they cost at least is this, below the bound.
abbrev pub LeafIsLow : Grid → List Ends → Objective → ℕ → List Demand → ℕ → Type 0
LeafIsLow m ends objective bound demands least =
    (numbers : List ℕ) × AreLeast m ends demands numbers × (least ≡ objective_of objective numbers)
    × (least < bound)

-- the plan falls under one of the nodes that are due
abbrev pub FallsUnder : Timetable → List Subtree → Type 0
FallsUnder tt [] = ⊥
FallsUnder tt (here ∷ others) = MeetsDemands tt here.demands ⊎ FallsUnder tt others

-- each valid plan with these ends costs no less than the bound, or falls under a node that is due
abbrev pub Covers : Grid → List Ends → Objective → ℕ → List Subtree → Type 0
Covers m ends objective bound due =
    (p : Plan) (tt : Timetable) → IsValid m p → IsTimetableOf p tt → map ends_of tt.tracks ≡ ends
    → (bound ≤ objective_value objective tt) ⊎ FallsUnder tt due
