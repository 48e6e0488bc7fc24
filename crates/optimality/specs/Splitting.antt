-- How a node of a proof splits the valid plans: each falls under one of its two children.
use Rattle.std.specs.Prelude.{◌≢◌, ℕ, ◌+◌, zero, suc, List, [], ◌∷◌, ⊤}
use Rattle.grid.specs.declared.cell.Cell.{Cell}
use Rattle.grid.specs.Map.{ShareSide}
use Rattle.model.specs.Costs.{cost}
use Rattle.model.specs.Timetable.{Track, cell_at}
use Rattle.optimality.specs.declared.constraint.Constraint.{Constraint}
use Rattle.optimality.specs.declared.constraint.Constraint.TheVariants.{Away, AwayFrom, There}
use Rattle.optimality.specs.declared.constraint.Constraint.TheVariants.{NotTaken, Above, Within}
use Rattle.optimality.specs.declared.constraint.Demand.{Demand}
use Rattle.optimality.specs.declared.constraint.Ends.{Ends}
use Rattle.optimality.specs.declared.constraint.Whom.TheVariants.{Only, AllBut}
use Rattle.optimality.specs.declared.node.Node.{Node}
use Rattle.optimality.specs.declared.node.Node.TheVariants.{Vertex, Swap, At, Goes, Stays}

-- two agents differ, and the cells of a step share a side
abbrev pub IsNode : Node → Type 0
IsNode (Vertex i j t c) = i ≢ j
IsNode (Swap i j t u v) = (i ≢ j) × ShareSide u v
IsNode (At i t c) = ⊤
IsNode (Goes i t u v) = ShareSide u v
IsNode (Stays i t) = ⊤

-- where an agent starts, and where it is from the time on from which it stays
abbrev pub ends_of : Track → Ends
ends_of track = record { start = track.start; goal = cell_at track (cost track) }

-- where the agent with this number ends; where there is none, anything may stand for it
abbrev pub goal_of : List Ends → ℕ → Cell
goal_of [] k = record { x = 0; y = 0 }
goal_of (ends ∷ others) zero = ends.goal
goal_of (ends ∷ others) (suc k) = goal_of others k

abbrev pub only : ℕ → Constraint → Demand
only i constraint = record { whom = Only i; constraint = constraint }

abbrev pub all_but : ℕ → Constraint → Demand
all_but i constraint = record { whom = AllBut i; constraint = constraint }

-- what is asked under the first child
abbrev pub first_demands : Node → List Demand
first_demands (Vertex i j t c) = only i (Away t c) ∷ []
first_demands (Swap i j t u v) = only i (NotTaken t u v) ∷ []
first_demands (At i t c) = only i (Away t c) ∷ []
first_demands (Goes i t u v) = only i (NotTaken t u v) ∷ []
first_demands (Stays i t) = only i (Above t) ∷ []

-- and under the second
abbrev pub second_demands : List Ends → Node → List Demand
second_demands ends (Vertex i j t c) = only j (Away t c) ∷ []
second_demands ends (Swap i j t u v) = only j (NotTaken t v u) ∷ []
second_demands ends (At i t c) = only i (There t c) ∷ all_but i (Away t c) ∷ []
second_demands ends (Goes i t u v) =
    only i (There t u) ∷ only i (There (t + 1) v) ∷ all_but i (Away t u) ∷ all_but i
    (Away (t + 1) v) ∷ all_but i (NotTaken t v u) ∷ []
second_demands ends (Stays i t) = only i (Within t) ∷ all_but i (AwayFrom t (goal_of ends i)) ∷ []
