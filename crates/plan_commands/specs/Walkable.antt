-- Which plans can be walked, agent by agent, and what is wrong with the others (Stern et al. 2019,
-- "Classical MAPF").
use Rattle.std.specs.Prelude.{⊤}
use Rattle.grid.specs.Map.{Grid}
use Rattle.model.specs.declared.plan_fault.PlanFault.{PlanFault}
use Rattle.model.specs.declared.plan_fault.PlanFault.TheVariants.{BadStart, BadMove, Vertex}
use Rattle.model.specs.declared.plan_fault.PlanFault.TheVariants.{Swap, OutOfMemory}
use Rattle.model.specs.Plan.{Plan, HasPlanFault, key_of, IsBefore}

-- a fault of one agent by itself: its start, or a move
abbrev pub IsOfOneAgent : PlanFault → Type 0
IsOfOneAgent (BadStart i) = ⊤
IsOfOneAgent (BadMove i step) = ⊤
IsOfOneAgent (Vertex i j time cell) = ⊥
IsOfOneAgent (Swap i j step) = ⊥
IsOfOneAgent OutOfMemory = ⊥

-- each agent may go its way, were it alone; agents may meet
abbrev pub IsWalkable : Grid → Plan → Type 0
IsWalkable m p = (fault : PlanFault) → IsOfOneAgent fault → HasPlanFault m p fault → ⊥

-- the plan has the fault, which is of one agent, and none of these before it
pub record IsLeastOfOneAgent (m : Grid) (p : Plan) (fault : PlanFault) : Type 0 where
  pub of_one : IsOfOneAgent fault
  pub has : HasPlanFault m p fault
  pub first : (other : PlanFault) → IsOfOneAgent other → HasPlanFault m p other
      → IsBefore (key_of other) (key_of fault) → ⊥
