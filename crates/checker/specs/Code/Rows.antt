-- The conflicts of one agent with those after it.
use Rattle.std.specs.Prelude.{◌≡◌, ℕ, ◌+◌, ◌<◌, List, Some, slice_get}
use Rattle.grid.specs.Map.{Grid}
use Rattle.model.specs.declared.plan_fault.PlanFault.{PlanFault}
use Rattle.model.specs.declared.plan_fault.PlanFault.TheVariants as plan_fault
use Rattle.model.specs.Plan.{Plan, HasPlanFault, Key, key_of}
use Rattle.checker.specs.AllFaults.{IsFaultTold}
use Rattle.checker.specs.declared.conflict.Conflict.{Conflict}
use Rattle.checker.specs.declared.conflict.Conflict.TheVariants.{Vertex, Swap}
use Rattle.checker.specs.declared.places.Step.{Step}
use Rattle.checker.specs.Code.Known.{key_with}
use Rattle.checker.specs.Code.Places.{reversed, step_in}

-- the fault of two agents that have the conflict
abbrev pub fault_between : Conflict → ℕ → ℕ → PlanFault
fault_between (Vertex time cell) i j = plan_fault.Vertex i j time cell
fault_between (Swap step) i j = plan_fault.Swap i j step

-- its key
abbrev pub key_in : Conflict → ℕ → ℕ → Key
key_in (Vertex time cell) i j = key_with time 1 i j
key_in (Swap step) i j = key_with (step + 1) 2 i j

-- the agent has the conflict with just those after it that take the opposite step
pub record IsConflictRow (m : Grid) (p : Plan) (steps : List Step) (conflict : Conflict)
    (i : ℕ) : Type 0 where
  pub has : (j : ℕ) → i < j → slice_get steps j ≡ Some (reversed (step_in steps i))
      → HasPlanFault m p (fault_between conflict i j) × IsFaultTold p (fault_between conflict i j)
  pub only : (fault : PlanFault) → HasPlanFault m p fault → IsFaultTold p fault
      → key_of fault ≡ key_in conflict i (key_of fault).second
      → (i < (key_of fault).second)
      × (slice_get steps (key_of fault).second ≡ Some (reversed (step_in steps i)))
