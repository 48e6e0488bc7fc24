-- The one list of all faults of a plan, and the first of them.
use Rattle.std.specs.Prelude.{◌≡◌, ℕ, ◌+◌, ◌^◌, ◌<◌, ◌≤◌, ◌↔◌, ◌==◌}
use Rattle.std.specs.Prelude.{◌||◌, zero, suc, Bool, true, false, if◌then◌else◌, List}
use Rattle.std.specs.Prelude.{[], ◌∷◌, length, take, Some, slice_get}
use Rattle.grid.specs.Map.{Grid}
use Rattle.model.specs.declared.plan_fault.PlanFault.{PlanFault}
use Rattle.model.specs.declared.plan_fault.PlanFault.TheVariants.{BadStart, BadMove, Vertex}
use Rattle.model.specs.declared.plan_fault.PlanFault.TheVariants.{Swap, OutOfMemory}
use Rattle.model.specs.Plan.{Plan, HasPlanFault, key_of, IsBefore, longest_of}

-- the fault is told: it is no later than the most acts of an agent, and a vertex conflict is in a
-- cell whose column and row are below 2^16
abbrev pub IsFaultTold : Plan → PlanFault → Type 0
IsFaultTold p (Vertex i j time cell) =
    (time ≤ longest_of p.courses) × (cell.x < 2 ^ 16) × (cell.y < 2 ^ 16)
IsFaultTold p fault = (key_of fault).time ≤ longest_of p.courses

-- the one list of all faults that are told: by key, each once
pub record AreAllFaults (m : Grid) (p : Plan) (faults : List PlanFault) : Type 0 where
  pub each : (n : ℕ) (fault : PlanFault) → slice_get faults n ≡ Some fault → HasPlanFault m p fault
      × IsFaultTold p fault
  pub all : (fault : PlanFault) → HasPlanFault m p fault → IsFaultTold p fault → (n : ℕ)
      × (slice_get faults n ≡ Some fault)
  pub rising : (a b : ℕ) (f g : PlanFault) → slice_get faults a ≡ Some f
      → slice_get faults b ≡ Some g → a < b → IsBefore (key_of f) (key_of g)

-- the fault names the agent
abbrev pub names_agent : PlanFault → ℕ → Bool
names_agent (BadStart i) agent = i == agent
names_agent (BadMove i step) agent = i == agent
names_agent (Vertex i j time cell) agent = i == agent || j == agent
names_agent (Swap i j step) agent = i == agent || j == agent
names_agent OutOfMemory agent = false

-- one of the faults names the agent
abbrev pub is_named : List PlanFault → ℕ → Bool
is_named [] agent = false
is_named (fault ∷ faults) agent = names_agent fault agent || is_named faults agent

-- how many of the first so many agents are named
abbrev pub count_of_named : (agents : ℕ) → List PlanFault → ℕ
count_of_named zero faults = 0
count_of_named (suc agent) faults =
    if is_named faults agent then count_of_named agent faults + 1 else count_of_named agent faults

-- the first so many of all faults, whether there are more, and how many different agents are named
-- in these
pub record AreFirstFaults (m : Grid) (p : Plan) (most : ℕ) (listed : List PlanFault) (more : Bool)
    (agents : ℕ) : Type 0 where
  pub all : List PlanFault
  pub are_all : AreAllFaults m p all
  pub first : listed ≡ take most all
  pub is_more : more ≡ true ↔ most < length all
  pub named : agents ≡ count_of_named (length p.courses) listed
