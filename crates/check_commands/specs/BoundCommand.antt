-- What `mapf bound` does and answers.
use Rattle.std.specs.Prelude.{◌≡◌, ℕ, ◌+◌, ◌⊎◌, Bool, true, false, List, []}
use Rattle.std.specs.Prelude.{◌∷◌, ◌++◌, codes, sum, Option, Result, Ok, Err}
use Rattle.std.specs.List.{flat_map}
use Rattle.text_io.specs.declared.counted.Counted.{Counted}
use Rattle.grid.specs.Map.{Grid}
use Rattle.model.specs.Costs.{cost, sum_of_costs, makespan}
use Rattle.model.specs.FaultWords.{plan_fault_words}
use Rattle.model.specs.Plan.{Plan}
use Rattle.model.specs.Timetable.{Track}
use Rattle.model.specs.declared.plan_fault.PlanFault.{PlanFault}
use Rattle.plan_text.specs.PlanTextFault.{ReadsMapAndPlan}
use Rattle.checker.specs.Checking.{Checked, IsRefusedFor}
use Rattle.bounding.specs.Bounding.{AreBounds, BoundsAll, greatest_bound}
use Rattle.least_steps.specs.FaultWords.{step_fault_words}
use Rattle.least_steps.specs.declared.step_fault.StepFault.{StepFault}
use Rattle.planned.specs.FaultWords.{planned_fault_words}
use Rattle.planned.specs.declared.planned_fault.PlannedFault.{PlannedFault}
use Rattle.planned.specs.declared.planned_fault.PlannedFault.TheVariants as planned_fault
use Rattle.ending.specs.declared.status.Status.TheVariants.{Done}
use Rattle.ending.specs.Ending.{End, answered_with, gave_up}
use Rattle.ending.specs.Pieces.{pieces_text}
use Rattle.ending.specs.Rewriting.{EndsWriting}
use Rattle.check_commands.specs.CheckCommand.{ReadsNot, ReadsValid}
use Rattle.check_commands.specs.FaultsText.{comma}

-- ---- what is written

-- what each agent costs, and at least
abbrev pub costs_and_bounds : List Track → List ℕ → List (ℕ × ℕ)
costs_and_bounds [] bounds = []
costs_and_bounds (track ∷ tracks) [] = []
costs_and_bounds (track ∷ tracks) (bound ∷ bounds) =
    (cost track, bound) ∷ costs_and_bounds tracks bounds

-- the line of an agent, as `agent 0 cost 3 of 2`
abbrev pub agent_bound_line : ℕ → ℕ × ℕ → List ℕ
agent_bound_line agent pair =
    pieces_text ((codes "agent ", agent) ∷ (codes " cost ", pair.0) ∷ (codes " of ", pair.1) ∷ [])
    ++ codes "\n"

-- those of agents, if these are the ones from this number on
abbrev pub agent_bound_lines : ℕ → List (ℕ × ℕ) → List ℕ
agent_bound_lines agent [] = []
agent_bound_lines agent (pair ∷ pairs) =
    agent_bound_line agent pair ++ agent_bound_lines (agent + 1) pairs

-- as `{"cost":3,"bound":2}`
abbrev pub agent_bound_json : ℕ × ℕ → List ℕ
agent_bound_json pair =
    pieces_text ((codes "{\"cost\":", pair.0) ∷ (codes ",\"bound\":", pair.1) ∷ []) ++ codes "}"

-- the objects with a comma between each two
abbrev pub agent_bounds_json : List (ℕ × ℕ) → List ℕ
agent_bounds_json [] = []
agent_bounds_json (pair ∷ pairs) =
    agent_bound_json pair ++ flat_map (λ other. comma ∷ agent_bound_json other) pairs

-- the sum of costs and the makespan, each beside what it is at least
abbrev pub sums_line : (cost cost_bound makespan makespan_bound : ℕ) → List ℕ
sums_line cost cost_bound makespan makespan_bound =
    pieces_text ((codes "cost ", cost) ∷ (codes " of ", cost_bound) ∷ (codes " makespan ", makespan)
    ∷ (codes " of ", makespan_bound) ∷ []) ++ codes "\n"

abbrev pub sums_json : (cost cost_bound makespan makespan_bound : ℕ) → List ℕ
sums_json cost cost_bound makespan makespan_bound =
    pieces_text ((codes "{\"cost\":", cost) ∷ (codes ",\"cost_bound\":", cost_bound)
    ∷ (codes ",\"makespan\":", makespan) ∷ (codes ",\"makespan_bound\":", makespan_bound) ∷ [])

-- The text: in words or as JSON, with the agents, where they are asked for.
abbrev pub bound_text
    : (agents json : Bool) → List (ℕ × ℕ) → (cost cost_bound makespan makespan_bound : ℕ) → List ℕ
bound_text false false pairs cost cost_bound makespan makespan_bound =
    sums_line cost cost_bound makespan makespan_bound
bound_text true false pairs cost cost_bound makespan makespan_bound =
    agent_bound_lines 0 pairs ++ sums_line cost cost_bound makespan makespan_bound
bound_text false true pairs cost cost_bound makespan makespan_bound =
    sums_json cost cost_bound makespan makespan_bound ++ codes "}\n"
bound_text true true pairs cost cost_bound makespan makespan_bound =
    sums_json cost cost_bound makespan makespan_bound
    ++ (codes ",\"agents\":[" ++ (agent_bounds_json pairs ++ codes "]}\n"))

-- ---- how it ends

-- A valid plan's text was written, by what its agents cost at least, which is known to bound all
-- plans with the same ends; or what bounds them was not found.
abbrev pub EndsBounded : {W : Type 0} → (W → Option (List ℕ)) → (agents json : Bool) → Grid
    → Checked → Counted W → Counted W → End → Type 0
EndsBounded contents agents json m c old new end =
    ((bounds : List ℕ) × AreBounds m c.timetable.tracks bounds
    × BoundsAll m c.timetable.tracks bounds
    × EndsWriting contents old new (answered_with Done) end
    (bound_text agents json (costs_and_bounds c.timetable.tracks bounds) (sum_of_costs c.timetable)
    (sum bounds) (makespan c.timetable) (greatest_bound bounds)))
    ⊎ ((fault : StepFault) × (end ≡ gave_up (step_fault_words fault)) × (new ≡ old))

-- The map and the plan were read, and the plan was checked, and where it is valid it was told what
-- it costs at least; else its fault is told.
abbrev pub AnswersBound
    : {M P W : Type 0} → (M → Option (List ℕ)) → (P → Option (List ℕ)) → (W → Option (List ℕ))
    → (agents json : Bool)
    → Counted M → Counted M → Counted P → Counted P → Counted W → Counted W → End → Type 0
AnswersBound map_left plan_left contents agents json old_map new_map old_plan new_plan old new end =
    ((fault : PlannedFault) × ReadsNot map_left plan_left old_map new_map old_plan new_plan fault
    × (end ≡ gave_up (planned_fault_words fault)) × (new ≡ old))
    ⊎ (((m : Grid) × (p : Plan) × (fault : PlanFault)
    × ReadsMapAndPlan map_left plan_left old_map new_map old_plan new_plan m p
    × IsRefusedFor m p fault
    × (end ≡ gave_up (plan_fault_words fault)) × (new ≡ old))
    ⊎ ((m : Grid) × (c : Checked)
    × ReadsValid map_left plan_left old_map new_map old_plan new_plan m c
    × EndsBounded contents agents json m c old new end))
