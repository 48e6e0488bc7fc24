-- What `mapf check` does and answers.
use Rattle.std.specs.Prelude.{◌≡◌, ℕ, ◌⊎◌, Bool, true, false, List, [], ◌∷◌, length}
use Rattle.std.specs.Prelude.{map, sum, Option, None, Some, unwrap_or, Result, Ok, Err}
use Rattle.text_io.specs.declared.counted.Counted.{Counted}
use Rattle.text_io.specs.declared.failure.Failure.TheVariants as failure
use Rattle.text_io.specs.FaultWords.{Words, failed, words_text}
use Rattle.grid.specs.Map.{Grid}
use Rattle.grid.specs.MapFault.{ReadsMap}
use Rattle.model.specs.Costs.{sum_of_costs, makespan}
use Rattle.model.specs.FaultWords.{plan_fault_words}
use Rattle.model.specs.Plan.{Plan}
use Rattle.model.specs.declared.plan_fault.PlanFault.{PlanFault}
use Rattle.model.specs.declared.plan_fault.PlanFault.TheVariants.{OutOfMemory}
use Rattle.plan_text.specs.PlanTextFault.{ReadsPlan, ReadsMapAndPlan}
use Rattle.checker.specs.Checking.{Checked, IsCheckOf, IsRefusedFor}
use Rattle.fitting.specs.FaultWords.{fit_fault_words}
use Rattle.fitting.specs.Fitting.{AnswersFit}
use Rattle.fitting.specs.declared.fit_fault.FitFault.{FitFault}
use Rattle.fitting.specs.declared.fit_fault.FitFault.TheVariants.{TooFewRows, AgentCount}
use Rattle.fitting.specs.declared.fit_fault.FitFault.TheVariants.{StartDiffers, GoalDiffers}
use Rattle.fitting.specs.declared.fit_fault.FitFault.TheVariants.{SizeDiffers}
use Rattle.checker.specs.AllFaults.{AreFirstFaults}
use Rattle.bounding.specs.Bounding.{AreBounds, BoundsAll, greatest_bound}
use Rattle.depgraph.specs.Rotations.{AreRotations, Turn}
use Rattle.least_steps.specs.FaultWords.{step_fault_words}
use Rattle.least_steps.specs.declared.step_fault.StepFault.{StepFault}
use Rattle.planned.specs.declared.planned_fault.PlannedFault.{PlannedFault}
use Rattle.planned.specs.declared.planned_fault.PlannedFault.TheVariants as planned_fault
use Rattle.scenario.specs.Query.{Query}
use Rattle.scenario.specs.ScenFault.{ReadsScen}
use Rattle.ending.specs.declared.status.Status.TheVariants.{Done}
use Rattle.ending.specs.Ending.{End, answered_with, gave_up, rejected}
use Rattle.ending.specs.Rewriting.{EndsByLine, EndsWriting}
use Rattle.check_commands.specs.FaultWords.{check_fault_words, turn_words}
use Rattle.check_commands.specs.FaultsText.{Told, of_fit, of_plan, of_turn, faults_text}
use Rattle.check_commands.specs.VerdictText.{accepted_line, bounded_line, rejected_line, turn_text}
use Rattle.check_commands.specs.declared.check_fault.CheckFault.{CheckFault}
use Rattle.check_commands.specs.declared.check_fault.CheckFault.TheVariants as check_fault
use Rattle.check_commands.specs.declared.check_terms.CheckTerms.{CheckTerms}

-- ---- what was read, and what it came to

-- What a check comes to before it is answered: a text could not be read; or the plan, on its map,
-- is refused for this fault, or its check for want of memory; or it is valid, and differs in this
-- from what is asked for; or it doesn't.
pub data Came : Type 0 where
  unread : CheckFault → Came
  refused : Grid → Plan → PlanFault → Came
  differing : FitFault → Came
  valid : Grid → Checked → Came

-- there are as many agents as are due, where that is said
abbrev pub HasCount : Option ℕ → Checked → Type 0
HasCount None c = Unit {0}
HasCount (Some due) c = length c.timetable.tracks ≡ due

-- a map and a plan were read, which is valid on it, and this is its check
abbrev pub ReadsValid
    : {M P : Type 0} → (M → Option (List ℕ)) → (P → Option (List ℕ)) → Counted M → Counted M
    → Counted P → Counted P → Grid → Checked → Type 0
ReadsValid map_left plan_left old_map new_map old_plan new_plan m c =
    (p : Plan) × ReadsMapAndPlan map_left plan_left old_map new_map old_plan new_plan m p
    × IsCheckOf m p c

-- a text could not be read, and what comes after it wasn't touched
abbrev pub ReadsNot
    : {M P : Type 0} → (M → Option (List ℕ)) → (P → Option (List ℕ)) → Counted M → Counted M
    → Counted P → Counted P → PlannedFault → Type 0
ReadsNot map_left plan_left old_map new_map old_plan new_plan (planned_fault.Map fault) =
    ReadsMap map_left old_map new_map (Err fault) × (new_plan ≡ old_plan)
ReadsNot map_left plan_left old_map new_map old_plan new_plan (planned_fault.PlanText fault) =
    (m : Grid) × ReadsMap map_left old_map new_map (Ok m)
    × ReadsPlan plan_left old_plan new_plan (Err fault)
ReadsNot map_left plan_left old_map new_map old_plan new_plan fault = ⊥

-- The map and the plan were read and the plan was checked, and where it is valid its agents were
-- counted.
abbrev pub CheckComesTo
    : {M P : Type 0} → (M → Option (List ℕ)) → (P → Option (List ℕ)) → Counted M → Counted M
    → Counted P → Counted P → Option ℕ → Came → Type 0
CheckComesTo map_left plan_left old_map new_map old_plan new_plan due
    (unread (check_fault.Planned fault)) =
    ReadsNot map_left plan_left old_map new_map old_plan new_plan fault
CheckComesTo map_left plan_left old_map new_map old_plan new_plan due (unread fault) = ⊥
CheckComesTo map_left plan_left old_map new_map old_plan new_plan due (refused m p fault) =
    ReadsMapAndPlan map_left plan_left old_map new_map old_plan new_plan m p
    × IsRefusedFor m p fault
CheckComesTo map_left plan_left old_map new_map old_plan new_plan due (differing fault) =
    (m : Grid) × (c : Checked) × ReadsValid map_left plan_left old_map new_map old_plan new_plan m c
    × (fault ≡ AgentCount) × (HasCount due c → ⊥)
CheckComesTo map_left plan_left old_map new_map old_plan new_plan due (valid m c) =
    ReadsValid map_left plan_left old_map new_map old_plan new_plan m c × HasCount due c

-- A scenario was read, and this is the answer to whether the plan solves the first of its rows: as
-- many as agents are due, or else as it has.
abbrev pub ReadsAndFits : {S : Type 0} → (S → Option (List ℕ)) → Counted S → Counted S → Checked
    → Option ℕ → Result Unit FitFault → Type 0
ReadsAndFits scen_left old_scen new_scen c due answer =
    (rows : List Query) × ReadsScen scen_left old_scen new_scen (Ok rows)
    × AnswersFit c rows (unwrap_or due (length c.timetable.tracks)) answer

-- The map and the plan were read and the plan was checked, and only where it is valid the scenario
-- was read, and the plan held against its first rows.
abbrev pub ComesToFit
    : {M P S : Type 0} → (M → Option (List ℕ)) → (P → Option (List ℕ)) → (S → Option (List ℕ))
    → Counted M → Counted M → Counted P → Counted P
    → Counted S → Counted S → Option ℕ → Came → Type 0
ComesToFit map_left plan_left scen_left old_map new_map old_plan new_plan old_scen new_scen due
    (unread (check_fault.Scen fault)) =
    (m : Grid) × (c : Checked) × ReadsValid map_left plan_left old_map new_map old_plan new_plan m c
    × ReadsScen scen_left old_scen new_scen (Err fault)
ComesToFit map_left plan_left scen_left old_map new_map old_plan new_plan old_scen new_scen due
    (unread (check_fault.Planned fault)) =
    ReadsNot map_left plan_left old_map new_map old_plan new_plan fault × (new_scen ≡ old_scen)
ComesToFit map_left plan_left scen_left old_map new_map old_plan new_plan old_scen new_scen due
    (unread fault) = ⊥
ComesToFit map_left plan_left scen_left old_map new_map old_plan new_plan old_scen new_scen due
    (refused m p fault) =
    ReadsMapAndPlan map_left plan_left old_map new_map old_plan new_plan m p
    × IsRefusedFor m p fault × (new_scen ≡ old_scen)
ComesToFit map_left plan_left scen_left old_map new_map old_plan new_plan old_scen new_scen due
    (differing fault) =
    (m : Grid) × (c : Checked) × ReadsValid map_left plan_left old_map new_map old_plan new_plan m c
    × ReadsAndFits scen_left old_scen new_scen c due (Err fault)
ComesToFit map_left plan_left scen_left old_map new_map old_plan new_plan old_scen new_scen due
    (valid m c) =
    ReadsValid map_left plan_left old_map new_map old_plan new_plan m c
    × ReadsAndFits scen_left old_scen new_scen c due (Ok tt)

-- ---- what is written

-- what was written, or memory was refused for it, and nothing was
abbrev pub EndsUnlessRefused : {W : Type 0} → Counted W → Counted W → End → Type 0 → Type 0
EndsUnlessRefused old new end Ends =
    Ends ⊎ ((end ≡ gave_up (failed failure.OutOfMemory)) × (new ≡ old))

-- the first faults of a plan were written, so many at the most; the one that is explained is this
abbrev pub EndsByFaults
    : {W : Type 0} → (W → Option (List ℕ)) → Bool → Grid → Plan → (most : ℕ) → Words → Counted W
    → Counted W → End → Type 0
EndsByFaults contents json m p most words old new end =
    EndsUnlessRefused old new end
    ((listed : List PlanFault) × (more : Bool) × (agents : ℕ)
    × AreFirstFaults m p most listed more agents
    × EndsWriting contents old new (rejected words) end
    (faults_text json (map of_plan listed) agents more))

-- the line of a plan that is rejected: the text of what it has against it; or, where all is asked
-- for, that as the one fault that there is, in which so many agents are named
abbrev pub only_text : Option ℕ → Bool → (text : List ℕ) → Told → (agents : ℕ) → List ℕ
only_text None json text told agents = rejected_line json text
only_text (Some most) json text told agents = faults_text json (told ∷ []) agents false

abbrev pub EndsRejected
    : {W : Type 0} → (W → Option (List ℕ)) → CheckTerms → Words → (text : List ℕ) → Told
    → (agents : ℕ) → Counted W → Counted W → End → Type 0
EndsRejected contents terms words text told agents old new end =
    EndsByLine contents old new (rejected words) end
    (only_text terms.all terms.json text told agents)

-- how many agents a difference names
abbrev pub named_by : FitFault → ℕ
named_by TooFewRows = 0
named_by AgentCount = 0
named_by (StartDiffers agent) = 1
named_by (GoalDiffers agent) = 1
named_by (SizeDiffers row) = 1

-- A plan was accepted: its number of agents, its sum of costs and its makespan were written, with
-- what such plans cost at least, where that is asked for; or what bounds them was not found.
abbrev pub EndsAccepted : {W : Type 0} → (W → Option (List ℕ)) → (bound json : Bool) → Grid
    → Checked → Counted W → Counted W → End → Type 0
EndsAccepted contents false json m c old new end =
    EndsByLine contents old new (answered_with Done) end
    (accepted_line json (length c.timetable.tracks) (sum_of_costs c.timetable)
    (makespan c.timetable))
EndsAccepted contents true json m c old new end =
    ((bounds : List ℕ) × AreBounds m c.timetable.tracks bounds
    × BoundsAll m c.timetable.tracks bounds
    × EndsWriting contents old new (answered_with Done) end
    (bounded_line json (length c.timetable.tracks) (sum_of_costs c.timetable) (makespan c.timetable)
    (sum bounds) (greatest_bound bounds)))
    ⊎ ((fault : StepFault) × (end ≡ gave_up (step_fault_words fault)) × (new ≡ old))

-- the first rotation of a valid plan was told, and else the plan was accepted
abbrev pub EndsByTurns
    : {W : Type 0} → (W → Option (List ℕ)) → CheckTerms → Grid → Checked → List Turn → Counted W
    → Counted W → End → Type 0
EndsByTurns contents terms m c [] old new end =
    EndsAccepted contents terms.bound terms.json m c old new end
EndsByTurns contents terms m c (turn ∷ turns) old new end =
    EndsRejected contents terms (turn_words turn) (turn_text turn) (of_turn turn)
    (length turn.agents) old new end

-- What the output got and how the command ended of a valid plan that has what is asked for, but for
-- a rotation, perhaps.
abbrev pub EndsValid : {W : Type 0} → (W → Option (List ℕ)) → (no_rotation : Bool) → CheckTerms
    → Grid → Checked → Counted W → Counted W → End → Type 0
EndsValid contents false terms m c old new end =
    EndsAccepted contents terms.bound terms.json m c old new end
EndsValid contents true terms m c old new end =
    EndsUnlessRefused old new end ((turns : List Turn) × AreRotations c.timetable turns
    × EndsByTurns contents terms m c turns old new end)

-- The same of a plan that is refused for its least fault; its first faults were written, where all
-- are asked for.
abbrev pub EndsByRefusal
    : {W : Type 0} → (W → Option (List ℕ)) → (all : Option ℕ) → Bool → Grid → Plan → PlanFault
    → Counted W → Counted W → End → Type 0
EndsByRefusal contents all json m p OutOfMemory old new end =
    (end ≡ gave_up (plan_fault_words OutOfMemory)) × (new ≡ old)
EndsByRefusal contents None json m p fault old new end =
    EndsByLine contents old new (rejected (plan_fault_words fault)) end
    (rejected_line json (words_text (plan_fault_words fault)))
EndsByRefusal contents (Some most) json m p fault old new end =
    EndsByFaults contents json m p most (plan_fault_words fault) old new end

-- The same, whatever it came to: nothing was written where a text could not be read.
abbrev pub EndsByCheck : {W : Type 0} → (W → Option (List ℕ)) → CheckTerms → Counted W → Counted W
    → End → Came → Type 0
EndsByCheck contents terms old new end (unread fault) =
    (end ≡ gave_up (check_fault_words fault)) × (new ≡ old)
EndsByCheck contents terms old new end (refused m p fault) =
    EndsByRefusal contents terms.all terms.json m p fault old new end
EndsByCheck contents terms old new end (differing fault) =
    EndsRejected contents terms (fit_fault_words fault) (words_text (fit_fault_words fault))
    (of_fit fault) (named_by fault) old new end
EndsByCheck contents terms old new end (valid m c) =
    EndsValid contents terms.no_rotation terms m c old new end

-- the texts were read and the plan was checked, and the command ended by that
pub record AnswersCheck
    {M P W : Type 0} (map_left : M → Option (List ℕ)) (plan_left : P → Option (List ℕ))
    (contents : W → Option (List ℕ)) (terms : CheckTerms)
    (old_map new_map : Counted M) (old_plan new_plan : Counted P) (old_out new_out : Counted W)
    (end : End) : Type 0 where
  pub came : Came
  pub comes : CheckComesTo map_left plan_left old_map new_map old_plan new_plan terms.due came
  pub ends : EndsByCheck contents terms old_out new_out end came

-- the same with a scenario
pub record AnswersCheckFit
    {M P S W : Type 0} (map_left : M → Option (List ℕ)) (plan_left : P → Option (List ℕ))
    (scen_left : S → Option (List ℕ))
    (contents : W → Option (List ℕ)) (terms : CheckTerms) (old_map new_map : Counted M)
    (old_plan new_plan : Counted P) (old_scen new_scen : Counted S)
    (old_out new_out : Counted W) (end : End) : Type 0 where
  pub came : Came
  pub comes : ComesToFit map_left plan_left scen_left old_map new_map old_plan new_plan old_scen
      new_scen terms.due came
  pub ends : EndsByCheck contents terms old_out new_out end came
