-- What the commands over a map and a plan alone do and answer.
use Rattle.std.specs.Prelude.{◌≡◌, ℕ, List, Option, Result, Ok, Err, ◌≤◌, length, Some, MatchResult}
use Rattle.text_io.specs.declared.counted.Counted.{Counted}
use Rattle.grid.specs.declared.cell.Cell.{Cell}
use Rattle.grid.specs.Map.{Grid}
use Rattle.grid.specs.MapFault.{ReadsMap}
use Rattle.model.specs.Timetable.{Timetable}
use Rattle.model.specs.declared.visit.Visit.{Visit}
use Rattle.model.specs.Plan.{Course, Plan, IsValid}
use Rattle.plan_text.specs.PlanTextFault.{ReadsPlan, ReadsMapAndPlan}
use Rattle.plan_text.specs.PlanText.{canonical_plan_text}
use Rattle.depgraph.specs.Rotations.{Turn, AreRotations}
use Rattle.continuing.specs.Continuing.{cut_at}
use Rattle.checker.specs.Checking.{IsRefusedFor}
use Rattle.planned.specs.FaultWords.{planned_fault_words}
use Rattle.planned.specs.Planned.{ReadsTimetable}
use Rattle.planned.specs.declared.planned_fault.PlannedFault.{PlannedFault}
use Rattle.planned.specs.declared.planned_fault.PlannedFault.TheVariants as planned_fault
use Rattle.ending.specs.declared.status.Status.TheVariants.{Done}
use Rattle.ending.specs.Ending.{End, answered_with, gave_up}
use Rattle.ending.specs.Rewriting.{EndsWriting}
use Rattle.plan_commands.specs.DepsText.{deps_text}
use Rattle.plan_commands.specs.CellVisitsText.{AreCellVisits, visits_text}
use Rattle.plan_commands.specs.FaultWords.{path_fault_words}
use Rattle.plan_commands.specs.PathText.{AreAsked, AreCellRows, path_text}
use Rattle.plan_commands.specs.Walkable.{IsWalkable, IsLeastOfOneAgent}
use Rattle.plan_commands.specs.declared.path_fault.PathFault.{PathFault}
use Rattle.plan_commands.specs.declared.path_fault.PathFault.TheVariants.{Planned, NoSuchAgent}
use Rattle.plan_commands.specs.declared.path_fault.PathFault.TheVariants.{OutOfMemory}

-- ---- `mapf deps`

-- What the output got and how the command ended: the text of the timetable's dependencies, with all
-- its rotations, or a beginning of it where the output failed; nothing where there is no timetable.
abbrev pub EndsByDeps : {W : Type 0} → (W → Option (List ℕ)) → Counted W → Counted W → End
    → Result Timetable PlannedFault → Type 0
EndsByDeps contents old new end (Ok tt) =
    (turns : List Turn) × AreRotations tt turns
    × EndsWriting contents old new (answered_with Done) end (deps_text tt turns)
EndsByDeps contents old new end (Err fault) =
    (end ≡ gave_up (planned_fault_words fault)) × (new ≡ old)

-- the texts were read and the plan was checked, and the command ended by that
pub record AnswersDeps
    {M P W : Type 0} (map_left : M → Option (List ℕ)) (plan_left : P → Option (List ℕ))
    (contents : W → Option (List ℕ))
    (old_map new_map : Counted M) (old_plan new_plan : Counted P) (old_out new_out : Counted W)
    (end : End) : Type 0 where
  pub answer : Result Timetable PlannedFault
  pub reads : ReadsTimetable map_left plan_left old_map new_map old_plan new_plan answer
  pub ends : EndsByDeps contents old_out new_out end answer

-- ---- `mapf deps --cell`

-- What the output got and how the command ended: the text of the cell's visits in the timetable, or
-- a beginning of it where the output failed; nothing where there is no timetable.
abbrev pub EndsByVisits : {W : Type 0} → (W → Option (List ℕ)) → Cell → Counted W → Counted W → End
    → Result Timetable PlannedFault → Type 0
EndsByVisits contents cell old new end (Ok tt) =
    (visits : List Visit) × AreCellVisits tt cell visits
    × EndsWriting contents old new (answered_with Done) end (visits_text visits)
EndsByVisits contents cell old new end (Err fault) =
    (end ≡ gave_up (planned_fault_words fault)) × (new ≡ old)

-- the texts were read and the plan was checked, and the command ended by that
pub record AnswersDepsCell
    {M P W : Type 0} (map_left : M → Option (List ℕ)) (plan_left : P → Option (List ℕ))
    (contents : W → Option (List ℕ)) (cell : Cell)
    (old_map new_map : Counted M) (old_plan new_plan : Counted P) (old_out new_out : Counted W)
    (end : End) : Type 0 where
  pub answer : Result Timetable PlannedFault
  pub reads : ReadsTimetable map_left plan_left old_map new_map old_plan new_plan answer
  pub ends : EndsByVisits contents cell old_out new_out end answer

-- ---- `mapf path`

-- The map was read, and then the plan, which can be walked on the map, or has a fault of one agent,
-- of which this is the least. A text that could not be read is answered, and what comes after it
-- isn't touched.
abbrev pub ReadsWalkable
    : {M P : Type 0} → (M → Option (List ℕ)) → (P → Option (List ℕ)) → Counted M → Counted M
    → Counted P → Counted P
    → Result Plan PlannedFault → Type 0
ReadsWalkable map_left plan_left old_map new_map old_plan new_plan (Ok p) =
    (m : Grid) × ReadsMapAndPlan map_left plan_left old_map new_map old_plan new_plan m p
    × IsWalkable m p
ReadsWalkable map_left plan_left old_map new_map old_plan new_plan (Err (planned_fault.Map fault)) =
    ReadsMap map_left old_map new_map (Err fault) × (new_plan ≡ old_plan)
ReadsWalkable map_left plan_left old_map new_map old_plan new_plan
    (Err (planned_fault.PlanText fault)) =
    (m : Grid) × ReadsMap map_left old_map new_map (Ok m)
    × ReadsPlan plan_left old_plan new_plan (Err fault)
ReadsWalkable map_left plan_left old_map new_map old_plan new_plan
    (Err (planned_fault.Plan fault)) =
    (m : Grid) × (p : Plan) × ReadsMapAndPlan map_left plan_left old_map new_map old_plan new_plan m
    p × IsLeastOfOneAgent m p fault
ReadsWalkable map_left plan_left old_map new_map old_plan new_plan (Err planned_fault.OutOfMemory) =
    ⊥

-- What is asked for of a plan that can be walked: the rows of all agents, or those of one; or there
-- is no such agent; or memory was refused.
abbrev pub ShowsRows : Plan → Option ℕ → Result (List (List Cell)) PathFault → Type 0
ShowsRows p agent (Ok rows) =
    (courses : List Course) × AreAsked p agent courses × AreCellRows courses rows
ShowsRows p agent (Err NoSuchAgent) = (i : ℕ) × (agent ≡ Some i) × (length p.courses ≤ i)
ShowsRows p agent (Err OutOfMemory) = (courses : List Course) × AreAsked p agent courses
ShowsRows p agent (Err (Planned fault)) = ⊥

-- What the output got and how the command ended: the text of the rows, or a beginning of it where
-- the output failed; nothing where there are no rows.
abbrev pub EndsByPath : {W : Type 0} → (W → Option (List ℕ)) → Counted W → Counted W → End
    → Result (List (List Cell)) PathFault → Type 0
EndsByPath contents old new end (Ok rows) =
    EndsWriting contents old new (answered_with Done) end (path_text rows)
EndsByPath contents old new end (Err fault) = (end ≡ gave_up (path_fault_words fault)) × (new ≡ old)

-- the texts were read and the plan was walked, and the command ended by that
pub record AnswersPath
    {M P W : Type 0} (map_left : M → Option (List ℕ)) (plan_left : P → Option (List ℕ))
    (contents : W → Option (List ℕ))
    (agent : Option ℕ) (old_map new_map : Counted M) (old_plan new_plan : Counted P)
    (old_out new_out : Counted W) (end : End) : Type 0 where
  pub read : Result Plan PlannedFault
  pub reads : ReadsWalkable map_left plan_left old_map new_map old_plan new_plan read
  pub answer : Result (List (List Cell)) PathFault
  pub shows : MatchResult read (λ p. ShowsRows p agent answer)
      (λ fault. answer ≡ Err (Planned fault))
  pub ends : EndsByPath contents old_out new_out end answer

-- ---- `mapf cut`

-- The map was read, and then the plan, which is valid, and this is what is left of it where it is
-- cut at the time; or it is refused for its least fault, or for want of memory. A text that could
-- not be read is answered, and what comes after it isn't touched.
abbrev pub ReadsCut
    : {M P : Type 0} → (M → Option (List ℕ)) → (P → Option (List ℕ)) → ℕ → Counted M → Counted M
    → Counted P → Counted P
    → Result Plan PlannedFault → Type 0
ReadsCut map_left plan_left time old_map new_map old_plan new_plan (Ok kept) =
    (m : Grid) × (p : Plan) × ReadsMapAndPlan map_left plan_left old_map new_map old_plan new_plan m
    p × IsValid m p × (kept ≡ cut_at time p)
ReadsCut map_left plan_left time old_map new_map old_plan new_plan (Err (planned_fault.Map fault)) =
    ReadsMap map_left old_map new_map (Err fault) × (new_plan ≡ old_plan)
ReadsCut map_left plan_left time old_map new_map old_plan new_plan
    (Err (planned_fault.PlanText fault)) =
    (m : Grid) × ReadsMap map_left old_map new_map (Ok m)
    × ReadsPlan plan_left old_plan new_plan (Err fault)
ReadsCut map_left plan_left time old_map new_map old_plan new_plan
    (Err (planned_fault.Plan fault)) =
    (m : Grid) × (p : Plan) × ReadsMapAndPlan map_left plan_left old_map new_map old_plan new_plan m
    p × IsRefusedFor m p fault
ReadsCut map_left plan_left time old_map new_map old_plan new_plan (Err planned_fault.OutOfMemory) =
    (m : Grid) × (p : Plan)
    × ReadsMapAndPlan map_left plan_left old_map new_map old_plan new_plan m p

-- What the output got and how the command ended: the canonical text of what is left, or a beginning
-- of it where the output failed; nothing where there is no such plan.
abbrev pub EndsByCut : {W : Type 0} → (W → Option (List ℕ)) → Counted W → Counted W → End
    → Result Plan PlannedFault → Type 0
EndsByCut contents old new end (Ok kept) =
    EndsWriting contents old new (answered_with Done) end (canonical_plan_text kept)
EndsByCut contents old new end (Err fault) =
    (end ≡ gave_up (planned_fault_words fault)) × (new ≡ old)

-- the texts were read, the plan was checked and cut, and the command ended by that
pub record AnswersCut
    {M P W : Type 0} (map_left : M → Option (List ℕ)) (plan_left : P → Option (List ℕ))
    (contents : W → Option (List ℕ)) (time : ℕ)
    (old_map new_map : Counted M) (old_plan new_plan : Counted P) (old_out new_out : Counted W)
    (end : End) : Type 0 where
  pub answer : Result Plan PlannedFault
  pub reads : ReadsCut map_left plan_left time old_map new_map old_plan new_plan answer
  pub ends : EndsByCut contents old_out new_out end answer
