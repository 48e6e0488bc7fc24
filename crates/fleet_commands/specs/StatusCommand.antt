-- What `mapf status` does and answers.
use Rattle.std.specs.Prelude.{◌≡◌, ◌⊎◌, ℕ, Bool, true, false, List, ◌++◌}
use Rattle.std.specs.Prelude.{length, Option, None, Result, Ok, Err, if◌then◌else◌}
use Rattle.std.specs.List.{flat_map, list_any}
use Rattle.text_io.specs.declared.counted.Counted.{Counted}
use Rattle.text_io.specs.declared.failure.Failure.TheVariants as failure
use Rattle.text_io.specs.FaultWords.{failed}
use Rattle.model.specs.Timetable.{Timetable}
use Rattle.depgraph.specs.Rotations.{Turn, AreRotations}
use Rattle.planned.specs.FaultWords.{planned_fault_words}
use Rattle.planned.specs.Planned.{ReadsTimetable}
use Rattle.planned.specs.declared.planned_fault.PlannedFault.{PlannedFault}
use Rattle.ending.specs.declared.status.Status.{Status}
use Rattle.ending.specs.declared.status.Status.TheVariants as status
use Rattle.ending.specs.Ending.{End, answered_with, gave_up}
use Rattle.ending.specs.Rewriting.{EndsWriting}
use Rattle.agent_commands.specs.FileDeeds.{FileDeed}
use Rattle.fleet_commands.specs.FoundTapes.{Found, AreFoundIn}
use Rattle.fleet_commands.specs.PlansBeside.{AreCompared}
use Rattle.fleet_commands.specs.StatusText.{run_lines, status_line, status_lines}
use Rattle.fleet_commands.specs.declared.plans_beside.Foremost.{Foremost}
use Rattle.fleet_commands.specs.declared.status_line.StatusLine.{StatusLine}
use Rattle.fleet_commands.specs.declared.status_line.StatusLine.TheVariants.{Agent, Root, Circle}

-- what has to be mended before anybody drives on
abbrev pub is_fault : StatusLine → Bool
is_fault (Agent line) = false
is_fault (Root i keeps) = false
is_fault (Circle number keeps) = false
is_fault _ = true

-- the answer is no where a line tells a fault
abbrev pub status_by : List StatusLine → Status
status_by lines = if list_any is_fault lines then status.Fault else status.Done

-- The lines say what the tapes have, what shows that these are not of one run, and what the plans
-- beside them come to.
abbrev pub AreAllLines : (FileDeed → Type 0) → Timetable → List StatusLine → Type 0
AreAllLines WasDone tt lines =
    (found : List Found) × (turns : List Turn) × AreFoundIn WasDone tt found
    × AreRotations tt turns
    × ((foremost : Option Foremost) × (more : List StatusLine)
    × AreCompared WasDone (length tt.tracks) foremost more
    × (lines ≡ (status_lines tt turns found ++ run_lines tt None turns found) ++ more))

-- What was found of a valid plan's tapes is written, or memory was refused for it.
abbrev pub EndsByTapes : {W : Type 0} → (FileDeed → Type 0) → (W → Option (List ℕ))
    → (json : Bool) → Timetable → Counted W → Counted W → End → Type 0
EndsByTapes WasDone contents json tt old new end =
    ((lines : List StatusLine) × AreAllLines WasDone tt lines
    × EndsWriting contents old new (answered_with (status_by lines)) end
    (flat_map (status_line json) lines))
    ⊎ ((end ≡ gave_up (failed failure.OutOfMemory)) × (new ≡ old))

abbrev pub EndsByStatus : {W : Type 0} → (FileDeed → Type 0) → (W → Option (List ℕ))
    → (json : Bool) → Counted W → Counted W → End → Result Timetable PlannedFault → Type 0
EndsByStatus WasDone contents json old new end (Ok tt) =
    EndsByTapes WasDone contents json tt old new end
EndsByStatus WasDone contents json old new end (Err fault) =
    (end ≡ gave_up (planned_fault_words fault)) × (new ≡ old)

-- the texts were read and the plan was checked, and the command ended by that
pub record AnswersStatus
    {M P W : Type 0} (map_left : M → Option (List ℕ)) (plan_left : P → Option (List ℕ))
    (WasDone : FileDeed → Type 0) (contents : W → Option (List ℕ)) (json : Bool)
    (old_map new_map : Counted M) (old_plan new_plan : Counted P) (old_out new_out : Counted W)
    (end : End) : Type 0 where
  pub answer : Result Timetable PlannedFault
  pub reads : ReadsTimetable map_left plan_left old_map new_map old_plan new_plan answer
  pub ends : EndsByStatus WasDone contents json old_out new_out end answer
