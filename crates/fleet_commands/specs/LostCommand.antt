-- What `mapf lost` does and answers.
use Rattle.std.specs.Prelude.{◌≡◌, ◌≢◌, ℕ, ⊤, List, [], Option, None, Some, Result, Ok, Err}
use Rattle.text_io.specs.declared.counted.Counted.{Counted}
use Rattle.model.specs.Timetable.{Track, Timetable, track_of}
use Rattle.depgraph.specs.Rotations.{Turn, AreRotations}
use Rattle.planned.specs.FaultWords.{planned_fault_words}
use Rattle.planned.specs.Planned.{ReadsTimetable}
use Rattle.planned.specs.declared.planned_fault.PlannedFault.{PlannedFault}
use Rattle.ending.specs.declared.status.Status.TheVariants.{Done}
use Rattle.ending.specs.Ending.{End, answered_with, gave_up}
use Rattle.ending.specs.Rewriting.{EndsWriting}
use Rattle.agent_commands.specs.FileDeeds.{FileDeed}
use Rattle.fleet_commands.specs.FaultWords.{handover_fault_words}
use Rattle.fleet_commands.specs.FoundTapes.{Found, AreFoundIn, finished_by}
use Rattle.fleet_commands.specs.LostPlaces.{IsFurthest, places_text}
use Rattle.fleet_commands.specs.StatusText.{run_lines}
use Rattle.fleet_commands.specs.declared.handover_fault.HandoverFault.{HandoverFault}
use Rattle.fleet_commands.specs.declared.handover_fault.HandoverFault.TheVariants.{NoSuchAgent}
use Rattle.fleet_commands.specs.declared.handover_fault.HandoverFault.TheVariants.{NotOneRun}
use Rattle.fleet_commands.specs.declared.handover_fault.HandoverFault.TheVariants.{OutOfMemory}
use Rattle.fleet_commands.specs.declared.lost_command.LostPlaces.{LostPlaces}

-- The tapes were read, where each may have a fault. Nothing shows that they are not those of one
-- run, and these are the first and the last place; or something shows it, or memory was refused.
abbrev pub AreLostPlaces : (FileDeed → Type 0) → Timetable → ℕ → Track
    → Result LostPlaces HandoverFault → Type 0
AreLostPlaces WasDone tt i track (Ok places) =
    (found : List Found) × (turns : List Turn) × AreFoundIn WasDone tt found
    × AreRotations tt turns × (run_lines tt None turns found ≡ [])
    × (places.first ≡ finished_by found i) × IsFurthest tt found i track places.last
AreLostPlaces WasDone tt i track (Err NotOneRun) =
    (found : List Found) × (turns : List Turn) × AreFoundIn WasDone tt found
    × AreRotations tt turns × (run_lines tt None turns found ≢ [])
AreLostPlaces WasDone tt i track (Err OutOfMemory) = ⊤
AreLostPlaces WasDone tt i track (Err _) = ⊥

-- the lines of the places were written, or the command ended by the fault
abbrev pub EndsByPlaces : {W : Type 0} → (W → Option (List ℕ)) → Track → Counted W → Counted W
    → End → Result LostPlaces HandoverFault → Type 0
EndsByPlaces contents track old new end (Ok places) =
    EndsWriting contents old new (answered_with Done) end
    (places_text track places.first places.last)
EndsByPlaces contents track old new end (Err fault) =
    (end ≡ gave_up (handover_fault_words fault)) × (new ≡ old)

-- the places of an agent with a track were looked for; or there is no such agent
abbrev pub EndsByTrack : {W : Type 0} → (FileDeed → Type 0) → (W → Option (List ℕ)) → Timetable
    → ℕ → Counted W → Counted W → End → Option Track → Type 0
EndsByTrack WasDone contents tt i old new end None =
    (end ≡ gave_up (handover_fault_words NoSuchAgent)) × (new ≡ old)
EndsByTrack WasDone contents tt i old new end (Some track) =
    (answer : Result LostPlaces HandoverFault) × AreLostPlaces WasDone tt i track answer
    × EndsByPlaces contents track old new end answer

abbrev pub EndsByLost : {W : Type 0} → (FileDeed → Type 0) → (W → Option (List ℕ)) → ℕ
    → Counted W → Counted W → End → Result Timetable PlannedFault → Type 0
EndsByLost WasDone contents i old new end (Ok tt) =
    EndsByTrack WasDone contents tt i old new end (track_of tt i)
EndsByLost WasDone contents i old new end (Err fault) =
    (end ≡ gave_up (planned_fault_words fault)) × (new ≡ old)

-- the texts were read and the plan was checked, and the command ended by that
pub record AnswersLost
    {M P W : Type 0} (map_left : M → Option (List ℕ)) (plan_left : P → Option (List ℕ))
    (WasDone : FileDeed → Type 0) (contents : W → Option (List ℕ)) (i : ℕ)
    (old_map new_map : Counted M) (old_plan new_plan : Counted P) (old_out new_out : Counted W)
    (end : End) : Type 0 where
  pub answer : Result Timetable PlannedFault
  pub reads : ReadsTimetable map_left plan_left old_map new_map old_plan new_plan answer
  pub ends : EndsByLost WasDone contents i old_out new_out end answer
