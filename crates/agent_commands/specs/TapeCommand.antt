-- What `mapf tape` does and answers.
use Rattle.std.specs.Prelude.{◌≡◌, ℕ, ◌+◌, ◌-◌, ◌*◌, ◌≤◌, List}
use Rattle.std.specs.Prelude.{[], ◌∷◌, ◌++◌, length, take, codes, decimal}
use Rattle.std.specs.Prelude.{Option, None, Some, Result, Ok, Err, MatchResult}
use Rattle.std.specs.Io.KnownBytes.{Consumes, IsAtEnd}
use Rattle.text_io.specs.declared.counted.Counted.{Counted}
use Rattle.text_io.specs.Counted.{counted_inner, failures_of, Rises}
use Rattle.text_io.specs.Text.{ended}
use Rattle.model.specs.History.{record_length}
use Rattle.model.specs.Timetable.{Track, Timetable, track_of}
use Rattle.agent.specs.declared.mem_tape.MemTape.{MemTape}
use Rattle.agent.specs.declared.refusal.OpenFault.TheVariants.{NoSuchAgent}
use Rattle.agent.specs.Agents.{AgentOn, state_of}
use Rattle.agent.specs.MemTape.{mem_state, mem_reads}
use Rattle.agent.specs.Opening.{IsOpened, IsRefused}
use Rattle.agent.specs.States.{State}
use Rattle.agent.specs.Tape.{TapeState}
use Rattle.robot.specs.Turns.{state_line}
use Rattle.robot.specs.declared.file_tape.FileTapeFault.TheVariants.{TooLong, TapeFailed}
use Rattle.robot.specs.declared.file_tape.FileTapeFault.TheVariants.{OutOfMemory}
use Rattle.planned.specs.Planned.{ReadsTimetable}
use Rattle.planned.specs.declared.planned_fault.PlannedFault.{PlannedFault}
use Rattle.ending.specs.declared.status.Status.TheVariants.{Done}
use Rattle.ending.specs.Ending.{End, answered_with, gave_up}
use Rattle.ending.specs.Rewriting.{EndsWriting}
use Rattle.agent_commands.specs.AgentCommand.{HasAgent, room_of}
use Rattle.agent_commands.specs.FaultWords.{agent_fault_words}
use Rattle.agent_commands.specs.declared.agent_fault.AgentFault.{AgentFault}
use Rattle.agent_commands.specs.declared.agent_fault.AgentFault.TheVariants.{Planned, NoTape}
use Rattle.agent_commands.specs.declared.agent_fault.AgentFault.TheVariants.{File, Tape}

-- the tape that an agent finds in a file of these bytes: what stands past its room, fewer than ten
-- bytes, is left out
abbrev pub tape_of_bytes : ℕ → List ℕ → TapeState
tape_of_bytes room bytes = record { contents = take room bytes; room = room; failures = 0 }

-- how many whole records there are, and how many bytes behind them, which count as nothing
abbrev pub records_line : (records torn : ℕ) → List ℕ
records_line records torn =
    (codes "records " ++ decimal records) ++ (codes " torn " ++ decimal torn)

-- what is written of a tape of these bytes, on which an agent comes to this state
abbrev pub tape_text : Track → State → List ℕ → List ℕ
tape_text track s bytes =
    ended (state_line track s ∷ records_line s.records
    (length bytes - record_length * s.records) ∷ [])

-- the bytes are all that the reader had, and no call of it failed
pub record IsReadWhole {T : Type 0} (remaining : T → Option (List ℕ)) (old new : Counted T)
    (bytes : List ℕ) : Type 0 where
  pub consumed : Consumes (remaining (counted_inner old)) (remaining (counted_inner new)) bytes
  pub is_end : IsAtEnd (remaining (counted_inner new))
  pub failures : failures_of new ≡ failures_of old

-- An agent is opened on the whole bytes of a file, as it would be to go on, in this state.
pub record IsOpenedOn (Whole : List ℕ → Type 0) (tt : Timetable) (i : ℕ) (bytes : List ℕ)
    (track : Track) (s : State) : Type 0 where
  pub is_track : track_of tt i ≡ Some track
  pub whole : Whole bytes
  pub image : MemTape
  pub is_image : mem_state image ≡ tape_of_bytes (room_of track) bytes
  pub agent : AgentOn MemTape
  pub opened : IsOpened mem_state mem_reads tt i image agent
  pub is_state : s ≡ state_of mem_state agent

-- the file was read whole, and the text says where the agent is
abbrev pub IsShown
    : {T : Type 0} → (T → Option (List ℕ)) → Timetable → ℕ → Counted T → Counted T → List ℕ → Type 0
IsShown remaining tt i old new text =
    (bytes : List ℕ) × (track : Track) × (s : State)
    × IsOpenedOn (IsReadWhole remaining old new) tt i bytes track s
    × (text ≡ tape_text track s bytes)

-- the file has so many records
abbrev pub HasRecords : (List ℕ → Type 0) → Timetable → ℕ → ℕ → Type 0
HasRecords Whole tt i records =
    (bytes : List ℕ) × (track : Track) × (s : State) × IsOpenedOn Whole tt i bytes track s
    × (records ≡ s.records)

-- no agent is opened on the whole bytes of a file
pub record IsRefusedImage (Whole : List ℕ → Type 0) (tt : Timetable) (i : ℕ)
    (Refused : MemTape → MemTape → Type 0) : Type 0 where
  pub track : Track
  pub is_track : track_of tt i ≡ Some track
  pub bytes : List ℕ
  pub whole : Whole bytes
  pub image : MemTape
  pub is_image : mem_state image ≡ tape_of_bytes (room_of track) bytes
  pub after : MemTape
  pub refused : Refused image after

-- the file has ten bytes or more behind the room of the agent's tape
pub record IsTooLong (Front : List ℕ → Type 0) (tt : Timetable) (i : ℕ) : Type 0 where
  pub track : Track
  pub is_track : track_of tt i ≡ Some track
  pub bytes : List ℕ
  pub front : Front bytes
  pub longer : room_of track + record_length ≤ length bytes

-- why nothing is shown of a file
abbrev pub IsNotShown : {T : Type 0} → (T → Option (List ℕ)) → Timetable → ℕ → Counted T → Counted T
    → AgentFault → Type 0
IsNotShown remaining tt i old new (Tape NoSuchAgent) = (track_of tt i ≡ None) × (new ≡ old)
IsNotShown remaining tt i old new (Tape refusal) =
    IsRefusedImage (IsReadWhole remaining old new) tt i
    (λ image after. IsRefused mem_state mem_reads tt i image after refusal)
IsNotShown remaining tt i old new (File TooLong) =
    IsTooLong (Consumes (remaining (counted_inner old)) (remaining (counted_inner new))) tt i
IsNotShown remaining tt i old new (File TapeFailed) =
    HasAgent tt i × Rises (failures_of old) (failures_of new)
IsNotShown remaining tt i old new (File OutOfMemory) = HasAgent tt i
IsNotShown remaining tt i old new _ = ⊥

-- The map and the plan were read and the plan was checked; where it is valid, the file was read,
-- and else it was left alone.
pub record Inspects
    {M P T : Type 0} (map_left : M → Option (List ℕ)) (plan_left : P → Option (List ℕ))
    (tape_left : T → Option (List ℕ)) (i : ℕ)
    (old_map new_map : Counted M) (old_plan new_plan : Counted P) (old_tape new_tape : Counted T)
    (result : Result (List ℕ) AgentFault) : Type 0 where
  pub read : Result Timetable PlannedFault
  pub reads : ReadsTimetable map_left plan_left old_map new_map old_plan new_plan read
  pub ends : MatchResult read
      (λ tt. MatchResult result (IsShown tape_left tt i old_tape new_tape)
      (IsNotShown tape_left tt i old_tape new_tape))
      (λ fault. (result ≡ Err (Planned fault)) × (new_tape ≡ old_tape))

-- what the output got and how the command ended
abbrev pub EndsByTape : {W : Type 0} → (W → Option (List ℕ)) → Counted W → Counted W → End
    → Result (List ℕ) AgentFault → Type 0
EndsByTape contents old new end (Ok text) =
    EndsWriting contents old new (answered_with Done) end text
EndsByTape contents old new end (Err fault) =
    (end ≡ gave_up (agent_fault_words fault)) × (new ≡ old)

-- how the command ends where there is no file of the tape: nothing is read or written
abbrev pub EndsWithoutTape : End → Type 0
EndsWithoutTape end = end ≡ gave_up (agent_fault_words NoTape)

-- the texts and the tape were read, and the command ended by that
pub record AnswersTape
    {M P T W : Type 0} (map_left : M → Option (List ℕ)) (plan_left : P → Option (List ℕ))
    (tape_left : T → Option (List ℕ)) (contents : W → Option (List ℕ))
    (i : ℕ) (old_map new_map : Counted M) (old_plan new_plan : Counted P)
    (old_tape new_tape : Counted T)
    (old_out new_out : Counted W) (end : End) : Type 0 where
  pub answer : Result (List ℕ) AgentFault
  pub inspects : Inspects map_left plan_left tape_left i old_map new_map old_plan new_plan old_tape
      new_tape answer
  pub ends : EndsByTape contents old_out new_out end answer
