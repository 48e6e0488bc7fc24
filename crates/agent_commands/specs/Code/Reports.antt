-- What the parts of `mapf tape` owe each other.
use Rattle.std.specs.Prelude.{◌≡◌, ℕ, ◌+◌, ◌-◌, ◌*◌, ◌≤◌, List, []}
use Rattle.std.specs.Prelude.{◌∷◌, ◌++◌, length, Option, Result, Ok, Err}
use Rattle.std.specs.Io.KnownBytes.{Consumes}
use Rattle.text_io.specs.declared.counted.Counted.{Counted}
use Rattle.text_io.specs.Counted.{counted_inner, failures_of, Rises}
use Rattle.text_io.specs.Text.{line_feed}
use Rattle.model.specs.History.{record_length}
use Rattle.model.specs.Timetable.{Timetable}
use Rattle.agent.specs.declared.mem_tape.MemTape.{MemTape}
use Rattle.agent.specs.Agents.{AgentOn, state_of, IsHolding}
use Rattle.agent.specs.MemTape.{mem_state}
use Rattle.agent.specs.Replies.{stood}
use Rattle.agent.specs.States.{finished_moves}
use Rattle.agent.specs.Tape.{whole_records}
use Rattle.event_text.specs.ReplyText.{reply_line}
use Rattle.robot.specs.declared.file_tape.FileTapeFault.{FileTapeFault}
use Rattle.robot.specs.declared.file_tape.FileTapeFault.TheVariants.{TooLong, TapeFailed}
use Rattle.robot.specs.declared.file_tape.FileTapeFault.TheVariants.{OutOfMemory}
use Rattle.agent_commands.specs.TapeCommand.{HasRecords, IsReadWhole, IsShown}
use Rattle.agent_commands.specs.TapeCommand.{records_line, tape_of_bytes}
use Rattle.agent_commands.specs.declared.agent_fault.AgentFault.{AgentFault}
use Rattle.agent_commands.specs.declared.tape_report.TapeImage.{TapeImage}
use Rattle.agent_commands.specs.declared.tape_report.TapeReport.{TapeReport}

-- the line of where an agent is
abbrev pub standing_of : TapeReport → List ℕ
standing_of r = reply_line (stood r.held r.done)

-- the two lines of a report
abbrev pub report_text : TapeReport → List ℕ
report_text r =
    (standing_of r ++ line_feed ∷ []) ++ (records_line r.records r.torn ++ line_feed ∷ [])

-- the text of what was found
abbrev pub outcome_of : Result TapeReport AgentFault → Result (List ℕ) AgentFault
outcome_of (Ok r) = Ok (report_text r)
outcome_of (Err fault) = Err fault

-- the report has the text that is shown, and the records that there are
abbrev pub IsReported : {T : Type 0} → (T → Option (List ℕ)) → Timetable → ℕ → Counted T → Counted T
    → TapeReport → Type 0
IsReported remaining tt i old new r =
    IsShown remaining tt i old new (report_text r)
    × HasRecords (IsReadWhole remaining old new) tt i r.records

-- the report of an agent of a timetable, the file of whose tape has so many bytes
pub record IsReportOf (tt : Timetable) (a : AgentOn MemTape) (count : ℕ)
    (r : TapeReport) : Type 0 where
  pub holds : IsHolding mem_state tt a r.held
  pub is_done : r.done ≡ finished_moves (state_of mem_state a)
  pub records : r.records ≡ whole_records (mem_state a.tape)
  pub torn : r.torn ≡ count - record_length * whole_records (mem_state a.tape)

-- the file was read whole, and this is the tape that it is
pub record IsImageOf {T : Type 0} (remaining : T → Option (List ℕ)) (room : ℕ) (old new : Counted T)
    (image : TapeImage) : Type 0 where
  pub bytes : List ℕ
  pub whole : IsReadWhole remaining old new bytes
  pub is_tape : mem_state image.tape ≡ tape_of_bytes room bytes
  pub count : image.len ≡ length bytes

-- why the file was not taken for a tape
abbrev pub IsNoImage
    : {T : Type 0} → (T → Option (List ℕ)) → ℕ → Counted T → Counted T → FileTapeFault → Type 0
IsNoImage remaining room old new TooLong =
    (bytes : List ℕ) × Consumes (remaining (counted_inner old)) (remaining (counted_inner new))
    bytes × (room + record_length ≤ length bytes)
IsNoImage remaining room old new TapeFailed = Rises (failures_of old) (failures_of new)
IsNoImage remaining room old new OutOfMemory = Unit {0}
IsNoImage remaining room old new _ = ⊥
