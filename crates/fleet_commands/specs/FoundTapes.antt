-- What the tapes of all agents were found to have.
use Rattle.std.specs.Prelude.{◌≡◌, ℕ, ◌+◌, ◌≤◌, ◌*◌, ◌/◌, Bool}
use Rattle.std.specs.Prelude.{false, is_ok, List, length, Option, None, Some, option_map}
use Rattle.std.specs.Prelude.{unwrap_or, IfSome, Result, Ok, Err, slice_get}
use Rattle.text_io.specs.Text.{BeginsWith}
use Rattle.model.specs.Timetable.{Track, Timetable, moves, track_of}
use Rattle.agent.specs.MemTape.{mem_state, mem_reads}
use Rattle.agent.specs.Opening.{IsRefused}
use Rattle.agent.specs.declared.refusal.OpenFault.TheVariants.{NoSuchAgent}
use Rattle.robot.specs.declared.file_tape.FileTapeFault.TheVariants.{TooLong, TapeFailed}
use Rattle.robot.specs.declared.file_tape.FileTapeFault.TheVariants.{OutOfMemory}
use Rattle.agent_commands.specs.AgentCommand.{HasAgent}
use Rattle.agent_commands.specs.FileDeeds.{FileDeed, FindsFile}
use Rattle.agent_commands.specs.FileDeeds.FileDeed.{finds_none, cannot_open}
use Rattle.agent_commands.specs.TapeCommand.{HasRecords, IsRefusedImage, IsTooLong}
use Rattle.agent_commands.specs.declared.agent_fault.AgentFault.{AgentFault}
use Rattle.agent_commands.specs.declared.agent_fault.AgentFault.TheVariants.{NoTape, OpenFailed}
use Rattle.agent_commands.specs.declared.agent_fault.AgentFault.TheVariants.{File, Tape}

-- how many whole records a tape has on which its agent is opened, or why none is
abbrev pub Found : Type 0
Found = Result ℕ AgentFault

-- these are all bytes of a file, if those are known
abbrev pub IsAllOf : Option (List ℕ) → List ℕ → Type 0
IsAllOf all bytes = IfSome all (λ known. bytes ≡ known)

-- a file begins with these, if its bytes are known
abbrev pub IsFrontOf : Option (List ℕ) → List ℕ → Type 0
IsFrontOf all bytes = IfSome all (BeginsWith bytes)

-- why no agent is opened on the bytes of a file
abbrev pub IsNoTapeIn : Option (List ℕ) → Timetable → ℕ → AgentFault → Type 0
IsNoTapeIn all tt i (Tape NoSuchAgent) = track_of tt i ≡ None
IsNoTapeIn all tt i (Tape refusal) =
    IsRefusedImage (IsAllOf all) tt i
    (λ image after. IsRefused mem_state mem_reads tt i image after refusal)
IsNoTapeIn all tt i (File TooLong) = IsTooLong (IsFrontOf all) tt i
IsNoTapeIn all tt i (File TapeFailed) = HasAgent tt i
IsNoTapeIn all tt i (File OutOfMemory) = HasAgent tt i
IsNoTapeIn all tt i _ = ⊥

-- A file was opened, and its tape has this; or why none was.
abbrev pub IsFoundIn : (FileDeed → Type 0) → Timetable → ℕ → Found → Type 0
IsFoundIn WasDone tt i (Ok records) =
    FindsFile WasDone (λ all. HasRecords (IsAllOf all) tt i records)
IsFoundIn WasDone tt i (Err NoTape) = WasDone finds_none
IsFoundIn WasDone tt i (Err OpenFailed) = WasDone cannot_open
IsFoundIn WasDone tt i (Err fault) = FindsFile WasDone (λ all. IsNoTapeIn all tt i fault)

-- Of each agent's tape this was found.
pub record AreFoundIn (WasDone : FileDeed → Type 0) (tt : Timetable)
    (found : List Found) : Type 0 where
  pub all : length found ≡ length tt.tracks
  pub each : (i : ℕ) (f : Found) → slice_get found i ≡ Some f → IsFoundIn WasDone tt i f

-- a tape has no more than two records a move
abbrev pub AreWithinMoves : Timetable → List Found → Type 0
AreWithinMoves tt found =
    (i records : ℕ) (track : Track) → track_of tt i ≡ Some track
    → slice_get found i ≡ Some (Ok records) → records ≤ 2 * moves track

-- how many moves a tape says to be finished: none where no agent is opened on it
abbrev pub moves_in_tape : Found → ℕ
moves_in_tape (Ok records) = records / 2
moves_in_tape (Err fault) = 0

abbrev pub finished_by : List Found → ℕ → ℕ
finished_by found i = unwrap_or (option_map moves_in_tape (slice_get found i)) 0

-- how many moves a tape says to be begun
abbrev pub begun_in_tape : Found → ℕ
begun_in_tape (Ok records) = (records + 1) / 2
begun_in_tape (Err fault) = 0

abbrev pub begun_by : List Found → ℕ → ℕ
begun_by found i = unwrap_or (option_map begun_in_tape (slice_get found i)) 0

-- the agent is opened on its tape
abbrev pub is_known : List Found → ℕ → Bool
is_known found i = unwrap_or (option_map is_ok (slice_get found i)) false
