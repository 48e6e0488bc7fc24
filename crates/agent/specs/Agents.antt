-- An agent over a tape.
use Rattle.std.specs.Prelude.{◌≡◌, ℕ, ◌*◌, Bool, List, is_ok, Option}
use Rattle.std.specs.Prelude.{None, Some, Vec, Result, Ok, Err}
use Rattle.grid.specs.declared.cell.Cell.{Cell}
use Rattle.model.specs.declared.held.Held.{Held}
use Rattle.model.specs.History.{record_length}
use Rattle.model.specs.Messages.{Message}
use Rattle.model.specs.Timetable.{Track, Timetable, track_of}
use Rattle.agent.specs.declared.counters.Counter.{Counter}
use Rattle.agent.specs.declared.finished.Finished.{Finished}
use Rattle.agent.specs.declared.refusal.HearFault.{HearFault}
use Rattle.agent.specs.declared.refusal.TellFault.{TellFault}
use Rattle.agent.specs.declared.refusal.Refusal.{Refusal}
use Rattle.agent.specs.declared.refusal.Refusal.TheVariants.{StoreFailed}
use Rattle.agent.specs.Records.{due_record}
use Rattle.agent.specs.States.{State, held_by_tape, start_refusal, finish_refusal}
use Rattle.agent.specs.States.{next_cell, Answers, IsSaid, IsToldBy}
use Rattle.agent.specs.States.{IsHeard, IsHeardOf, IsHeardFrom}
use Rattle.agent.specs.Tape.{TapeState, whole_records, HasFailed}
use Rattle.depgraph.specs.AgentParts.{AgentPart}

-- its part of a graph, its tape, what it has heard, and whether a write has failed
pub record AgentOn (T : Type 0) : Type 0 where
  pub part : AgentPart
  pub tape : T
  pub heard : List Counter
  pub broken : Bool

-- its state, by what its tape has
abbrev pub state_of : {T : Type 0} → (T → TapeState) → AgentOn T → State
state_of seen a =
    record { records = whole_records (seen a.tape); heard = a.heard; broken = a.broken }

-- ---- calls, of an agent whose part is one of a timetable

-- the call on the tape: none where the agent refuses, else a write of the due record behind the
-- whole records
abbrev pub Writes : {T : Type 0} → (T → TapeState) → (T → ℕ → List ℕ → Bool → T → Type 0)
    → Option Refusal → AgentOn T → AgentOn T → Bool → Type 0
Writes seen may_write None old new succeeds =
    may_write old.tape (record_length * whole_records (seen old.tape))
    (due_record old.part.number old.part.agent (whole_records (seen old.tape)))
    succeeds new.tape
Writes seen may_write (Some why) old new succeeds = new.tape ≡ old.tape

-- an agent with a track in a timetable goes on along it, unless it refuses
pub record Moves {T : Type 0} (seen : T → TapeState) (may_write : T → ℕ → List ℕ → Bool → T
    → Type 0) (tt : Timetable) (track : Track) (refusal : Option Refusal) (old new : AgentOn T)
    (answer : Result Cell Refusal) : Type 0 where
  pub is_track : track_of tt old.part.agent ≡ Some track
  pub part : new.part ≡ old.part
  pub state : Answers refusal (state_of seen old) (state_of seen new)
      (next_cell track (state_of seen old)) answer
  pub tape : Writes seen may_write refusal old new (is_ok answer)
  pub failure
      : answer ≡ Err StoreFailed → HasFailed (seen old.tape).failures (seen new.tape).failures
  pub no_failure
      : (answer ≡ Err StoreFailed → ⊥) → (seen new.tape).failures ≡ (seen old.tape).failures

abbrev pub Starts : {T : Type 0} → (T → TapeState) → (T → ℕ → List ℕ → Bool → T → Type 0)
    → Timetable → AgentOn T → AgentOn T → Result Cell Refusal → Type 0
Starts seen may_write tt old new answer =
    (track : Track) × Moves seen may_write tt track
    (start_refusal tt old.part.agent track (state_of seen old)) old new answer

abbrev pub Finishes : {T : Type 0} → (T → TapeState) → (T → ℕ → List ℕ → Bool → T → Type 0)
    → Timetable → AgentOn T → AgentOn T → Result Cell Refusal → Type 0
Finishes seen may_write tt old new answer =
    (track : Track) × Moves seen may_write tt track (finish_refusal (state_of seen old))
    old new answer

-- what is heard changes the counters at the most
pub record Hears {T : Type 0} (seen : T → TapeState) (tt : Timetable) (old new : AgentOn T)
    (bytes : List ℕ) (answer : Result (ℕ × ℕ) HearFault) : Type 0 where
  pub state : IsHeard tt (state_of seen old) (state_of seen new) bytes answer
  pub same : new ≡ record old { heard = new.heard }

-- the same of a message of version 2 by its entries
pub record HearsOf {T : Type 0} (seen : T → TapeState) (tt : Timetable) (old new : AgentOn T)
    (message : Message) (answer : Result (ℕ × ℕ) HearFault) : Type 0 where
  pub state : IsHeardOf tt (state_of seen old) (state_of seen new) message answer
  pub same : new ≡ record old { heard = new.heard }

-- and of version 1 by what the sender has finished
pub record HearsFrom {T : Type 0} (seen : T → TapeState) (tt : Timetable) (old new : AgentOn T)
    (f : Finished) (answer : Result (ℕ × ℕ) HearFault) : Type 0 where
  pub state : IsHeardFrom tt (state_of seen old) (state_of seen new) f answer
  pub same : new ≡ record old { heard = new.heard }

-- what it holds
abbrev pub IsHolding : {T : Type 0} → (T → TapeState) → Timetable → AgentOn T → Held → Type 0
IsHolding seen tt a answer =
    (track : Track) × (track_of tt a.part.agent ≡ Some track)
    × (answer ≡ held_by_tape track (state_of seen a))

-- what it says
abbrev pub Says
    : {T : Type 0} → (T → TapeState) → Timetable → AgentOn T → Result (List ℕ) Refusal → Type 0
Says seen tt a answer = IsSaid tt a.part.agent (state_of seen a) answer

-- the bytes of an answer
abbrev pub bytes_told : {A : Type 0} → Result (Vec ℕ A) TellFault → Result (List ℕ) TellFault
bytes_told (Ok bytes) = Ok bytes.items
bytes_told (Err fault) = Err fault

-- what it tells of all that it knows
abbrev pub TellsAll
    : {T : Type 0} → (T → TapeState) → Timetable → AgentOn T → Result (List ℕ) TellFault → Type 0
TellsAll seen tt a answer = IsToldBy tt a.part.agent (state_of seen a) answer
