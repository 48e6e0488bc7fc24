-- Which tapes are opened, and why the others are not.
use Rattle.std.specs.Prelude.{◌≡◌, ℕ, ◌*◌, ◌<◌, ◌≤◌, zero, suc, Bool}
use Rattle.std.specs.Prelude.{true, false, List, [], None, Some, Result, MatchResult}
use Rattle.model.specs.History.{record_length}
use Rattle.model.specs.Timetable.{Track, Timetable, moves, track_of}
use Rattle.agent.specs.declared.refusal.OpenFault.{OpenFault}
use Rattle.agent.specs.declared.refusal.OpenFault.TheVariants.{NoSuchAgent, Damaged, WrongPlan}
use Rattle.agent.specs.declared.refusal.OpenFault.TheVariants.{TooLong, TapeFailed, WrongAgent}
use Rattle.agent.specs.declared.refusal.OpenFault.TheVariants.{NoRoom}
use Rattle.agent.specs.Agents.{AgentOn}
use Rattle.agent.specs.Owning.{HasTapeRoom}
use Rattle.agent.specs.Records.{due_record, record_at, AreDue, SaysDue, SaysPlan, SaysAgent}
use Rattle.agent.specs.Tape.{TapeState, IsKept, whole_records}
use Rattle.depgraph.specs.AgentParts.{IsPartOf}

-- a record was read
abbrev pub Gives : {T : Type 0} → (T → ℕ → Bool → List ℕ → T → Type 0) → ℕ → T → T → Type 0
Gives may_read n old new = (given : List ℕ) × may_read old (record_length * n) true given new

-- the first records were read in order, each once, and no other call was made
abbrev pub HasRead : {T : Type 0} → (T → ℕ → Bool → List ℕ → T → Type 0) → T → ℕ → T → Type 0
HasRead may_read tape zero after = after ≡ tape
HasRead {T = T} may_read tape (suc n) after =
    (before : T) × HasRead may_read tape n before × Gives may_read n before after

-- The tape is that of the agent: all whole records were read and are those that are due. Nothing is
-- heard yet.
pub record IsOpened {T : Type 0} (seen : T → TapeState) (may_read : T → ℕ → Bool → List ℕ → T
    → Type 0) (tt : Timetable) (i : ℕ) (tape : T) (opened : AgentOn T) : Type 0 where
  pub track : Track
  pub is_track : track_of tt i ≡ Some track
  pub size : HasTapeRoom (moves track) (seen tape)
  pub due : AreDue tt.number i (seen tape).contents (whole_records (seen tape))
  pub reads : HasRead may_read tape (whole_records (seen tape)) opened.tape
  pub contents : (seen opened.tape).contents ≡ (seen tape).contents
  pub part : IsPartOf tt opened.part
  pub id : opened.part.agent ≡ i
  pub heard : opened.heard ≡ []
  pub broken : opened.broken ≡ false

-- what a fault says of the record with a number, of these bytes, and of the one read of it
abbrev pub IsRecordFault : {T : Type 0} → (T → ℕ → Bool → List ℕ → T → Type 0)
    → (due bytes : List ℕ) → ℕ → T → T → OpenFault → Type 0
IsRecordFault may_read due bytes n old new TapeFailed =
    (given : List ℕ) × may_read old (record_length * n) false given new
IsRecordFault may_read due bytes n old new (Damaged m) =
    (m ≡ n) × Gives may_read n old new × (SaysDue due bytes → ⊥)
IsRecordFault may_read due bytes n old new (WrongPlan m) =
    (m ≡ n) × Gives may_read n old new × SaysDue due bytes × (SaysPlan due bytes → ⊥)
IsRecordFault may_read due bytes n old new (WrongAgent m) =
    (m ≡ n) × Gives may_read n old new × SaysDue due bytes × SaysPlan due bytes
    × (SaysAgent due bytes → ⊥)
IsRecordFault may_read due bytes n old new fault = ⊥

-- The records before one are those that are due, and were read; that one has the fault.
pub record StopsAt {T : Type 0} (seen : T → TapeState) (may_read : T → ℕ → Bool → List ℕ → T
    → Type 0) (tt : Timetable) (i n : ℕ) (tape after : T) (fault : OpenFault) : Type 0 where
  pub within : n < whole_records (seen tape)
  pub due : AreDue tt.number i (seen tape).contents n
  pub before : T
  pub reads : HasRead may_read tape n before
  pub stops : IsRecordFault may_read (due_record tt.number i n) (record_at (seen tape).contents n) n
      before after fault

-- some record stops the reading of a tape that has the right size
abbrev pub IsStopped : {T : Type 0} → (T → TapeState) → (T → ℕ → Bool → List ℕ → T → Type 0)
    → Timetable → ℕ → T → T → OpenFault → Type 0
IsStopped seen may_read tt i tape after fault =
    ((track : Track) × (track_of tt i ≡ Some track) × HasTapeRoom (moves track) (seen tape))
    × ((n : ℕ) × StopsAt seen may_read tt i n tape after fault)

-- what each fault says of the tape, and what was done with it before it was handed back
abbrev pub IsRefused : {T : Type 0} → (T → TapeState) → (T → ℕ → Bool → List ℕ → T → Type 0)
    → Timetable → ℕ → T → T → OpenFault → Type 0
IsRefused seen may_read tt i tape after NoSuchAgent = (track_of tt i ≡ None) × (after ≡ tape)
IsRefused seen may_read tt i tape after NoRoom =
    (track : Track) × (track_of tt i ≡ Some track)
    × ((seen tape).room < 2 * record_length * moves track) × (after ≡ tape)
IsRefused seen may_read tt i tape after TooLong =
    (track : Track) × (track_of tt i ≡ Some track)
    × (2 * record_length * moves track ≤ (seen tape).room)
    × (2 * moves track < whole_records (seen tape)) × (after ≡ tape)
IsRefused seen may_read tt i tape after fault = IsStopped seen may_read tt i tape after fault

-- reading one of the first records failed, after those before it were read
abbrev pub FailsWithin : {T : Type 0} → (T → ℕ → Bool → List ℕ → T → Type 0) → ℕ → T → T → Type 0
FailsWithin {T = T} may_read count old new =
    (n : ℕ) × (n < count)
    × ((before : T) × HasRead may_read old n before
    × ((given : List ℕ) × may_read before (record_length * n) false given new))

-- An agent's own tape is opened again: what was heard is forgotten, and it isn't broken any more.
-- Only a read that fails stops it.
pub record Restarts {T : Type 0} (seen : T → TapeState) (may_read : T → ℕ → Bool → List ℕ → T
    → Type 0) (old new : AgentOn T) (answer : Result Unit OpenFault) : Type 0 where
  pub part : new.part ≡ old.part
  pub kept : IsKept (seen old.tape) (seen new.tape)
  pub outcome : MatchResult answer
      (λ _. HasRead may_read old.tape (whole_records (seen old.tape)) new.tape × (new.heard ≡ [])
      × (new.broken ≡ false))
      (λ fault. (fault ≡ TapeFailed)
      × FailsWithin may_read (whole_records (seen old.tape)) old.tape new.tape
      × (new.heard ≡ old.heard) × (new.broken ≡ old.broken))
