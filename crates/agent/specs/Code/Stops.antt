-- A reading of records that stopped.
use Rattle.std.specs.Prelude.{ℕ, ◌<◌, Bool, List}
use Rattle.agent.specs.declared.refusal.OpenFault.{OpenFault}
use Rattle.agent.specs.Opening.{HasRead, IsRecordFault}
use Rattle.agent.specs.Records.{due_record, record_at, AreDue}
use Rattle.agent.specs.Tape.{TapeState}

-- one of the first records has the fault, and those before it are those that are due, and were read
abbrev pub StopsAtRecord : {T : Type 0} → (T → TapeState) → (T → ℕ → Bool → List ℕ → T → Type 0)
    → (plan agent count : ℕ) → T → T → OpenFault → Type 0
StopsAtRecord {T = T} seen may_read plan agent count tape after fault =
    (n : ℕ) × (n < count) × AreDue plan agent (seen tape).contents n
    × ((before : T) × HasRead may_read tape n before
    × IsRecordFault may_read (due_record plan agent n) (record_at (seen tape).contents n) n
    before after fault)
