-- What was read of a tape is what was found of it.
use Rattle.std.proofs.Common.{◌≡◌, ℕ, zero, suc, List, [], ◌∷◌, ◌++◌, length, Some, None, Ok, Err, inl, inr, refl, ap}
use Rattle.std.specs.Prelude.{◌⊎◌, Option, MatchResult, slice_get}
use Rattle.std.proofs.lemmas.Option.{none-some, same_Some}
use Rattle.std.specs.Io.KnownBytes.{Consumes, IsAtEnd}
use Rattle.std.proofs.KnownBytes.{Consumes-all}
use Rattle.text_io.specs.declared.counted.Counted.{Counted}
use Rattle.text_io.specs.Counted.{counted_inner}
use Rattle.model.specs.Timetable.{Timetable}
use Rattle.agent.specs.declared.mem_tape.MemTape.{MemTape}
use Rattle.agent.specs.declared.refusal.OpenFault.TheVariants.{NoSuchAgent, Damaged, WrongPlan, WrongAgent, NoRoom, TapeFailed as Tape_failed, TooLong as Tape_too_long}
use Rattle.robot.specs.declared.file_tape.FileTapeFault.TheVariants.{TooLong, InUse, TapeFailed, OutOfMemory}
use Rattle.agent_commands.specs.FileDeeds.{FileDeed}
use Rattle.agent_commands.specs.FileDeeds.FileDeed.{opens_file}
use Rattle.agent_commands.specs.TapeCommand.{HasRecords, IsNotShown, IsReadWhole, IsRefusedImage}
use Rattle.agent_commands.specs.declared.agent_fault.AgentFault.{AgentFault}
use Rattle.agent_commands.specs.declared.agent_fault.AgentFault.TheVariants.{Planned, OpenFailed, TapeExists, NoTape, PlanDamaged, TapeEmptied, OtherPlan, File, Tape, Dialogue}
use Rattle.fleet_commands.specs.FoundTapes.{Found, IsAllOf, IsFoundIn, IsFrontOf, IsNoTapeIn}

-- bytes that were read up to the end are all
all-of : (old new : Option (List ℕ)) (bytes : List ℕ) → Consumes old new bytes → IsAtEnd new → IsAllOf old bytes
all-of old new bytes read end = Consumes-all old new bytes [] bytes read end refl

-- bytes that were read first are the front
front-of : (old new : Option (List ℕ)) (bytes : List ℕ) → Consumes old new bytes → IsFrontOf old bytes
front-of None new bytes read = tt
front-of (Some all) None bytes read = absurd read
front-of (Some all) (Some left) bytes read = (left, read)

records-in : {T : Type 0} (remaining : T → Option (List ℕ)) (table : Timetable) (i : ℕ) (old new : Counted T) (records : ℕ)
    → HasRecords (IsReadWhole remaining old new) table i records → HasRecords (IsAllOf (remaining (counted_inner old))) table i records
records-in remaining table i old new records h = (
  h.0,
  h.1,
  h.2,
  record {
    is_track = h.3.is_track;
    whole = all-of _ _ h.0 h.3.whole.consumed h.3.whole.is_end;
    image = h.3.image;
    is_image = h.3.is_image;
    agent = h.3.agent;
    opened = h.3.opened;
    is_state = h.3.is_state;
  },
  h.4,
)

refused-in : {T : Type 0} (remaining : T → Option (List ℕ)) (table : Timetable) (i : ℕ) (old new : Counted T) (Refused : MemTape → MemTape → Type 0)
    → IsRefusedImage (IsReadWhole remaining old new) table i Refused → IsRefusedImage (IsAllOf (remaining (counted_inner old))) table i Refused
refused-in remaining table i old new Refused h = record {
  track = h.track;
  is_track = h.is_track;
  bytes = h.bytes;
  whole = all-of _ _ h.bytes h.whole.consumed h.whole.is_end;
  image = h.image;
  is_image = h.is_image;
  after = h.after;
  refused = h.refused;
}

no-tape-in : {T : Type 0} (remaining : T → Option (List ℕ)) (table : Timetable) (i : ℕ) (old new : Counted T) (fault : AgentFault)
    → IsNotShown remaining table i old new fault → IsNoTapeIn (remaining (counted_inner old)) table i fault
no-tape-in remaining table i old new (Tape NoSuchAgent) not = not.0
no-tape-in remaining table i old new (Tape Tape_failed) not = refused-in remaining table i old new _ not
no-tape-in remaining table i old new (Tape (Damaged n)) not = refused-in remaining table i old new _ not
no-tape-in remaining table i old new (Tape (WrongPlan n)) not = refused-in remaining table i old new _ not
no-tape-in remaining table i old new (Tape (WrongAgent n)) not = refused-in remaining table i old new _ not
no-tape-in remaining table i old new (Tape Tape_too_long) not = refused-in remaining table i old new _ not
no-tape-in remaining table i old new (Tape NoRoom) not = refused-in remaining table i old new _ not
no-tape-in remaining table i old new (File TooLong) not =
    record { track = not.track; is_track = not.is_track; bytes = not.bytes; front = front-of _ _ not.bytes not.front; longer = not.longer }
no-tape-in remaining table i old new (File TapeFailed) not = not.0
no-tape-in remaining table i old new (File OutOfMemory) not = not
no-tape-in remaining table i old new (File InUse) not = absurd not
no-tape-in remaining table i old new NoTape not = absurd not
no-tape-in remaining table i old new OpenFailed not = absurd not
no-tape-in remaining table i old new (Planned fault) not = absurd not
no-tape-in remaining table i old new TapeExists not = absurd not
no-tape-in remaining table i old new PlanDamaged not = absurd not
no-tape-in remaining table i old new TapeEmptied not = absurd not
no-tape-in remaining table i old new (OtherPlan apart) not = absurd not
no-tape-in remaining table i old new (Dialogue fault) not = absurd not

-- what was read of a file that was opened is what was found
pub found-in : {T : Type 0} (remaining : T → Option (List ℕ)) (WasDone : FileDeed → Type 0) (table : Timetable) (i : ℕ) (old new : Counted T) (found : Found)
    → WasDone (opens_file (remaining (counted_inner old))) → MatchResult found (HasRecords (IsReadWhole remaining old new) table i) (IsNotShown remaining table i old new)
    → IsFoundIn WasDone table i found
found-in remaining WasDone table i old new (Ok records) done has = (remaining (counted_inner old), done, records-in remaining table i old new records has)
found-in remaining WasDone table i old new (Err NoTape) done not = absurd not
found-in remaining WasDone table i old new (Err OpenFailed) done not = absurd not
found-in remaining WasDone table i old new (Err (Planned fault)) done not = (remaining (counted_inner old), done, no-tape-in remaining table i old new (Planned fault) not)
found-in remaining WasDone table i old new (Err TapeExists) done not = (remaining (counted_inner old), done, no-tape-in remaining table i old new TapeExists not)
found-in remaining WasDone table i old new (Err PlanDamaged) done not = (remaining (counted_inner old), done, no-tape-in remaining table i old new PlanDamaged not)
found-in remaining WasDone table i old new (Err TapeEmptied) done not = (remaining (counted_inner old), done, no-tape-in remaining table i old new TapeEmptied not)
found-in remaining WasDone table i old new (Err (OtherPlan apart)) done not = (remaining (counted_inner old), done, no-tape-in remaining table i old new (OtherPlan apart) not)
found-in remaining WasDone table i old new (Err (File fault)) done not = (remaining (counted_inner old), done, no-tape-in remaining table i old new (File fault) not)
found-in remaining WasDone table i old new (Err (Tape fault)) done not = (remaining (counted_inner old), done, no-tape-in remaining table i old new (Tape fault) not)
found-in remaining WasDone table i old new (Err (Dialogue fault)) done not = (remaining (counted_inner old), done, no-tape-in remaining table i old new (Dialogue fault) not)

-- one more behind the others
pub at-last : {A : Type 0} (xs : List A) (x : A) (i : ℕ) (y : A) → slice_get (xs ++ x ∷ []) i ≡ Some y → (slice_get xs i ≡ Some y) ⊎ ((i ≡ length xs) × (x ≡ y))
at-last [] x zero y there = inr (refl, same_Some x y there)
at-last [] x (suc i) y there = absurd (none-some y there)
at-last (z ∷ xs) x zero y there = inl there
at-last (z ∷ xs) x (suc i) y there = elim (at-last xs x i y there) [ inl before ↦ inl before | inr last ↦ inr (ap suc last.0, last.1) ]
