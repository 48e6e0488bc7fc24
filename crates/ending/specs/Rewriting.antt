-- What a command that reads a text and writes it in canonical form does and answers.
use Rattle.std.specs.Prelude.{◌≡◌, ℕ, ◌⊎◌, true, false, List, Option}
use Rattle.text_io.specs.declared.failure.Failure.TheVariants as failure
use Rattle.text_io.specs.FaultWords.{Words, failed, write_fault_words}
use Rattle.text_io.specs.declared.counted.Counted.{Counted}
use Rattle.text_io.specs.Counted.{counted_inner, failures_of}
use Rattle.text_io.specs.Reading.{Outcome, Place, is_value, is_fault}
use Rattle.text_io.specs.Reading.{is_failed, is_refused, ReadsText}
use Rattle.text_io.specs.Writing.{WritesText}
use Rattle.text_io.specs.declared.sink.WriteFault.TheVariants.{WriteFailed}
use Rattle.ending.specs.declared.status.Status.TheVariants.{Done}
use Rattle.ending.specs.Ending.{End, answered_with, gave_up}

-- A text was read by the grammar of its format, of which `FaultAt` has the faults, with this
-- outcome.
abbrev pub Reads : {V F R : Type 0} → (V → List ℕ → Type 0) → (F → Place → List ℕ → Type 0)
    → (R → Option (List ℕ)) → Counted R → Counted R
    → Outcome V F → Type 0
Reads Spells FaultAt remaining old new =
    ReadsText Spells FaultAt (remaining (counted_inner old)) (remaining (counted_inner new))
    (failures_of old) (failures_of new)

-- What the output got and how the command ended where a text is written: all of it, and then the
-- ending is that of success, or a beginning of it where the output failed.
abbrev pub EndsWriting
    : {W : Type 0} → (W → Option (List ℕ)) → Counted W → Counted W → End → End → List ℕ → Type 0
EndsWriting contents old new success end text =
    ((end ≡ success) × WritesText true (contents (counted_inner old)) (contents (counted_inner new))
    (failures_of old) (failures_of new) text)
    ⊎ ((end ≡ gave_up (write_fault_words WriteFailed))
    × WritesText false (contents (counted_inner old)) (contents (counted_inner new))
    (failures_of old) (failures_of new) text)

-- a line was written as every text is; or its text was refused memory, and nothing was written
abbrev pub EndsByLine
    : {W : Type 0} → (W → Option (List ℕ)) → Counted W → Counted W → End → End → List ℕ → Type 0
EndsByLine contents old new success end line =
    EndsWriting contents old new success end line
    ⊎ ((end ≡ gave_up (failed failure.OutOfMemory)) × (new ≡ old))

-- What the output got and how the command ended, by what reading came to: the canonical text of the
-- value that was read, and nothing where there is no value.
abbrev pub EndsBy
    : {V F W : Type 0} → (V → List ℕ) → (F → Words) → (W → Option (List ℕ)) → Counted W → Counted W
    → End → Outcome V F → Type 0
EndsBy canonical words contents old new end (is_value v) =
    EndsWriting contents old new (answered_with Done) end (canonical v)
EndsBy canonical words contents old new end (is_fault f) = (end ≡ gave_up (words f)) × (new ≡ old)
EndsBy canonical words contents old new end is_failed =
    (end ≡ gave_up (failed failure.ReadFailed)) × (new ≡ old)
EndsBy canonical words contents old new end is_refused =
    (end ≡ gave_up (failed failure.OutOfMemory)) × (new ≡ old)

-- The text was read, and the command ended by that.
pub record RewritesText
    {V F R W : Type 0} (Spells : V → List ℕ → Type 0) (FaultAt : F → Place → List ℕ → Type 0)
    (canonical : V → List ℕ)
    (words : F → Words) (remaining : R → Option (List ℕ)) (contents : W → Option (List ℕ))
    (old_in new_in : Counted R) (old_out new_out : Counted W) (end : End) : Type 0 where
  pub outcome : Outcome V F
  pub reads : Reads Spells FaultAt remaining old_in new_in outcome
  pub ends : EndsBy canonical words contents old_out new_out end outcome
