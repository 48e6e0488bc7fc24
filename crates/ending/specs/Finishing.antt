-- How a command ends that wrote a text.
use Rattle.std.specs.Prelude.{◌≡◌, ℕ, ◌⊎◌, Bool, true, false, List, Option}
use Rattle.std.specs.Io.KnownBytes.{Keeps}
use Rattle.text_io.specs.declared.counted.Counted.{Counted}
use Rattle.text_io.specs.Counted.{counted_inner, calls_of, failures_of, one_more, Rises}
use Rattle.text_io.specs.FaultWords.{write_fault_words}
use Rattle.text_io.specs.declared.sink.WriteFault.TheVariants.{WriteFailed}
use Rattle.ending.specs.Ending.{End, gave_up}

-- How a command ends after a write, by whether that passed: the output is called once more, for a
-- flush, which leaves the bytes as they are, and not at all after a failed write. Where neither
-- failed, the ending is that of success, and else the failure is.
abbrev pub FinishesWriting
    : {W : Type 0} → (W → Option (List ℕ)) → Bool → End → Counted W → Counted W → End → Type 0
FinishesWriting contents true success old new end =
    Keeps (contents (counted_inner old)) (contents (counted_inner new))
    × (calls_of new ≡ one_more (calls_of old))
    × (((end ≡ success) × (failures_of new ≡ failures_of old))
    ⊎ ((end ≡ gave_up (write_fault_words WriteFailed)) × Rises (failures_of old) (failures_of new)))
FinishesWriting contents false success old new end =
    (end ≡ gave_up (write_fault_words WriteFailed)) × (new ≡ old)
