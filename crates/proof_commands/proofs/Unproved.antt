-- A proof that was not read to its end.
use Rattle.std.proofs.Common.{◌≡◌, ℕ, Bool, List, refl}
use Rattle.std.specs.Prelude.{Option}
use Rattle.text_io.specs.declared.counted.Counted.{Counted}
use Rattle.ending.specs.Ending.{End, gave_up}
use Rattle.proof_text.specs.FaultWords.{proof_fault_words}
use Rattle.proof_text.specs.declared.proof_fault.ProofFault.{ProofFault}
use Rattle.proof_text.specs.declared.proof_fault.ProofFault.TheVariants.{BadHeader, BadNode}
use Rattle.proof_text.specs.declared.proof_fault.ProofFault.TheVariants.{BadNumber, TooMany}
use Rattle.proof_text.specs.declared.proof_fault.ProofFault.TheVariants.{Unfinished, TextAfter}
use Rattle.proof_text.specs.declared.proof_fault.ProofFault.TheVariants.{NoSuchAgent, OffMap}
use Rattle.proof_text.specs.declared.proof_fault.ProofFault.TheVariants.{LeafTooLow, NotTight}
use Rattle.proof_text.specs.declared.proof_fault.ProofFault.TheVariants.{ReadFailed, OutOfMemory}
use Rattle.proof_commands.specs.OptimalCommand.{EndsUnproved}

-- a fault for which no line is written
pub unproved : {W : Type 0} (contents : W → Option (List ℕ)) (json : Bool) (now : Counted W) (end : End) (fault : ProofFault)
    → ((line : ℕ) → fault ≡ NoSuchAgent line → ⊥) → ((line : ℕ) → fault ≡ OffMap line → ⊥) → ((line least : ℕ) → fault ≡ LeafTooLow line least → ⊥)
    → end ≡ gave_up (proof_fault_words fault) → EndsUnproved contents json now now end fault
unproved contents json now end (NoSuchAgent line) not-agent not-map not-leaf is = absurd (not-agent line refl)
unproved contents json now end (OffMap line) not-agent not-map not-leaf is = absurd (not-map line refl)
unproved contents json now end (LeafTooLow line least) not-agent not-map not-leaf is = absurd (not-leaf line least refl)
unproved contents json now end (BadHeader line) not-agent not-map not-leaf is = (is, refl)
unproved contents json now end (BadNode line) not-agent not-map not-leaf is = (is, refl)
unproved contents json now end (BadNumber line) not-agent not-map not-leaf is = (is, refl)
unproved contents json now end (TooMany line) not-agent not-map not-leaf is = (is, refl)
unproved contents json now end (Unfinished line) not-agent not-map not-leaf is = (is, refl)
unproved contents json now end (TextAfter line) not-agent not-map not-leaf is = (is, refl)
unproved contents json now end NotTight not-agent not-map not-leaf is = (is, refl)
unproved contents json now end ReadFailed not-agent not-map not-leaf is = (is, refl)
unproved contents json now end OutOfMemory not-agent not-map not-leaf is = (is, refl)
