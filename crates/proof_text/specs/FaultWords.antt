-- The words of the fault of a proof.
use Rattle.std.specs.Prelude.{[], ◌∷◌, codes}
use Rattle.text_io.specs.declared.failure.Failure.TheVariants as failure
use Rattle.text_io.specs.FaultWords.{Words, text_fault, failed}
use Rattle.proof_text.specs.declared.proof_fault.ProofFault.{ProofFault}
use Rattle.proof_text.specs.declared.proof_fault.ProofFault.TheVariants as proof_fault

-- as `LeafTooLow 17 23`: the line, and what the leaf gives in place of the bound
abbrev pub proof_fault_words : ProofFault → Words
proof_fault_words (proof_fault.BadHeader line) = text_fault (codes "BadHeader") (line ∷ [])
proof_fault_words (proof_fault.BadNode line) = text_fault (codes "BadNode") (line ∷ [])
proof_fault_words (proof_fault.BadNumber line) = text_fault (codes "BadNumber") (line ∷ [])
proof_fault_words (proof_fault.TooMany line) = text_fault (codes "TooMany") (line ∷ [])
proof_fault_words (proof_fault.Unfinished line) = text_fault (codes "Unfinished") (line ∷ [])
proof_fault_words (proof_fault.TextAfter line) = text_fault (codes "TextAfter") (line ∷ [])
proof_fault_words (proof_fault.NoSuchAgent line) = text_fault (codes "NoSuchAgent") (line ∷ [])
proof_fault_words (proof_fault.OffMap line) = text_fault (codes "OffMap") (line ∷ [])
proof_fault_words (proof_fault.LeafTooLow line least) =
    text_fault (codes "LeafTooLow") (line ∷ least ∷ [])
proof_fault_words proof_fault.NotTight = text_fault (codes "NotTight") []
proof_fault_words proof_fault.ReadFailed = failed failure.ReadFailed
proof_fault_words proof_fault.OutOfMemory = failed failure.OutOfMemory
