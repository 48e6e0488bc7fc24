-- What was read holds.
use Rattle.std.proofs.Common.{ℕ, List}
use Rattle.std.specs.Prelude.{Err, IfOk, Ok, Option, Result}
use Rattle.text_io.specs.Reading.{ReadsText}
use Rattle.grid.specs.Map.{Grid}
use Rattle.optimality.specs.declared.constraint.Ends.{Ends}
use Rattle.optimality.specs.Judging.{BoundHolds}
use Rattle.proof_text.specs.declared.claim.ProofClaim.{ProofClaim}
use Rattle.proof_text.specs.declared.proof_fault.ProofFault.{ProofFault}
use Rattle.proof_text.specs.ProofFault.{ProofFaultAt, proof_outcome}
use Rattle.proof_text.specs.ProofText.{ProofText}

pub bound_read : ((m : Grid) (ends : List Ends) (claim : ProofClaim) (text : List ℕ) → ProofText m ends claim text → BoundHolds m ends claim.objective claim.bound)
    → (m : Grid) (ends : List Ends) (old new : Option (List ℕ)) (before after : ℕ) (r : Result ProofClaim ProofFault)
    → ReadsText (ProofText m ends) (ProofFaultAt m ends) old new before after (proof_outcome r) → IfOk r (λ claim. BoundHolds m ends claim.objective claim.bound)
bound_read holds m ends old new before after (Ok claim) reads = holds m ends claim reads.delivered reads.answer.0
bound_read holds m ends old new before after (Err fault) reads = tt
