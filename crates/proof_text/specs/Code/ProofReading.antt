-- How the reader of a proof goes from line to line.
use Rattle.std.specs.Prelude.{◌≡◌, ℕ, ◌⊎◌, List}
use Rattle.text_io.specs.Reading.{at_line_feed}
use Rattle.grid.specs.Map.{Grid}
use Rattle.optimality.specs.declared.constraint.Ends.{Ends}
use Rattle.proof_text.specs.declared.proof_fault.ProofFault.{ProofFault}
use Rattle.proof_text.specs.declared.proof_fault.ProofFault.TheVariants.{NotTight, OutOfMemory}
use Rattle.proof_text.specs.ProofFault.{HasProofFault}
use Rattle.proof_text.specs.ProofText.{ProofDue}

-- no answer was found: there was no memory, or what a search found proved nothing
abbrev pub IsUnjudged : ProofFault → Type 0
IsUnjudged fault = (fault ≡ OutOfMemory) ⊎ (fault ≡ NotTight)

-- why a line was refused: no answer was found, or the line has the fault at its LF
abbrev pub ProofRefuses : Grid → List Ends → ProofDue → ℕ → List ℕ → ProofFault → Type 0
ProofRefuses m ends due number line fault =
    IsUnjudged fault ⊎ HasProofFault m ends fault at_line_feed due number line
