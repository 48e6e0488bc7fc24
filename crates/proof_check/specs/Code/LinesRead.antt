-- What was read of a proof, line by line.
use Rattle.std.specs.Prelude.{◌≡◌, ℕ, List, Option}
use Rattle.text_io.specs.declared.counted.Counted.{Counted}
use Rattle.text_io.specs.declared.source.Source.{Source}
use Rattle.text_io.specs.Lines.{HasTaken}
use Rattle.text_io.specs.Reading.{line_number}
use Rattle.grid.specs.Map.{Grid}
use Rattle.optimality.specs.declared.constraint.Ends.{Ends}
use Rattle.proof_text.specs.ProofText.{ProofLeads, header_due}
use Rattle.proof_check.specs.declared.progress.Progress.{Progress}
use Rattle.proof_check.specs.Code.Progressing.{IsProgress, due_of}

-- The lines so far were taken and are right, and the progress is what they said. The next one has
-- this number.
pub record HasReadLines
    {R : Type 0} {ahead : ℕ} (remaining : R → Option (List ℕ)) (first : Counted R) (m : Grid)
    (ends : List Ends) (now : Source R ahead) (p : Progress)
    (number : ℕ) : Type 0 where
  pub before : List (List ℕ)
  pub taken : HasTaken remaining first now before
  pub progress : IsProgress m ends p
  pub right : ProofLeads m ends header_due before (due_of p)
  pub next : number ≡ line_number before
