-- The words of why a run is not completed.
use Rattle.std.specs.Prelude.{[], ◌∷◌, codes}
use Rattle.text_io.specs.declared.failure.Failure.TheVariants as failure
use Rattle.text_io.specs.FaultWords.{Words, text_fault, failed}
use Rattle.executor.specs.declared.complete_fault.CompleteFault.{CompleteFault}
use Rattle.executor.specs.declared.complete_fault.CompleteFault.TheVariants as complete_fault

-- as `Rotation 0`: its number
abbrev pub complete_fault_words : CompleteFault → Words
complete_fault_words (complete_fault.Rotation number) = text_fault (codes "Rotation") (number ∷ [])
complete_fault_words complete_fault.OutOfMemory = failed failure.OutOfMemory
