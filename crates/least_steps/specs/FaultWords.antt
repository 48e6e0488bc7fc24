-- The words of why a search for the least steps has no answer.
use Rattle.std.specs.Prelude.{[], codes}
use Rattle.text_io.specs.declared.failure.Failure.TheVariants as failure
use Rattle.text_io.specs.FaultWords.{Words, text_fault, failed}
use Rattle.least_steps.specs.declared.step_fault.StepFault.{StepFault}
use Rattle.least_steps.specs.declared.step_fault.StepFault.TheVariants as step_fault

abbrev pub step_fault_words : StepFault → Words
step_fault_words step_fault.NotTight = text_fault (codes "NotTight") []
step_fault_words step_fault.OutOfMemory = failed failure.OutOfMemory
