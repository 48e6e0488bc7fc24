-- The words of why a run is not replayed to its end.
use Rattle.text_io.specs.declared.failure.Failure.TheVariants as failure
use Rattle.text_io.specs.FaultWords.{Words, failed}
use Rattle.planned.specs.FaultWords.{planned_fault_words}
use Rattle.event_text.specs.FaultWords.{event_fault_words}
use Rattle.runner.specs.declared.run_fault.RunFault.{RunFault}
use Rattle.runner.specs.declared.run_fault.RunFault.TheVariants as run_fault

-- those of the fault that a text or the plan has
abbrev pub run_fault_words : RunFault → Words
run_fault_words (run_fault.Planned f) = planned_fault_words f
run_fault_words (run_fault.Events f) = event_fault_words f
run_fault_words run_fault.WriteFailed = failed failure.WriteFailed
run_fault_words run_fault.OutOfMemory = failed failure.OutOfMemory
