-- The words of why no positions are written, and of why a plan is not found to continue another.
use Rattle.std.specs.Prelude.{[], codes}
use Rattle.text_io.specs.declared.failure.Failure.TheVariants as failure
use Rattle.text_io.specs.FaultWords.{Words, text_fault, failed}
use Rattle.grid.specs.MapFault.{map_fault_words}
use Rattle.model.specs.FaultWords.{plan_fault_words}
use Rattle.plan_text.specs.FaultWords.{plan_text_fault_words}
use Rattle.continuing.specs.FaultWords.{continue_fault_words}
use Rattle.planned.specs.FaultWords.{planned_fault_words}
use Rattle.plan_commands.specs.declared.continuation_fault.ContinuationFault.{ContinuationFault}
use Rattle.plan_commands.specs.declared.continuation_fault.ContinuationFault.TheVariants as continuation_fault
use Rattle.plan_commands.specs.declared.path_fault.PathFault.{PathFault}
use Rattle.plan_commands.specs.declared.path_fault.PathFault.TheVariants as path_fault

abbrev pub path_fault_words : PathFault → Words
path_fault_words (path_fault.Planned fault) = planned_fault_words fault
path_fault_words path_fault.NoSuchAgent = text_fault (codes "NoSuchAgent") []
path_fault_words path_fault.OutOfMemory = failed failure.OutOfMemory

-- which of the two plans has the fault they don't say
abbrev pub continuation_fault_words : ContinuationFault → Words
continuation_fault_words (continuation_fault.Map fault) = map_fault_words fault
continuation_fault_words (continuation_fault.OldText fault) = plan_text_fault_words fault
continuation_fault_words (continuation_fault.NewText fault) = plan_text_fault_words fault
continuation_fault_words (continuation_fault.Old fault) = plan_fault_words fault
continuation_fault_words (continuation_fault.New fault) = plan_fault_words fault
continuation_fault_words (continuation_fault.Apart fault) = continue_fault_words fault
