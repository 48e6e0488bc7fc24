-- The words of why there is no checked plan.
use Rattle.text_io.specs.declared.failure.Failure.TheVariants as failure
use Rattle.text_io.specs.FaultWords.{Words, failed}
use Rattle.grid.specs.MapFault.{map_fault_words}
use Rattle.model.specs.FaultWords.{plan_fault_words}
use Rattle.plan_text.specs.FaultWords.{plan_text_fault_words}
use Rattle.planned.specs.declared.planned_fault.PlannedFault.{PlannedFault}
use Rattle.planned.specs.declared.planned_fault.PlannedFault.TheVariants as planned_fault

-- those of the fault that a text or the plan has
abbrev pub planned_fault_words : PlannedFault → Words
planned_fault_words (planned_fault.Map fault) = map_fault_words fault
planned_fault_words (planned_fault.PlanText fault) = plan_text_fault_words fault
planned_fault_words (planned_fault.Plan fault) = plan_fault_words fault
planned_fault_words planned_fault.OutOfMemory = failed failure.OutOfMemory
