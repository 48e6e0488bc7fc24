-- The words of why a plan isn't handed over.
use Rattle.std.specs.Prelude.{[], ◌∷◌, codes}
use Rattle.text_io.specs.declared.failure.Failure.TheVariants as failure
use Rattle.text_io.specs.FaultWords.{Words, text_fault, failed}
use Rattle.planned.specs.FaultWords.{planned_fault_words}
use Rattle.fleet_commands.specs.declared.handover_fault.HandoverFault.{HandoverFault}
use Rattle.fleet_commands.specs.declared.handover_fault.HandoverFault.TheVariants.{Planned}
use Rattle.fleet_commands.specs.declared.handover_fault.HandoverFault.TheVariants.{NoSuchAgent}
use Rattle.fleet_commands.specs.declared.handover_fault.HandoverFault.TheVariants.{SameNumber}
use Rattle.fleet_commands.specs.declared.handover_fault.HandoverFault.TheVariants.{BadTape}
use Rattle.fleet_commands.specs.declared.handover_fault.HandoverFault.TheVariants.{NotOneRun}
use Rattle.fleet_commands.specs.declared.handover_fault.HandoverFault.TheVariants.{OutOfMemory}

-- those of the fault of the texts, or as `BadTape 3`: the agent
abbrev pub handover_fault_words : HandoverFault → Words
handover_fault_words (Planned fault) = planned_fault_words fault
handover_fault_words NoSuchAgent = text_fault (codes "NoSuchAgent") []
handover_fault_words SameNumber = text_fault (codes "SameNumber") []
handover_fault_words (BadTape i) = text_fault (codes "BadTape") (i ∷ [])
handover_fault_words NotOneRun = text_fault (codes "NotOneRun") []
handover_fault_words OutOfMemory = failed failure.OutOfMemory
