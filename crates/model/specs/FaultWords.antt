-- The words of the faults of plans and of messages.
use Rattle.std.specs.Prelude.{[], ◌∷◌, codes}
use Rattle.text_io.specs.declared.failure.Failure.TheVariants as failure
use Rattle.text_io.specs.FaultWords.{Words, text_fault, failed}
use Rattle.model.specs.declared.plan_fault.PlanFault.{PlanFault}
use Rattle.model.specs.declared.plan_fault.PlanFault.TheVariants as plan_fault
use Rattle.model.specs.declared.msg_fault.MsgFault.{MsgFault}
use Rattle.model.specs.declared.msg_fault.MsgFault.TheVariants as msg_fault

-- as `Vertex 0 1 2 0 0`: agents, the step or the time, and the cell's column and row
abbrev pub plan_fault_words : PlanFault → Words
plan_fault_words (plan_fault.BadStart agent) = text_fault (codes "BadStart") (agent ∷ [])
plan_fault_words (plan_fault.BadMove agent step) = text_fault (codes "BadMove") (agent ∷ step ∷ [])
plan_fault_words (plan_fault.Vertex first second time cell) =
    text_fault (codes "Vertex") (first ∷ second ∷ time ∷ cell.x ∷ cell.y ∷ [])
plan_fault_words (plan_fault.Swap first second step) =
    text_fault (codes "Swap") (first ∷ second ∷ step ∷ [])
plan_fault_words plan_fault.OutOfMemory = failed failure.OutOfMemory

-- as `BadEntry 2`: the entry
abbrev pub msg_fault_words : MsgFault → Words
msg_fault_words msg_fault.BadLength = text_fault (codes "BadLength") []
msg_fault_words msg_fault.BadMagic = text_fault (codes "BadMagic") []
msg_fault_words msg_fault.BadVersion = text_fault (codes "BadVersion") []
msg_fault_words (msg_fault.BadEntry entry) = text_fault (codes "BadEntry") (entry ∷ [])
