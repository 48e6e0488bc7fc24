-- The words of why a tape is not opened or made, and of why an agent refuses.
use Rattle.std.specs.Prelude.{[], ◌∷◌, codes}
use Rattle.text_io.specs.declared.failure.Failure.TheVariants as failure
use Rattle.text_io.specs.FaultWords.{Words, text_fault, failed}
use Rattle.model.specs.FaultWords.{msg_fault_words}
use Rattle.agent.specs.declared.refusal.OpenFault.{OpenFault}
use Rattle.agent.specs.declared.refusal.OpenFault.TheVariants as open_fault
use Rattle.agent.specs.declared.refusal.Refusal.{Refusal}
use Rattle.agent.specs.declared.refusal.Refusal.TheVariants as refusal
use Rattle.agent.specs.declared.refusal.HearFault.{HearFault}
use Rattle.agent.specs.declared.refusal.HearFault.TheVariants as hear_fault
use Rattle.agent.specs.declared.refusal.TellFault.{TellFault}
use Rattle.agent.specs.declared.refusal.TellFault.TheVariants as tell_fault
use Rattle.agent.specs.declared.mem_tape.TapeMakeFault.{TapeMakeFault}
use Rattle.agent.specs.declared.mem_tape.TapeMakeFault.TheVariants as tape_make_fault

-- as `WrongPlan 0`: the record
abbrev pub open_fault_words : OpenFault → Words
open_fault_words open_fault.NoSuchAgent = text_fault (codes "NoSuchAgent") []
open_fault_words (open_fault.Damaged at) = text_fault (codes "Damaged") (at ∷ [])
open_fault_words (open_fault.WrongPlan at) = text_fault (codes "WrongPlan") (at ∷ [])
open_fault_words open_fault.TooLong = text_fault (codes "TooLong") []
open_fault_words open_fault.TapeFailed = failed failure.TapeFailed
open_fault_words (open_fault.WrongAgent at) = text_fault (codes "WrongAgent") (at ∷ [])
open_fault_words open_fault.NoRoom = text_fault (codes "NoRoom") []

-- as `Waits 0 1`: the agent that is waited for, and how many moves of it
abbrev pub refusal_words : Refusal → Words
refusal_words refusal.Broken = text_fault (codes "Broken") []
refusal_words refusal.AlreadyMoving = text_fault (codes "AlreadyMoving") []
refusal_words refusal.AtEnd = text_fault (codes "AtEnd") []
refusal_words (refusal.Waits agent count) = text_fault (codes "Waits") (agent ∷ count ∷ [])
refusal_words refusal.NotMoving = text_fault (codes "NotMoving") []
refusal_words refusal.StoreFailed = failed failure.StoreFailed

abbrev pub hear_fault_words : HearFault → Words
hear_fault_words (hear_fault.Message fault) = msg_fault_words fault
hear_fault_words hear_fault.WrongPlan = text_fault (codes "WrongPlan") []
hear_fault_words hear_fault.NoSuchAgent = text_fault (codes "NoSuchAgent") []
hear_fault_words hear_fault.TooMany = text_fault (codes "TooMany") []
hear_fault_words hear_fault.Broken = text_fault (codes "Broken") []
hear_fault_words hear_fault.OutOfMemory = failed failure.OutOfMemory

abbrev pub tell_fault_words : TellFault → Words
tell_fault_words tell_fault.Broken = text_fault (codes "Broken") []
tell_fault_words tell_fault.OutOfMemory = failed failure.OutOfMemory

abbrev pub tape_make_fault_words : TapeMakeFault → Words
tape_make_fault_words tape_make_fault.TooLong = text_fault (codes "TooLong") []
tape_make_fault_words tape_make_fault.OutOfMemory = failed failure.OutOfMemory
