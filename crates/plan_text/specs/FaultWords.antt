-- The words of the fault of a plan's text.
use Rattle.std.specs.Prelude.{[], ◌∷◌, codes}
use Rattle.text_io.specs.declared.failure.Failure.TheVariants as failure
use Rattle.text_io.specs.FaultWords.{Words, text_fault, failed}
use Rattle.plan_text.specs.declared.plan_text_fault.PlanTextFault.{PlanTextFault}
use Rattle.plan_text.specs.declared.plan_text_fault.PlanTextFault.TheVariants as plan_text_fault
use Rattle.plan_text.specs.declared.plan.PushFault.{PushFault}
use Rattle.plan_text.specs.declared.plan.PushFault.TheVariants as push_fault

-- as `BadAct 4 7`: the line, and the column
abbrev pub plan_text_fault_words : PlanTextFault → Words
plan_text_fault_words (plan_text_fault.BadHeader line) = text_fault (codes "BadHeader") (line ∷ [])
plan_text_fault_words (plan_text_fault.BadNumber line) = text_fault (codes "BadNumber") (line ∷ [])
plan_text_fault_words (plan_text_fault.TooMany line) = text_fault (codes "TooMany") (line ∷ [])
plan_text_fault_words (plan_text_fault.BadAgent line) = text_fault (codes "BadAgent") (line ∷ [])
plan_text_fault_words (plan_text_fault.BadAct line column) =
    text_fault (codes "BadAct") (line ∷ column ∷ [])
plan_text_fault_words (plan_text_fault.Unfinished line) =
    text_fault (codes "Unfinished") (line ∷ [])
plan_text_fault_words (plan_text_fault.TextAfter line) = text_fault (codes "TextAfter") (line ∷ [])
plan_text_fault_words plan_text_fault.ReadFailed = failed failure.ReadFailed
plan_text_fault_words plan_text_fault.OutOfMemory = failed failure.OutOfMemory

abbrev pub push_fault_words : PushFault → Words
push_fault_words push_fault.TooMany = text_fault (codes "TooMany") []
push_fault_words push_fault.OutOfMemory = failed failure.OutOfMemory
