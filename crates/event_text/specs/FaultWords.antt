-- The words of the fault of a text of events.
use Rattle.std.specs.Prelude.{[], ◌∷◌, codes}
use Rattle.text_io.specs.declared.failure.Failure.TheVariants as failure
use Rattle.text_io.specs.FaultWords.{Words, text_fault, failed}
use Rattle.event_text.specs.declared.event_fault.EventFault.{EventFault}
use Rattle.event_text.specs.declared.event_fault.EventFault.TheVariants as event_fault

-- as `BadEvent 3`: the line
abbrev pub event_fault_words : EventFault → Words
event_fault_words event_fault.NoHeader = text_fault (codes "NoHeader") []
event_fault_words (event_fault.BadEvent line) = text_fault (codes "BadEvent") (line ∷ [])
event_fault_words (event_fault.Unfinished line) = text_fault (codes "Unfinished") (line ∷ [])
event_fault_words event_fault.ReadFailed = failed failure.ReadFailed
event_fault_words event_fault.OutOfMemory = failed failure.OutOfMemory
