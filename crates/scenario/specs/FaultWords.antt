-- The words of a scenario's fault.
use Rattle.std.specs.Prelude.{[], ◌∷◌, codes}
use Rattle.text_io.specs.declared.failure.Failure.TheVariants as failure
use Rattle.text_io.specs.FaultWords.{Words, text_fault, failed}
use Rattle.scenario.specs.declared.scen_fault.ScenFault.{ScenFault}
use Rattle.scenario.specs.declared.scen_fault.ScenFault.TheVariants as scen_fault

-- the words of a scenario's fault, as `BadNumber 3 5`: the line, and the field
abbrev pub scen_fault_words : ScenFault → Words
scen_fault_words scen_fault.NoVersion = text_fault (codes "NoVersion") []
scen_fault_words (scen_fault.FieldCount line) = text_fault (codes "FieldCount") (line ∷ [])
scen_fault_words (scen_fault.BadNumber line field) =
    text_fault (codes "BadNumber") (line ∷ field ∷ [])
scen_fault_words (scen_fault.OutOfGrid line) = text_fault (codes "OutOfGrid") (line ∷ [])
scen_fault_words (scen_fault.BadLength line) = text_fault (codes "BadLength") (line ∷ [])
scen_fault_words scen_fault.ReadFailed = failed failure.ReadFailed
scen_fault_words scen_fault.OutOfMemory = failed failure.OutOfMemory
scen_fault_words (scen_fault.LineTooLong line) = text_fault (codes "LineTooLong") (line ∷ [])
