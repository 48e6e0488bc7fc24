-- The words of why a plan doesn't go on from another.
use Rattle.std.specs.Prelude.{[], ◌∷◌, codes}
use Rattle.text_io.specs.FaultWords.{Words, text_fault}
use Rattle.continuing.specs.declared.continue_fault.ContinueFault.{ContinueFault}
use Rattle.continuing.specs.declared.continue_fault.ContinueFault.TheVariants.{OtherNumber}
use Rattle.continuing.specs.declared.continue_fault.ContinueFault.TheVariants.{OtherCount}
use Rattle.continuing.specs.declared.continue_fault.ContinueFault.TheVariants.{Departs}

-- as `Departs 0 5`: the agent and the time
abbrev pub continue_fault_words : ContinueFault → Words
continue_fault_words OtherNumber = text_fault (codes "OtherNumber") []
continue_fault_words OtherCount = text_fault (codes "OtherCount") []
continue_fault_words (Departs agent time) = text_fault (codes "Departs") (agent ∷ time ∷ [])
