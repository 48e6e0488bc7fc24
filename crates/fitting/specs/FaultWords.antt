-- The words of why a plan does not solve the rows of a scenario.
use Rattle.std.specs.Prelude.{[], ◌∷◌, codes}
use Rattle.text_io.specs.FaultWords.{Words, text_fault}
use Rattle.fitting.specs.declared.fit_fault.FitFault.{FitFault}
use Rattle.fitting.specs.declared.fit_fault.FitFault.TheVariants as fit_fault

-- as `StartDiffers 0`: the agent or the row
abbrev pub fit_fault_words : FitFault → Words
fit_fault_words fit_fault.TooFewRows = text_fault (codes "TooFewRows") []
fit_fault_words fit_fault.AgentCount = text_fault (codes "AgentCount") []
fit_fault_words (fit_fault.StartDiffers agent) = text_fault (codes "StartDiffers") (agent ∷ [])
fit_fault_words (fit_fault.GoalDiffers agent) = text_fault (codes "GoalDiffers") (agent ∷ [])
fit_fault_words (fit_fault.SizeDiffers row) = text_fault (codes "SizeDiffers") (row ∷ [])
