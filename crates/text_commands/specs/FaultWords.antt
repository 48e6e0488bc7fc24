-- The words of why a row has no answer.
use Rattle.std.specs.Prelude.{[], ◌∷◌, codes}
use Rattle.text_io.specs.declared.failure.Failure.TheVariants as failure
use Rattle.text_io.specs.FaultWords.{Words, text_fault, failed}
use Rattle.grid.specs.MapFault.{map_fault_words}
use Rattle.scenario.specs.FaultWords.{scen_fault_words}
use Rattle.walks.specs.FaultWords.{cert_fault_words}
use Rattle.text_commands.specs.declared.row_fault.RowFault.{RowFault}
use Rattle.text_commands.specs.declared.row_fault.RowFault.TheVariants as row_fault

-- as `SizeDiffers 3`: the number of the row; or the words of the fault that a text or a certificate
-- has
abbrev pub row_fault_words : RowFault → Words
row_fault_words (row_fault.Map f) = map_fault_words f
row_fault_words (row_fault.Scen f) = scen_fault_words f
row_fault_words row_fault.NoSuchRow = text_fault (codes "NoSuchRow") []
row_fault_words (row_fault.SizeDiffers number) = text_fault (codes "SizeDiffers") (number ∷ [])
row_fault_words row_fault.OutOfMemory = failed failure.OutOfMemory
row_fault_words (row_fault.Certificate f) = cert_fault_words f
