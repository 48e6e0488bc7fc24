-- How the command ends by what came of the rows.
use Rattle.std.specs.Prelude.{◌≡◌, ℕ, ◌⊎◌, true, false, List, take}
use Rattle.std.specs.Prelude.{Option, Some, Result, Ok, Err, slice_get}
use Rattle.text_io.specs.FaultWords.{write_fault_words}
use Rattle.text_io.specs.Counted.{counted_inner, failures_of}
use Rattle.text_io.specs.Writing.{WritesText}
use Rattle.text_io.specs.declared.counted.Counted.{Counted}
use Rattle.text_io.specs.declared.sink.WriteFault.TheVariants as write_fault
use Rattle.scenario.specs.Query.{Query}
use Rattle.text_commands.specs.declared.row_line.RowLine.{RowLine}
use Rattle.text_commands.specs.declared.rows_fault.RowsFault.{RowsFault}
use Rattle.text_commands.specs.declared.rows_fault.RowsFault.TheVariants.{Row, WriteFailed}
use Rattle.text_commands.specs.declared.tally.Tally.{Tally}
use Rattle.text_commands.specs.Code.Judging.{Judgement}
use Rattle.text_commands.specs.Code.Tallies.{IsTally, tally_status}
use Rattle.ending.specs.Ending.{End, answered_with, gave_up}
use Rattle.text_commands.specs.FaultWords.{row_fault_words}
use Rattle.text_commands.specs.RowsCommand.{AreRowLines, HasNoLine, numbered_lines, rows_text}

abbrev pub EndsAsTold : Result Tally RowsFault → End → Type 0
EndsAsTold (Ok tally) end = end ≡ answered_with (tally_status tally)
EndsAsTold (Err (Row fault)) end = end ≡ gave_up (row_fault_words fault)
EndsAsTold (Err WriteFailed) end = end ≡ gave_up (write_fault_words write_fault.WriteFailed)

-- All rows were judged and their text was written; or the lines of some were, and the next came to
-- nothing; or the output failed, and has a beginning of the lines of some, or of the whole text.
abbrev pub WritesRows
    : {W : Type 0} → (W → Option (List ℕ)) → Judgement → List Query → ℕ → Counted W → Counted W
    → Result Tally RowsFault → Type 0
WritesRows contents j queries number old new (Ok tally) =
    (lines : List RowLine) × AreRowLines j.straight j.map queries lines × IsTally lines tally
    × WritesText true (contents (counted_inner old)) (contents (counted_inner new))
    (failures_of old) (failures_of new) (rows_text j.straight number lines)
WritesRows contents j queries number old new (Err (Row fault)) =
    (done : ℕ) × (lines : List RowLine) × (q : Query)
    × AreRowLines j.straight j.map (take done queries) lines × (slice_get queries done ≡ Some q)
    × HasNoLine j.map q fault
    × WritesText true (contents (counted_inner old)) (contents (counted_inner new))
    (failures_of old) (failures_of new) (numbered_lines number lines)
WritesRows contents j queries number old new (Err WriteFailed) =
    ((done : ℕ) × (lines : List RowLine) × AreRowLines j.straight j.map (take done queries) lines
    × WritesText false (contents (counted_inner old)) (contents (counted_inner new))
    (failures_of old) (failures_of new) (numbered_lines number lines))
    ⊎ ((lines : List RowLine) × AreRowLines j.straight j.map queries lines
    × WritesText false (contents (counted_inner old)) (contents (counted_inner new))
    (failures_of old) (failures_of new) (rows_text j.straight number lines))
