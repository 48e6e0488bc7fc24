-- What judging rows owes, one after another.
use Rattle.std.specs.Prelude.{◌≡◌, ℕ, ◌⊎◌, Bool, List, [], ◌∷◌, ◌++◌}
use Rattle.std.specs.Prelude.{decimal, take, Option, Some, Result, Ok, Err, slice_get}
use Rattle.text_io.specs.Sink.{Breaks, Puts, held_back}
use Rattle.text_io.specs.Text.{space}
use Rattle.text_io.specs.declared.sink.Sink.{Sink}
use Rattle.grid.specs.Map.{Grid}
use Rattle.scenario.specs.Query.{Query}
use Rattle.text_commands.specs.declared.row_line.RowLine.{RowLine}
use Rattle.text_commands.specs.declared.rows_fault.RowsFault.{RowsFault}
use Rattle.text_commands.specs.declared.rows_fault.RowsFault.TheVariants.{Row, WriteFailed}
use Rattle.text_commands.specs.declared.tally.Tally.{Tally}
use Rattle.text_commands.specs.RowsCommand.{AreRowLines, HasNoLine, IsRowLine}
use Rattle.text_commands.specs.RowsCommand.{numbered_lines, row_line_text, rows_text}
use Rattle.text_commands.specs.Code.Tallies.{IsTally, IsTallyWith}

-- on which map rows are judged, and whether straight steps alone count
pub record Judgement : Type 0 where
  pub map : Grid
  pub straight : Bool

-- the line of a row behind its number
abbrev pub one_line : ℕ → RowLine → List ℕ
one_line number line = decimal number ++ (space ∷ row_line_text line)

-- A row was judged, its line was put and handed on, and it was counted; or it came to nothing, and
-- nothing was put; or the writer failed.
abbrev pub PutsRow : {W : Type 0} → (W → Option (List ℕ)) → Judgement → Query → ℕ → Tally → Sink W
    → Sink W → Result Tally RowsFault → Type 0
PutsRow contents j q number before old new (Ok tally) =
    (line : RowLine) × IsRowLine j.straight j.map q line × IsTallyWith before line tally
    × Puts contents old new (one_line number line) × (held_back new ≡ [])
PutsRow contents j q number before old new (Err (Row fault)) = HasNoLine j.map q fault × (new ≡ old)
PutsRow contents j q number before old new (Err WriteFailed) =
    (line : RowLine) × IsRowLine j.straight j.map q line
    × Breaks contents old new (one_line number line)

-- some rows came to these lines, which were put and handed on, and counted
pub record HavePut {W : Type 0} (contents : W → Option (List ℕ)) (j : Judgement)
    (queries : List Query) (number : ℕ) (old new : Sink W) (tally : Tally) : Type 0 where
  pub lines : List RowLine
  pub are_lines : AreRowLines j.straight j.map queries lines
  pub is_tally : IsTally lines tally
  pub puts : Puts contents old new (numbered_lines number lines)
  pub none_held : held_back new ≡ []

-- The same of all rows; or the lines of some were put, and the next comes to nothing; or the writer
-- failed, and took a beginning of the lines of some.
abbrev pub PutsRows : {W : Type 0} → (W → Option (List ℕ)) → Judgement → List Query → ℕ → Sink W
    → Sink W → Result Tally RowsFault → Type 0
PutsRows contents j queries number old new (Ok tally) =
    HavePut contents j queries number old new tally
PutsRows contents j queries number old new (Err (Row fault)) =
    (done : ℕ) × (tally : Tally) × (q : Query)
    × HavePut contents j (take done queries) number old new tally
    × (slice_get queries done ≡ Some q) × HasNoLine j.map q fault
PutsRows contents j queries number old new (Err WriteFailed) =
    (done : ℕ) × (lines : List RowLine) × AreRowLines j.straight j.map (take done queries) lines
    × Breaks contents old new (numbered_lines number lines)

-- the same with the last line behind them
abbrev pub PutsAllRows : {W : Type 0} → (W → Option (List ℕ)) → Judgement → List Query → ℕ → Sink W
    → Sink W → Result Tally RowsFault → Type 0
PutsAllRows contents j queries number old new (Ok tally) =
    (lines : List RowLine) × AreRowLines j.straight j.map queries lines × IsTally lines tally
    × Puts contents old new (rows_text j.straight number lines)
    × (held_back new ≡ [])
PutsAllRows contents j queries number old new (Err (Row fault)) =
    PutsRows contents j queries number old new (Err (Row fault))
PutsAllRows contents j queries number old new (Err WriteFailed) =
    PutsRows contents j queries number old new (Err WriteFailed)
    ⊎ ((lines : List RowLine) × AreRowLines j.straight j.map queries lines
    × Breaks contents old new (rows_text j.straight number lines))
