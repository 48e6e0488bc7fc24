-- What `mapf rows` does and answers.
use Rattle.std.specs.Prelude.{◌≡◌, ℕ, ◌+◌, ◌-◌, ◌<◌, ◌≤◌, ◌==◌, ◌&&◌}
use Rattle.std.specs.Prelude.{◌⊎◌, Bool, true, false, if◌then◌else◌, List, [], ◌∷◌}
use Rattle.std.specs.Prelude.{◌++◌, count_by, drop, length, max, sum_by, take, unwrap_or}
use Rattle.std.specs.Prelude.{Option, None, Some, Ok, Err, slice_get, codes, decimal}
use Rattle.text_io.specs.declared.counted.Counted.{Counted}
use Rattle.text_io.specs.Counted.{counted_inner, failures_of}
use Rattle.text_io.specs.FaultWords.{write_fault_words}
use Rattle.text_io.specs.Text.{space, line_feed}
use Rattle.text_io.specs.Writing.{WritesText}
use Rattle.text_io.specs.declared.sink.WriteFault.TheVariants.{WriteFailed}
use Rattle.grid.specs.Map.{Grid}
use Rattle.grid.specs.MapFault.{ReadsMap}
use Rattle.walks.specs.Certificate.{IsLeast}
use Rattle.walks.specs.declared.certificate.CertFault.TheVariants.{NotTight}
use Rattle.scenario.specs.declared.length.Length.{Length}
use Rattle.least_steps.specs.LeastSteps.{IsLeastSteps}
use Rattle.scenario.specs.Query.{Query}
use Rattle.scenario.specs.ScenFault.{ReadsScen}
use Rattle.text_commands.specs.declared.row_fault.RowFault.{RowFault}
use Rattle.text_commands.specs.declared.row_fault.RowFault.TheVariants.{Map, Scen, NoSuchRow}
use Rattle.text_commands.specs.declared.row_fault.RowFault.TheVariants.{OutOfMemory, Certificate}
use Rattle.text_commands.specs.declared.row_line.RowLine.{RowLine}
use Rattle.text_commands.specs.declared.row_line.RowLine.TheVariants.{Judged, Stepped, OtherSize}
use Rattle.text_commands.specs.declared.row_verdict.RowVerdict.{RowVerdict}
use Rattle.text_commands.specs.declared.row_verdict.RowVerdict.TheVariants.{Shortest, Unreachable}
use Rattle.text_commands.specs.declared.rows_command.RowsAsked.{RowsAsked}
use Rattle.ending.specs.declared.status.Status.{Status}
use Rattle.ending.specs.declared.status.Status.TheVariants.{Done, Fault}
use Rattle.ending.specs.Ending.{End, answered_with, gave_up, Concludes}
use Rattle.text_commands.specs.FaultWords.{row_fault_words}
use Rattle.ending.specs.Pieces.{pieces_text}
use Rattle.ending.specs.Rewriting.{EndsWriting}
use Rattle.text_commands.specs.RowCommand.{HasSizeOf, IsRowVerdictOn, row_verdict_text}
use Rattle.std.specs.Io.KnownBytes.{Appends}

-- ---- what each row comes to

-- the verdict on the listed length of a query, by the length of the shortest walks
abbrev pub IsRowJudged : Grid → Query → RowVerdict → Type 0
IsRowJudged m q verdict =
    (shortest : Option Length) × IsLeast m q.start q.goal shortest
    × IsRowVerdictOn q.listed q.decimals shortest verdict

-- What a row comes to: it is for a map of another size; else the verdict on its listed length; or,
-- where straight steps alone count, the least number of them, or that none lead from its start to
-- its goal.
abbrev pub IsRowLine : Bool → Grid → Query → RowLine → Type 0
IsRowLine straight m q OtherSize = HasSizeOf m q → ⊥
IsRowLine straight m q (Judged verdict) =
    (straight ≡ false) × HasSizeOf m q × IsRowJudged m q verdict
IsRowLine straight m q (Stepped least) =
    (straight ≡ true) × HasSizeOf m q × IsLeastSteps m q.start q.goal least

-- the same of each row
abbrev pub AreRowLines : Bool → Grid → List Query → List RowLine → Type 0
AreRowLines straight m [] lines = lines ≡ []
AreRowLines straight m (q ∷ queries) lines =
    (line : RowLine) × (others : List RowLine) × (lines ≡ line ∷ others)
    × IsRowLine straight m q line × AreRowLines straight m queries others

-- why a row comes to nothing: memory was refused, or what was found proves nothing
abbrev pub HasNoLine : Grid → Query → RowFault → Type 0
HasNoLine m q fault = HasSizeOf m q × ((fault ≡ OutOfMemory) ⊎ (fault ≡ Certificate NotTight))

-- the rows that are asked for: from the one number up to before the other, or all from it on
abbrev pub rows_between : Option ℕ → Option ℕ → List Query → List Query
rows_between from to rows =
    take (unwrap_or to (length rows) - unwrap_or from 0) (drop (unwrap_or from 0) rows)

-- ---- what is written

-- the line of a row, behind its number
abbrev pub row_line_text : RowLine → List ℕ
row_line_text (Judged verdict) = row_verdict_text verdict
row_line_text (Stepped (Some n)) = codes "least " ++ decimal n ++ line_feed ∷ []
row_line_text (Stepped None) = codes "unreachable" ++ line_feed ∷ []
row_line_text OtherSize = codes "SizeDiffers" ++ line_feed ∷ []

-- the lines of rows, if these are the rows from this number on
abbrev pub numbered_lines : ℕ → List RowLine → List ℕ
numbered_lines number [] = []
numbered_lines number (line ∷ lines) =
    (decimal number ++ (space ∷ row_line_text line)) ++ numbered_lines (number + 1) lines

abbrev pub is_agreed : RowLine → Bool
is_agreed (Judged (Shortest length listed agrees)) = agrees
is_agreed line = false

abbrev pub is_otherwise : RowLine → Bool
is_otherwise (Judged (Shortest length listed agrees)) = if agrees then false else true
is_otherwise line = false

abbrev pub is_unreached : RowLine → Bool
is_unreached (Judged Unreachable) = true
is_unreached (Stepped None) = true
is_unreached line = false

abbrev pub has_other_size : RowLine → Bool
has_other_size OtherSize = true
has_other_size line = false

abbrev pub steps_of : RowLine → ℕ
steps_of (Stepped (Some n)) = n
steps_of line = 0

abbrev pub most_steps : List RowLine → ℕ
most_steps [] = 0
most_steps (line ∷ lines) = max (steps_of line) (most_steps lines)

-- The last line: how many rows there are, and how many of each kind, as `rows 9 agree 7 differ 0
-- unreachable 1 size 1`; or of straight steps their sum and the greatest of them, as `rows 9 sum 40
-- greatest 7 unreachable 1 size 1`.
abbrev pub rows_last_line : Bool → List RowLine → List ℕ
rows_last_line false lines =
    pieces_text ((codes "rows ", length lines) ∷ (codes " agree ", count_by is_agreed lines)
    ∷ (codes " differ ", count_by is_otherwise lines)
    ∷ (codes " unreachable ", count_by is_unreached lines) ∷ (
      codes " size ",
      count_by has_other_size lines,
    ) ∷ [])
    ++ line_feed ∷ []
rows_last_line true lines =
    pieces_text ((codes "rows ", length lines) ∷ (codes " sum ", sum_by steps_of lines)
    ∷ (codes " greatest ", most_steps lines)
    ∷ (codes " unreachable ", count_by is_unreached lines) ∷ (
      codes " size ",
      count_by has_other_size lines,
    ) ∷ [])
    ++ line_feed ∷ []

-- all that is written: a line for each row, and the last line
abbrev pub rows_text : Bool → ℕ → List RowLine → List ℕ
rows_text straight number lines = numbered_lines number lines ++ rows_last_line straight lines

-- well only where each row agrees, or has a least number of straight steps
abbrev pub rows_status : Bool → List RowLine → Status
rows_status straight lines =
    if (count_by is_otherwise lines == 0)
    && ((count_by is_unreached lines == 0) && (count_by has_other_size lines == 0)) then
    Done else Fault

-- ---- how it ends

-- Some of the rows, from the first on, came to these lines, and the command ended by that: all did,
-- and their text was written, or a beginning of it where the output failed; or the output failed
-- before, and took a beginning of the lines; or the next row came to nothing, and the lines of
-- those before it were written whole.
pub record EndsByJudging
    {W : Type 0} (contents : W → Option (List ℕ)) (straight : Bool) (m : Grid)
    (queries : List Query) (number : ℕ)
    (old new : Counted W) (end : End) : Type 0 where
  pub done : ℕ
  pub lines : List RowLine
  pub are_lines : AreRowLines straight m (take done queries) lines
  pub ends :
      ((length queries ≤ done)
      × EndsWriting contents old new (answered_with (rows_status straight lines)) end
      (rows_text straight number lines))
      ⊎ (((end ≡ gave_up (write_fault_words WriteFailed))
      × WritesText false (contents (counted_inner old)) (contents (counted_inner new))
      (failures_of old) (failures_of new) (numbered_lines number lines))
      ⊎ ((q : Query) × (fault : RowFault) × (slice_get queries done ≡ Some q) × HasNoLine m q fault
      × (end ≡ gave_up (row_fault_words fault))
      × WritesText true (contents (counted_inner old)) (contents (counted_inner new))
      (failures_of old) (failures_of new) (numbered_lines number lines)))

-- a text that could not be read, or a first row past the last: nothing is written
abbrev pub EndsUnjudged : {W : Type 0} → Counted W → Counted W → End → RowFault → Type 0
EndsUnjudged old new end fault = (end ≡ gave_up (row_fault_words fault)) × (new ≡ old)

-- The map was read, and then the scenario, and then the rows that are asked for were judged, and
-- the command ended by that. Memory may also be refused before the first row.
abbrev pub AnswersRows
    : {R S W : Type 0} → (R → Option (List ℕ)) → (S → Option (List ℕ))
    → (W → Option (List ℕ)) → RowsAsked
    → Counted R → Counted R → Counted S → Counted S → Counted W → Counted W → End → Type 0
AnswersRows {R} {S} {W} map_left scen_left contents asked old_map new_map old_scen new_scen
    old new end =
    ((fault : _) × ReadsMap map_left old_map new_map (Err fault) × (new_scen ≡ old_scen)
    × EndsUnjudged old new end (Map fault))
    ⊎ ((m : Grid) × ReadsMap map_left old_map new_map (Ok m)
    × (((fault : _) × ReadsScen scen_left old_scen new_scen (Err fault)
    × EndsUnjudged old new end (Scen fault))
    ⊎ ((rows : List Query) × ReadsScen scen_left old_scen new_scen (Ok rows)
    × (((length rows < unwrap_or asked.from 0) × EndsUnjudged old new end NoSuchRow)
    ⊎ ((unwrap_or asked.from 0 ≤ length rows)
    × (EndsUnjudged old new end OutOfMemory
    ⊎ EndsByJudging contents asked.straight m (rows_between asked.from asked.to rows)
    (unwrap_or asked.from 0) old new end))))))

-- ---- progress

-- progress goes behind what the error output has, where it is shown; else that is left alone
abbrev pub ShowsProgress
    : {E : Type 0} → (E → Option (List ℕ)) → Bool → Counted E → Counted E → Type 0
ShowsProgress contents false old new = new ≡ old
ShowsProgress contents true old new =
    (more : List ℕ) × Appends (contents (counted_inner old)) (contents (counted_inner new)) more

-- the command ended so, with its progress on the error output, and the exit status and what is told
-- behind that are by its ending
pub record ShowsEndsAndTells
    {E : Type 0} (Ends : End → Type 0) (contents : E → Option (List ℕ)) (shown : Bool)
    (old new : Counted E) (code : ℕ) : Type 0 where
  pub end : End
  pub ends : Ends end
  pub so_far : Counted E
  pub shows : ShowsProgress contents shown old so_far
  pub concludes : Concludes contents so_far new code end
