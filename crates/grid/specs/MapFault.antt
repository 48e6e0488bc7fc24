-- The faults of a map text, and where each stands.
use Rattle.std.specs.Prelude.{◌≡◌, ◌≢◌, ℕ, ◌+◌, ◌*◌, ◌<◌, ◌⊎◌, zero, suc, false, IsTrue}
use Rattle.std.specs.Prelude.{List, [], ◌∷◌, ◌++◌, length, codes, Option, Result, Ok, Err}
use Rattle.std.specs.List.{list_all}
use Rattle.text_io.specs.declared.failure.Failure.TheVariants as failure
use Rattle.text_io.specs.FaultWords.{Words, text_fault, failed}
use Rattle.grid.specs.declared.map_fault.MapFault.{MapFault}
use Rattle.grid.specs.declared.map_fault.MapFault.TheVariants.{BadHeader, BadNumber, TooLarge}
use Rattle.grid.specs.declared.map_fault.MapFault.TheVariants.{BadTerrain, ShortRow, LongRow}
use Rattle.grid.specs.declared.map_fault.MapFault.TheVariants.{MissingRows, TextAfter, ReadFailed}
use Rattle.grid.specs.declared.map_fault.MapFault.TheVariants.{OutOfMemory}
use Rattle.text_io.specs.Text.{carriage_return, is_blank}
use Rattle.grid.specs.Terrain.{is_terrain}
use Rattle.grid.specs.Map.{Grid, IsSize}
use Rattle.grid.specs.MapText.{is_tail, IsTypeLine, IsNumberLine, IsMapLine}
use Rattle.grid.specs.MapText.{IsRowOf, is_rest_byte, MapText}
use Rattle.text_io.specs.Reading.{by_input, Place, at_byte, at_end, IsOver, FaultAt}
use Rattle.text_io.specs.Reading.{Outcome, is_value, is_fault, is_failed, is_refused, ReadsText}
use Rattle.text_io.specs.declared.counted.Counted.{Counted}
use Rattle.text_io.specs.Counted.{counted_inner, failures_of}

-- The line that is due, by what the lines before it said: one of the header, or a row of a width
-- where so many rows are due. No row is due in the blank lines after the last.
pub data MapDue : Type 0 where
  type_due height_due : MapDue
  width_due : (height : ℕ) → MapDue
  map_due rows_due : (width count : ℕ) → MapDue

-- a height that a map may have
abbrev pub IsHeight : ℕ → Type 0
IsHeight height = (0 < height) × (height < 65536)

-- a row, as long as it should be
pub record IsRow (width : ℕ) (line : List ℕ) : Type 0 where
  pub characters : List ℕ
  pub bytes : IsRowOf characters line
  pub count : length characters ≡ width
  pub terrain : IsTrue (list_all is_terrain characters)

-- the line is right where it is due, and what is due next
abbrev pub MapFollows : MapDue → List ℕ → MapDue → Type 0
MapFollows type_due line next = IsTypeLine line × (next ≡ height_due)
MapFollows height_due line next =
    (height : ℕ) × IsNumberLine (codes "height") height line × IsHeight height
    × (next ≡ width_due height)
MapFollows (width_due height) line next =
    (width : ℕ) × IsNumberLine (codes "width") width line × IsSize width height
    × (next ≡ map_due width height)
MapFollows (map_due width height) line next = IsMapLine line × (next ≡ rows_due width height)
MapFollows (rows_due width zero) line next =
    IsTrue (list_all is_rest_byte line) × (next ≡ rows_due width zero)
MapFollows (rows_due width (suc count)) line next = IsRow width line × (next ≡ rows_due width count)

-- the word, a blank, and something more before the end of the line and the blanks there
pub record HasValue (word line : List ℕ) : Type 0 where
  pub blank : ℕ
  pub more : List ℕ
  pub bytes : line ≡ word ++ blank ∷ more
  pub is_blank : IsTrue (is_blank blank)
  pub some : is_tail more ≡ false

-- the word and a number above 0
abbrev pub HasPositive : List ℕ → List ℕ → Type 0
HasPositive word line = (n : ℕ) × IsNumberLine word n line × (0 < n)

-- characters that are terrain, and fewer than the width
pub record IsBeginning (width : ℕ) (characters : List ℕ) : Type 0 where
  pub short : length characters < width
  pub terrain : IsTrue (list_all is_terrain characters)

-- characters that are terrain, as many as the width
pub record IsWholeRow (width : ℕ) (characters : List ℕ) : Type 0 where
  pub whole : length characters ≡ width
  pub terrain : IsTrue (list_all is_terrain characters)

-- after the characters comes a byte that is no line end, or a CR and then a byte that makes it none
abbrev pub RunsOver : List ℕ → List ℕ → Type 0
RunsOver characters line =
    ((b : ℕ) × (line ≡ characters ++ b ∷ []) × (b ≢ carriage_return))
    ⊎ ((b : ℕ) × (line ≡ characters ++ carriage_return ∷ b ∷ []))

-- the same where the first byte is no terrain either
abbrev pub GoesWrong : List ℕ → List ℕ → Type 0
GoesWrong characters line =
    ((b : ℕ) × (line ≡ characters ++ b ∷ []) × (b ≢ carriage_return) × (is_terrain b ≡ false))
    ⊎ ((b : ℕ) × (line ≡ characters ++ carriage_return ∷ b ∷ []))

-- The line is not what a header has there at all: another form, or for a number no word, blank and
-- something more.
abbrev pub HasOtherForm : MapDue → List ℕ → Type 0
HasOtherForm type_due line = IsTypeLine line → ⊥
HasOtherForm height_due line = HasValue (codes "height") line → ⊥
HasOtherForm (width_due height) line = HasValue (codes "width") line → ⊥
HasOtherForm (map_due width height) line = IsMapLine line → ⊥
HasOtherForm (rows_due width count) line = ⊥

-- the word, a blank and something more, which is no number above 0
abbrev pub HasOtherValue : MapDue → List ℕ → Type 0
HasOtherValue type_due line = ⊥
HasOtherValue height_due line =
    HasValue (codes "height") line × (HasPositive (codes "height") line → ⊥)
HasOtherValue (width_due height) line =
    HasValue (codes "width") line × (HasPositive (codes "width") line → ⊥)
HasOtherValue (map_due width height) line = ⊥
HasOtherValue (rows_due width count) line = ⊥

-- a number past the limits
abbrev pub HasLargeValue : MapDue → List ℕ → Type 0
HasLargeValue type_due line = ⊥
HasLargeValue height_due line = (n : ℕ) × IsNumberLine (codes "height") n line × (65535 < n)
HasLargeValue (width_due height) line =
    (n : ℕ) × IsNumberLine (codes "width") n line × ((65535 < n) ⊎ (4194304 < n * height))
HasLargeValue (map_due width height) line = ⊥
HasLargeValue (rows_due width count) line = ⊥

-- A row of the width is due.
abbrev pub IsRowDue : MapDue → ℕ → Type 0
IsRowDue due width = (count : ℕ) × (due ≡ rows_due width (suc count))

-- The fault of a line at a place, by what was due there; the row of the fault table that each fault
-- has.
abbrev pub HasMapFault : MapFault → Place → MapDue → ℕ → List ℕ → Type 0
HasMapFault (BadHeader at) place due number line =
    (at ≡ number) × IsOver place × HasOtherForm due line
HasMapFault (BadNumber at) place due number line =
    (at ≡ number) × IsOver place × HasOtherValue due line
HasMapFault (TooLarge at) place due number line =
    (at ≡ number) × IsOver place × HasLargeValue due line
HasMapFault (BadTerrain at column) place due number line =
    (at ≡ number) × (place ≡ at_byte)
    × (width : ℕ) × IsRowDue due width
    × (characters : List ℕ) × IsBeginning width characters × GoesWrong characters line
    × (column ≡ length characters + 1)
HasMapFault (ShortRow at) place due number line =
    (at ≡ number) × IsOver place
    × (width : ℕ) × IsRowDue due width
    × (characters : List ℕ) × IsBeginning width characters × IsRowOf characters line
    × (place ≡ at_end → line ≢ [])
HasMapFault (LongRow at) place due number line =
    (at ≡ number) × (place ≡ at_byte)
    × (width : ℕ) × IsRowDue due width
    × (characters : List ℕ) × IsWholeRow width characters × RunsOver characters line
HasMapFault (MissingRows at) place due number line =
    (at ≡ number) × (place ≡ at_end) × (width : ℕ) × IsRowDue due width × (line ≡ [])
HasMapFault (TextAfter at) place due number line =
    (at ≡ number) × (place ≡ at_byte)
    × (width : ℕ) × (due ≡ rows_due width zero)
    × (front : List ℕ) × (b : ℕ) × (line ≡ front ++ b ∷ []) × IsTrue (list_all is_rest_byte front)
    × (is_rest_byte b ≡ false)
HasMapFault ReadFailed place due number line = ⊥
HasMapFault OutOfMemory place due number line = ⊥

-- the fault stands at the place where the text ends, and the lines before are right
abbrev pub MapFaultAt : MapFault → Place → List ℕ → Type 0
MapFaultAt = FaultAt by_input MapFollows HasMapFault type_due

-- what `read_map` answered, as a reader's outcome
abbrev pub map_outcome : Result Grid MapFault → Outcome Grid MapFault
map_outcome (Ok m) = is_value m
map_outcome (Err (BadHeader line)) = is_fault (BadHeader line)
map_outcome (Err (BadNumber line)) = is_fault (BadNumber line)
map_outcome (Err (TooLarge line)) = is_fault (TooLarge line)
map_outcome (Err (BadTerrain line column)) = is_fault (BadTerrain line column)
map_outcome (Err (ShortRow line)) = is_fault (ShortRow line)
map_outcome (Err (LongRow line)) = is_fault (LongRow line)
map_outcome (Err (MissingRows line)) = is_fault (MissingRows line)
map_outcome (Err (TextAfter line)) = is_fault (TextAfter line)
map_outcome (Err ReadFailed) = is_failed
map_outcome (Err OutOfMemory) = is_refused

-- the map was read as `read_map` reads it, with this answer
abbrev pub ReadsMap
    : {R : Type 0} → (R → Option (List ℕ)) → Counted R → Counted R → Result Grid MapFault → Type 0
ReadsMap remaining old new answer =
    ReadsText MapText MapFaultAt (remaining (counted_inner old)) (remaining (counted_inner new))
    (failures_of old) (failures_of new) (map_outcome answer)

-- the words of a map's fault, as `BadTerrain 5 2`: the line, and the column
abbrev pub map_fault_words : MapFault → Words
map_fault_words (BadHeader line) = text_fault (codes "BadHeader") (line ∷ [])
map_fault_words (BadNumber line) = text_fault (codes "BadNumber") (line ∷ [])
map_fault_words (TooLarge line) = text_fault (codes "TooLarge") (line ∷ [])
map_fault_words (BadTerrain line column) = text_fault (codes "BadTerrain") (line ∷ column ∷ [])
map_fault_words (ShortRow line) = text_fault (codes "ShortRow") (line ∷ [])
map_fault_words (LongRow line) = text_fault (codes "LongRow") (line ∷ [])
map_fault_words (MissingRows line) = text_fault (codes "MissingRows") (line ∷ [])
map_fault_words (TextAfter line) = text_fault (codes "TextAfter") (line ∷ [])
map_fault_words ReadFailed = failed failure.ReadFailed
map_fault_words OutOfMemory = failed failure.OutOfMemory
