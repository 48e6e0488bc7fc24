-- How the reader of a map follows the lines of its text, from one state of its source to a later
-- one.
use Rattle.std.specs.Prelude.{◌≡◌, ◌≢◌, ℕ, ◌+◌, ◌<◌, ◌≤◌, ◌⊎◌, zero, suc, min}
use Rattle.std.specs.Prelude.{true, false, IsTrue, List, [], ◌∷◌, ◌++◌, length, Option}
use Rattle.std.specs.List.{list_all, AllByRecursion}
use Rattle.text_io.specs.declared.source.Source.{Source}
use Rattle.grid.specs.declared.header_line.HeaderLine.{HeaderLine}
use Rattle.grid.specs.declared.header_line.Saying.TheVariants.{Whole, Size, NoSize}
use Rattle.grid.specs.declared.map_reader.LineEnd.{LineEnd}
use Rattle.grid.specs.declared.map_reader.LineEnd.TheVariants.{Line, Input, Other, Failure}
use Rattle.grid.specs.declared.map_fault.MapFault.{MapFault}
use Rattle.grid.specs.declared.map_fault.MapFault.TheVariants.{BadHeader, BadNumber, TooLarge}
use Rattle.grid.specs.declared.map_fault.MapFault.TheVariants.{BadTerrain, ShortRow, MissingRows}
use Rattle.grid.specs.declared.map_fault.MapFault.TheVariants.{ReadFailed, OutOfMemory}
use Rattle.text_io.specs.Counted.{greatest}
use Rattle.text_io.specs.Text.{line_feed, carriage_return, is_line_byte, IsLine, ended}
use Rattle.grid.specs.Terrain.{is_terrain}
use Rattle.text_io.specs.Source.{Takes, IsAtEnd, GoesOn, has_failed, at_hand}
use Rattle.text_io.specs.Reading.{LeadsBy, Place, at_line_feed, at_byte, at_end}
use Rattle.grid.specs.MapText.{IsRowOf, is_rest_byte}
use Rattle.grid.specs.MapFault.{MapDue, type_due, height_due, width_due}
use Rattle.grid.specs.MapFault.{map_due, rows_due, MapFollows, HasMapFault}
use Rattle.grid.specs.Code.HeaderLine.{saying_of}

-- the lines of a map's text are right, one after another
abbrev pub MapLeads : MapDue → List (List ℕ) → MapDue → Type 0
MapLeads = LeadsBy MapFollows

-- the beginning of a line that is due, in which no fault is judged yet
abbrev pub IsLineOpen : MapDue → List ℕ → Type 0
IsLineOpen type_due line = IsLine line
IsLineOpen height_due line = IsLine line
IsLineOpen (width_due height) line = IsLine line
IsLineOpen (map_due width height) line = IsLine line
IsLineOpen (rows_due width zero) line = IsTrue (list_all is_rest_byte line)
IsLineOpen (rows_due width (suc count)) line =
    (characters : List ℕ) × (length characters ≤ width) × IsTrue (list_all is_terrain characters)
    × IsRowOf characters line

-- right lines, and the beginning of the one that is due then
pub record IsUndecided (text : List ℕ) : Type 0 where
  pub before : List (List ℕ)
  pub line : List ℕ
  pub due : MapDue
  pub bytes : text ≡ ended before ++ line
  pub are_lines : AllByRecursion IsLine before
  pub right : MapLeads type_due before due
  pub is_open : IsLineOpen due line

-- From old to new a line was taken, with the LF that ended it, or up to the end of the input.
abbrev pub TakesLine : {R : Type 0} {ahead : ℕ} → (R → Option (List ℕ)) → Source R ahead
    → Source R ahead → List ℕ → Type 0
TakesLine remaining old new line =
    IsLine line × ((Takes remaining old new (line ++ line_feed ∷ []) × GoesOn new)
    ⊎ (Takes remaining old new line × IsAtEnd new))

-- The same of lines: each was ended by its LF, or the end of the input ended the last, which was
-- not empty.
abbrev pub TakesLines : {R : Type 0} {ahead : ℕ} → (R → Option (List ℕ)) → Source R ahead
    → Source R ahead → List (List ℕ) → Type 0
TakesLines remaining old new lines =
    Takes remaining old new (ended lines)
    ⊎ ((front : List (List ℕ)) × (last : List ℕ) × (lines ≡ front ++ last ∷ []) × (0 < length last)
    × Takes remaining old new (ended front ++ last) × IsAtEnd new)

-- From old to new right lines were taken, from what was due at first to what is due at last.
pub record TakesRight {R : Type 0} {ahead : ℕ} (remaining : R → Option (List ℕ))
    (old new : Source R ahead) (first last : MapDue) (lines : List (List ℕ)) : Type 0 where
  pub are_lines : AllByRecursion IsLine lines
  pub right : MapLeads first lines last
  pub taken : TakesLines remaining old new lines
  pub well : has_failed new ≡ false

-- the bytes up to a place were taken, where a line is judged after others
abbrev pub TakesUpTo : {R : Type 0} {ahead : ℕ} → (R → Option (List ℕ)) → Source R ahead
    → Source R ahead → Place → List (List ℕ) → List ℕ → Type 0
TakesUpTo remaining old new at_line_feed before line =
    Takes remaining old new (ended before ++ (line ++ line_feed ∷ []))
TakesUpTo remaining old new at_byte before line =
    Takes remaining old new (ended before ++ line) × (0 < length line)
TakesUpTo remaining old new at_end before line =
    IsAtEnd new × ((Takes remaining old new (ended before ++ line) × (0 < length line))
    ⊎ (TakesLines remaining old new before × (line ≡ [])))

-- the number of the line after so many others and these
abbrev pub number_after : ℕ → List (List ℕ) → ℕ
number_after skipped before = min (skipped + length before + 1) greatest

-- From old to new the bytes up to the place of a fault were taken, where so many lines stand before
-- the first that is due.
pub record TakesFault {R : Type 0} {ahead : ℕ} (remaining : R → Option (List ℕ))
    (old new : Source R ahead) (first : MapDue) (skipped : ℕ) (fault : MapFault) : Type 0 where
  pub before : List (List ℕ)
  pub line : List ℕ
  pub due : MapDue
  pub place : Place
  pub are_lines : AllByRecursion IsLine before
  pub is_line : IsLine line
  pub right : MapLeads first before due
  pub faulty : HasMapFault fault place due (number_after skipped before) line
  pub taken : TakesUpTo remaining old new place before line
  pub well : has_failed new ≡ false

-- From old to new the reader failed, and what was taken before decides no fault.
pub record TakesFailure {R : Type 0} {ahead : ℕ} (remaining : R → Option (List ℕ))
    (old new : Source R ahead) (first : MapDue) : Type 0 where
  pub before : List (List ℕ)
  pub line : List ℕ
  pub due : MapDue
  pub are_lines : AllByRecursion IsLine before
  pub right : MapLeads first before due
  pub is_open : IsLineOpen due line
  pub taken : Takes remaining old new (ended before ++ line)
  pub failed : has_failed new ≡ true

-- From old to new memory was refused.
pub record TakesRefusal {R : Type 0} {ahead : ℕ} (remaining : R → Option (List ℕ))
    (old new : Source R ahead) : Type 0 where
  pub text : List ℕ
  pub taken : Takes remaining old new text
  pub well : has_failed new ≡ false

-- why the reader of a map stopped, where a line was due and so many lines stood before it
abbrev pub StopsReading : {R : Type 0} {ahead : ℕ} → (R → Option (List ℕ)) → Source R ahead
    → Source R ahead → MapDue → ℕ → MapFault → Type 0
StopsReading remaining old new first skipped ReadFailed = TakesFailure remaining old new first
StopsReading remaining old new first skipped OutOfMemory = TakesRefusal remaining old new
StopsReading remaining old new first skipped fault =
    TakesFault remaining old new first skipped fault

-- the reader failed inside a line of the header
abbrev pub FailsInLine
    : {R : Type 0} {ahead : ℕ} → (R → Option (List ℕ)) → Source R ahead → Source R ahead → Type 0
FailsInLine remaining old new =
    (line : List ℕ) × IsLine line × Takes remaining old new line × (has_failed new ≡ true)

-- the line says no words, or no size up to the greatest
abbrev pub SaysNoWords : HeaderLine → List ℕ → Type 0
SaysNoWords kind line = saying_of kind line ≡ Whole → ⊥

-- what is wrong with a line that should say a size
abbrev pub SaysNoSize : HeaderLine → ℕ → ℕ → List ℕ → MapFault → Type 0
SaysNoSize kind most number line (BadHeader at) =
    (at ≡ number) × ((n : ℕ) → saying_of kind line ≡ Size n → ⊥)
    × (saying_of kind line ≡ NoSize → ⊥)
SaysNoSize kind most number line (BadNumber at) =
    (at ≡ number) × ((saying_of kind line ≡ Size 0) ⊎ (saying_of kind line ≡ NoSize))
SaysNoSize kind most number line (TooLarge at) =
    (at ≡ number) × (n : ℕ) × (saying_of kind line ≡ Size n) × (most < n)
SaysNoSize kind most number line _ = ⊥

-- no terrain character can come: the reader stopped, or another byte is at hand
abbrev pub HasNoTerrain : {R : Type 0} {ahead : ℕ} → Source R ahead → Type 0
HasNoTerrain s =
    (GoesOn s → ⊥) ⊎ ((b : ℕ) × (rest : List ℕ) × (at_hand s ≡ b ∷ rest) × (is_terrain b ≡ false))

-- nothing, or the CR before a line's LF
abbrev pub IsRowEnd : List ℕ → Type 0
IsRowEnd ending = (ending ≡ []) ⊎ (ending ≡ carriage_return ∷ [])

-- From old to new a byte was taken that is no line end, or a CR and a byte that makes it none.
abbrev pub TakesOther
    : {R : Type 0} {ahead : ℕ} → (R → Option (List ℕ)) → Source R ahead → Source R ahead → Type 0
TakesOther remaining old new =
    (b : ℕ) × IsTrue (is_line_byte b) × GoesOn new
    × ((Takes remaining old new (b ∷ []) × (b ≢ carriage_return))
    ⊎ Takes remaining old new (carriage_return ∷ b ∷ []))

-- what was taken after the characters of a row
abbrev pub EndsRow : {R : Type 0} {ahead : ℕ} → (R → Option (List ℕ)) → Source R ahead
    → Source R ahead → LineEnd → Type 0
EndsRow remaining old new Line =
    (ending : List ℕ) × IsRowEnd ending
    × ((Takes remaining old new (ending ++ line_feed ∷ []) × GoesOn new)
    ⊎ (Takes remaining old new ending × (0 < length ending) × IsAtEnd new))
EndsRow remaining old new Input = Takes remaining old new [] × IsAtEnd new
EndsRow remaining old new Other = TakesOther remaining old new
EndsRow remaining old new Failure =
    (ending : List ℕ) × IsRowEnd ending × Takes remaining old new ending × (has_failed new ≡ true)

-- why a row with so few characters has no more of them
abbrev pub StopsRow : {R : Type 0} {ahead : ℕ} → (R → Option (List ℕ)) → Source R ahead
    → Source R ahead → ℕ → ℕ → MapFault → Type 0
StopsRow remaining old new number count (MissingRows at) =
    (at ≡ number) × (count ≡ 0) × EndsRow remaining old new Input
StopsRow remaining old new number count (ShortRow at) =
    (at ≡ number) × (EndsRow remaining old new Line
    ⊎ ((0 < count) × EndsRow remaining old new Input))
StopsRow remaining old new number count (BadTerrain at column) =
    (at ≡ number) × (column ≡ count + 1) × TakesOther remaining old new
StopsRow remaining old new number count ReadFailed = EndsRow remaining old new Failure
StopsRow remaining old new number count _ = ⊥

-- From old to new a whole row was taken, and its characters.
pub record TakesRow {R : Type 0} {ahead : ℕ} (remaining : R → Option (List ℕ))
    (old new : Source R ahead) (width : ℕ) (row : List ℕ) : Type 0 where
  pub line : List ℕ
  pub is_line : IsLine line
  pub bytes : IsRowOf row line
  pub count : length row ≡ width
  pub terrain : IsTrue (list_all is_terrain row)
  pub taken : TakesLines remaining old new (line ∷ [])
  pub well : has_failed new ≡ false

-- each line has the next characters, as many as the width
abbrev pub HaveRows : ℕ → List ℕ → List (List ℕ) → Type 0
HaveRows width characters [] = characters ≡ []
HaveRows width characters (line ∷ lines) =
    (row rest : List ℕ) × (characters ≡ row ++ rest) × (length row ≡ width)
    × IsTrue (list_all is_terrain row) × IsRowOf row line × HaveRows width rest lines

-- From old to new so many rows were taken, and their characters.
pub record TakesRows {R : Type 0} {ahead : ℕ} (remaining : R → Option (List ℕ))
    (old new : Source R ahead) (width count : ℕ) (characters : List ℕ) : Type 0 where
  pub lines : List (List ℕ)
  pub are_lines : AllByRecursion IsLine lines
  pub rows : HaveRows width characters lines
  pub length_is : length lines ≡ count
  pub taken : TakesLines remaining old new lines
  pub well : has_failed new ≡ false
