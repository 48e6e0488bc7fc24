-- What was taken of a source line by line, since its counted reader stood at first.
use Rattle.std.specs.Prelude.{◌≡◌, ℕ, ◌+◌, ◌<◌, ◌≤◌, List, [], ◌∷◌}
use Rattle.std.specs.Prelude.{◌++◌, length, take, Option, Result, Ok, Err}
use Rattle.std.specs.List.{AllByRecursion}
use Rattle.std.specs.Io.KnownBytes.{Consumes, IsAtEnd as IsSpent}
use Rattle.text_io.specs.declared.counted.Counted.{Counted}
use Rattle.text_io.specs.declared.source.Source.{Source}
use Rattle.text_io.specs.declared.source.Stop.{Stop}
use Rattle.text_io.specs.declared.source.Stop.TheVariants.{End, Failure}
use Rattle.text_io.specs.declared.lines.TakenLine.{TakenLine}
use Rattle.text_io.specs.declared.lines.TakenLine.TheVariants.{WithLineFeed, AtEnd, TooLong, Failed}
use Rattle.text_io.specs.Counted.{counted_inner, failures_of, Rises}
use Rattle.text_io.specs.Text.{IsLine, ended}
use Rattle.text_io.specs.Source.{at_hand, source_reader, GoesOn}
use Rattle.text_io.specs.Reading.{LineEnds, Place, at_line_feed, at_byte, at_end, JudgedAt}

-- These lines were taken, each with its LF, and nothing else. More bytes may come.
pub record HasTaken {R : Type 0} {ahead : ℕ} (remaining : R → Option (List ℕ)) (first : Counted R)
    (now : Source R ahead) (lines : List (List ℕ)) : Type 0 where
  pub delivered : List ℕ
  pub consumed : Consumes (remaining (counted_inner first))
      (remaining (counted_inner (source_reader now))) delivered
  pub in_order : delivered ≡ ended lines ++ at_hand now
  pub are_lines : AllByRecursion IsLine lines
  pub failures : failures_of (source_reader now) ≡ failures_of first
  pub goes_on : GoesOn now

-- These lines were taken, each with its LF, then the front of the next line, and nothing else. More
-- bytes may come.
pub record HasBegun
    {R : Type 0} {ahead : ℕ} (remaining : R → Option (List ℕ)) (first : Counted R)
    (now : Source R ahead) (before : List (List ℕ)) (line : List ℕ) : Type 0 where
  pub delivered : List ℕ
  pub consumed : Consumes (remaining (counted_inner first))
      (remaining (counted_inner (source_reader now))) delivered
  pub in_order : delivered ≡ (ended before ++ line) ++ at_hand now
  pub are_lines : AllByRecursion IsLine before
  pub is_line : IsLine line
  pub failures : failures_of (source_reader now) ≡ failures_of first
  pub goes_on : GoesOn now

-- A line came up to a place where it is judged, after the lines before it, whatever ends the lines
-- of a format. More bytes may have come only behind a place that is a byte.
pub record HasCome
    {R : Type 0} {ahead : ℕ} (remaining : R → Option (List ℕ)) (first : Counted R)
    (now : Source R ahead) (place : Place) (before : List (List ℕ))
    (line : List ℕ) : Type 0 where
  pub delivered : List ℕ
  pub consumed : Consumes (remaining (counted_inner first))
      (remaining (counted_inner (source_reader now))) delivered
  pub front : List ℕ
  pub rest : List ℕ
  pub bytes : delivered ≡ front ++ rest
  pub judged : (ends : LineEnds) → JudgedAt ends place before line front
  pub whole : place ≡ at_end → rest ≡ []

-- The next line was taken, and its LF.
pub record LineEnded
    {R : Type 0} {ahead : ℕ} (remaining : R → Option (List ℕ)) (first : Counted R)
    (now : Source R ahead) (before : List (List ℕ)) (room : List ℕ)
    (count : ℕ) : Type 0 where
  pub in_room : count ≤ length room
  pub taken : HasTaken remaining first now (before ++ take count room ∷ [])
  pub come : HasCome remaining first now at_line_feed before (take count room)
  pub failures : failures_of (source_reader now) ≡ failures_of first

-- What stands between the last LF and the end of the input was taken, perhaps nothing.
pub record InputEnded
    {R : Type 0} {ahead : ℕ} (remaining : R → Option (List ℕ)) (first : Counted R)
    (now : Source R ahead) (before : List (List ℕ)) (room : List ℕ)
    (count : ℕ) : Type 0 where
  pub in_room : count ≤ length room
  pub come : HasCome remaining first now at_end before (take count room)
  pub spent : IsSpent (remaining (counted_inner (source_reader now)))
  pub failures : failures_of (source_reader now) ≡ failures_of first

-- One byte more of the next line was taken than there is room for, and nothing behind it.
pub record LineTooLong
    {R : Type 0} {ahead : ℕ} (remaining : R → Option (List ℕ)) (first : Counted R)
    (now : Source R ahead) (before : List (List ℕ)) (room : List ℕ) : Type 0 where
  pub line : List ℕ
  pub length_is : length line ≡ length room + 1
  pub begun : HasBegun remaining first now before line
  pub come : HasCome remaining first now at_byte before line
  pub failures : failures_of (source_reader now) ≡ failures_of first

-- The reader failed within the next line, and all that it delivered was taken.
pub record ReaderFailed
    {R : Type 0} {ahead : ℕ} (remaining : R → Option (List ℕ)) (first : Counted R)
    (now : Source R ahead) (before : List (List ℕ)) (room : List ℕ) : Type 0 where
  pub line : List ℕ
  pub in_room : length line ≤ length room
  pub come : HasCome remaining first now at_end before line
  pub failures : Rises (failures_of first) (failures_of (source_reader now))

-- what taking the next line left in the room and of the source
abbrev pub LineTaken : {R : Type 0} {ahead : ℕ} → (R → Option (List ℕ)) → Counted R → Source R ahead
    → List (List ℕ) → List ℕ → TakenLine → Type 0
LineTaken remaining first now before room (WithLineFeed count) =
    LineEnded remaining first now before room count
LineTaken remaining first now before room (AtEnd count) =
    InputEnded remaining first now before room count
LineTaken remaining first now before room TooLong = LineTooLong remaining first now before room
LineTaken remaining first now before room Failed = ReaderFailed remaining first now before room

-- What passing over the rest of a line leaves, of which the front was taken: its LF came, or the
-- end of the input, or the reader failed before either.
abbrev pub LinePassed
    : {R : Type 0} {ahead : ℕ} → (R → Option (List ℕ)) → Counted R → Source R ahead → List (List ℕ)
    → List ℕ → Result Unit Stop → Type 0
LinePassed remaining first now before front (Ok done) =
    (more : List ℕ) × HasTaken remaining first now (before ++ (front ++ more) ∷ [])
LinePassed remaining first now before front (Err End) =
    (more : List ℕ) × HasCome remaining first now at_end before (front ++ more)
    × IsSpent (remaining (counted_inner (source_reader now)))
    × (failures_of (source_reader now) ≡ failures_of first)
LinePassed remaining first now before front (Err Failure) =
    (more : List ℕ) × HasCome remaining first now at_end before (front ++ more)
    × Rises (failures_of first) (failures_of (source_reader now))

-- A line that its LF ended leaves fewer bytes that can come, by all of its own at the least.
abbrev pub LeavesLess : TakenLine → ℕ → ℕ → Type 0
LeavesLess (WithLineFeed count) old new = new + count < old
LeavesLess _ old new = new ≤ old

-- So does a line whose LF was passed.
abbrev pub PassesLess : Result Unit Stop → ℕ → ℕ → Type 0
PassesLess (Ok done) old new = new < old
PassesLess (Err stop) old new = new ≤ old
