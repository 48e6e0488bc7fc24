-- What a reader of any text format answers, by the format's grammar and its faults.
use Rattle.std.specs.Prelude.{◌≡◌, ℕ, ◌+◌, min, length, ◌<◌, ◌⊎◌, List}
use Rattle.std.specs.Prelude.{[], ◌∷◌, ◌++◌, length, Option, true, false, ⊤}
use Rattle.std.specs.List.{AllByRecursion}
use Rattle.std.specs.Io.KnownBytes.{Consumes, IsAtEnd}
use Rattle.text_io.specs.Counted.{greatest, Rises}
use Rattle.text_io.specs.Text.{IsLine, lines_of, ended, ends_in_line_feed}

-- Where a fault is judged: at the LF of a line, at another byte of it, or at the end of the input.
pub data Place : Type 0 where
  at_line_feed at_byte at_end : Place

-- What ends a line in the texts of a format: an LF or the end of the input, or an LF alone, so that
-- a line without one is never right.
pub data LineEnds : Type 0 where
  by_input by_line_feed : LineEnds

-- The text ends in the line, after the lines before it. Where it ended before anything of that line
-- came, the line is empty; the last of the lines before may lack its LF then, if the end of the
-- input ends a line.
abbrev pub StopsIn : LineEnds → List (List ℕ) → List ℕ → List ℕ → Type 0
StopsIn by_input before line text =
    ((lines_of text ≡ before ++ line ∷ []) × (ends_in_line_feed text ≡ false))
    ⊎ ((lines_of text ≡ before) × (line ≡ []))
StopsIn by_line_feed before line text =
    (text ≡ ended before ++ line) × AllByRecursion IsLine before × IsLine line

-- text goes up to a place where line is judged, after the lines before it
abbrev pub JudgedAt : LineEnds → Place → List (List ℕ) → List ℕ → List ℕ → Type 0
JudgedAt ends at_line_feed before line text =
    (lines_of text ≡ before ++ line ∷ []) × (ends_in_line_feed text ≡ true)
JudgedAt ends at_byte before line text =
    (lines_of text ≡ before ++ line ∷ []) × (ends_in_line_feed text ≡ false)
JudgedAt ends at_end before line text = StopsIn ends before line text

-- Where the line stands among the lines of a text: with its LF, as the beginning of a line, or as
-- what the end of the text ends.
abbrev pub StandsIn : LineEnds → Place → List (List ℕ) → List ℕ → List ℕ → Type 0
StandsIn ends at_line_feed before line text =
    (after : List (List ℕ)) × (lines_of text ≡ before ++ line ∷ after)
    × (after ≡ [] → ends_in_line_feed text ≡ true)
StandsIn ends at_byte before line text =
    (0 < length line) × (more : List ℕ) × (after : List (List ℕ))
    × (lines_of text ≡ before ++ (line ++ more) ∷ after)
StandsIn ends at_end before line text = StopsIn ends before line text

-- the line is judged as a whole: its LF came, or the end of the input
abbrev pub IsOver : Place → Type 0
IsOver at_line_feed = ⊤
IsOver at_byte = ⊥
IsOver at_end = ⊤

-- the place is a byte
abbrev pub IsByte : Place → Type 0
IsByte at_line_feed = ⊤
IsByte at_byte = ⊤
IsByte at_end = ⊥

-- The lines are right, one after another, from what is due at first to what is due at last.
-- `Follows due line next` says of a format that the line is right where it is due, and what is due
-- next.
abbrev pub LeadsBy : {D : Type 0} → (D → List ℕ → D → Type 0) → D → List (List ℕ) → D → Type 0
LeadsBy Follows first [] last = last ≡ first
LeadsBy {D} Follows first (line ∷ lines) last =
    (next : D) × Follows first line next × LeadsBy Follows next lines last

-- the number of the line after these, from 1 on; it stays at the greatest value
abbrev pub line_number : List (List ℕ) → ℕ
line_number before = min (length before + 1) greatest

-- The fault stands at the place where the text ends, and the lines before are right. A format says
-- what ends its lines, and by
-- `HasFault fault place due number line` that the line, with its number, has the fault there where
-- it is due.
pub record FaultAt
    {F D : Type 0} (ends : LineEnds) (Follows : D → List ℕ → D → Type 0) (HasFault : F → Place → D
    → ℕ → List ℕ → Type 0) (first : D)
    (fault : F) (place : Place) (text : List ℕ) : Type 0 where
  pub before : List (List ℕ)
  pub line : List ℕ
  pub due : D
  pub judged : JudgedAt ends place before line text
  pub right : LeadsBy Follows first before due
  pub faulty : HasFault fault place due (line_number before) line

-- The bytes decide the fault, however the text goes on: it stands at one of them. `FaultAt f place
-- text` says of a format that f stands at the place at which text ends, and that all before it is
-- right.
abbrev pub Decides : {F : Type 0} → (F → Place → List ℕ → Type 0) → F → List ℕ → Type 0
Decides FaultAt fault bytes =
    (front rest : List ℕ) × (place : Place) × (bytes ≡ front ++ rest) × IsByte place
    × FaultAt fault place front

-- the first fault of a whole text
abbrev pub IsFirstFault : {F : Type 0} → (F → Place → List ℕ → Type 0) → F → List ℕ → Type 0
IsFirstFault FaultAt fault text = Decides FaultAt fault text ⊎ FaultAt fault at_end text

-- what a reader answered: a value, a fault of the text, that the reader failed, or that memory was
-- refused
pub data Outcome (V F : Type 0) : Type 0 where
  is_value : V → Outcome V F
  is_fault : F → Outcome V F
  is_failed is_refused : Outcome V F

-- What an outcome says of the bytes that the reader delivered, and of those that it has left.
abbrev pub OutcomeSays : {V F : Type 0} → (V → List ℕ → Type 0) → (F → Place → List ℕ → Type 0)
    → List ℕ → Option (List ℕ) → Outcome V F → Type 0
-- the whole text spells the value
OutcomeSays Spells FaultAt delivered left (is_value v) = Spells v delivered × IsAtEnd left
-- the fault is the first of every text that begins so, or of the whole text
OutcomeSays Spells FaultAt delivered left (is_fault f) =
    Decides FaultAt f delivered ⊎ (FaultAt f at_end delivered × IsAtEnd left)
-- no fault is decided
OutcomeSays {V} {F} Spells FaultAt delivered left is_failed =
    (f : F) → Decides FaultAt f delivered → ⊥
OutcomeSays Spells FaultAt delivered left is_refused = ⊤

-- the reader failed in the call exactly where the answer says so
abbrev pub FailsAs : {V F : Type 0} → Outcome V F → ℕ → ℕ → Type 0
FailsAs (is_value v) old new = new ≡ old
FailsAs (is_fault f) old new = new ≡ old
FailsAs is_failed old new = Rises old new
FailsAs is_refused old new = new ≡ old

-- A reader of texts answered by what was delivered, however it was cut: left is what a counted
-- reader had and has to give, and failures its counts.
pub record ReadsText
    {V F : Type 0} (Spells : V → List ℕ → Type 0) (FaultAt : F → Place → List ℕ → Type 0)
    (old_left new_left : Option (List ℕ)) (old_failures new_failures : ℕ)
    (outcome : Outcome V F) : Type 0 where
  pub delivered : List ℕ
  pub consumed : Consumes old_left new_left delivered
  pub answer : OutcomeSays Spells FaultAt delivered new_left outcome
  pub failures : FailsAs outcome old_failures new_failures
