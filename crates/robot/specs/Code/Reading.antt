-- What was taken of the input, and what it asks for.
use Rattle.std.specs.Prelude.{◌≡◌, ℕ, ◌<◌, ◌≤◌, List, [], ◌∷◌}
use Rattle.std.specs.Prelude.{◌++◌, length, take, Option, None, Some, ⊤}
use Rattle.std.specs.List.{AllByRecursion}
use Rattle.std.specs.Io.KnownBytes.{Consumes, IsAtEnd as IsSpent}
use Rattle.text_io.specs.declared.counted.Counted.{Counted}
use Rattle.text_io.specs.declared.source.Source.{Source}
use Rattle.text_io.specs.Counted.{counted_inner, failures_of, Rises}
use Rattle.text_io.specs.Lines.{HasTaken}
use Rattle.text_io.specs.Source.{source_reader}
use Rattle.text_io.specs.Text.{IsLine, ended}
use Rattle.robot.specs.Requests as requests
use Rattle.robot.specs.declared.request.Request.{Request}
use Rattle.robot.specs.declared.request.Request.TheVariants.{Start, Finish, Say, Tell}
use Rattle.robot.specs.declared.request.Request.TheVariants.{Held, May, Hear}
use Rattle.robot.specs.declared.input_lines.NextLine.{NextLine}
use Rattle.robot.specs.declared.input_lines.NextLine.TheVariants.{Line, LastLine, End, Failed}

-- what is asked for, where a message stands at the front of a room
abbrev pub request_in : List ℕ → Request → requests.Request
request_in room Start = requests.start
request_in room Finish = requests.finish
request_in room Say = requests.say
request_in room Tell = requests.tell
request_in room Held = requests.held
request_in room (May most) = requests.may most
request_in room (Hear count) = requests.hear (take count room)

-- the message lies in the room
abbrev pub FitsIn : List ℕ → Request → Type 0
FitsIn room (Hear count) = count ≤ length room
FitsIn room _ = ⊤

-- the line stands at the front of the room, or is longer than it
abbrev pub IsLineKept : List ℕ → List ℕ → Option ℕ → Type 0
IsLineKept line room (Some count) = (count ≤ length room) × (line ≡ take count room)
IsLineKept line room None = length room < length line

-- After the lines before it, what stands behind their last LF is a beginning of a line, and no more
-- came.
pub record HasRest
    {R : Type 0} {ahead : ℕ} (remaining : R → Option (List ℕ)) (first : Counted R)
    (now : Source R ahead) (before : List (List ℕ)) (rest : List ℕ) : Type 0 where
  pub delivered : List ℕ
  pub consumed : Consumes (remaining (counted_inner first))
      (remaining (counted_inner (source_reader now))) delivered
  pub in_order : delivered ≡ ended before ++ rest
  pub are_lines : AllByRecursion IsLine before
  pub is_line : IsLine rest

-- and there the input ended
pub record IsInputOver
    {R : Type 0} {ahead : ℕ} (remaining : R → Option (List ℕ)) (first : Counted R)
    (now : Source R ahead) (before : List (List ℕ)) (rest : List ℕ) : Type 0 where
  pub has_rest : HasRest remaining first now before rest
  pub spent : IsSpent (remaining (counted_inner (source_reader now)))
  pub failures : failures_of (source_reader now) ≡ failures_of first

-- what came after the lines before it
abbrev pub LineCame : {R : Type 0} {ahead : ℕ} → (R → Option (List ℕ)) → Counted R → Source R ahead
    → List (List ℕ) → List ℕ → NextLine → Type 0
LineCame remaining first now before room (Line kept) =
    (line : List ℕ) × IsLineKept line room kept × HasTaken remaining first now (before ++ line ∷ [])
LineCame remaining first now before room (LastLine kept) =
    (line : List ℕ) × IsLineKept line room kept × (0 < length line)
    × IsInputOver remaining first now before line
LineCame remaining first now before room End = IsInputOver remaining first now before []
LineCame remaining first now before room Failed =
    (rest : List ℕ) × HasRest remaining first now before rest
    × Rises (failures_of first) (failures_of (source_reader now))

-- a line that its LF ended leaves fewer bytes that can come
abbrev pub LeavesLessBehind : NextLine → ℕ → ℕ → Type 0
LeavesLessBehind (Line kept) old new = new < old
LeavesLessBehind _ old new = new ≤ old
