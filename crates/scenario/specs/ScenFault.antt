-- The faults of a scenario text, and where each stands.
use Rattle.std.specs.Prelude.{◌≡◌, ◌≢◌, ℕ, ◌+◌, ◌⊎◌, Bool, true, false, ◌&&◌, if◌then◌else◌, nat_lt}
use Rattle.std.specs.Prelude.{List, [], ◌∷◌, length, Option, None, Some, Result, Ok, Err}
use Rattle.std.specs.List.{list_all}
use Rattle.std.specs.Char.{is_ascii_digit}
use Rattle.std.specs.Str.Parse.{digits_value}
use Rattle.text_io.specs.Reading.{by_input, Place, at_byte, at_end, IsOver, FaultAt}
use Rattle.text_io.specs.Reading.{Outcome, is_value, is_fault, is_failed, is_refused, ReadsText}
use Rattle.text_io.specs.declared.counted.Counted.{Counted}
use Rattle.text_io.specs.Counted.{counted_inner, failures_of}
use Rattle.scenario.specs.declared.scen_fault.ScenFault.{ScenFault}
use Rattle.scenario.specs.declared.scen_fault.ScenFault.TheVariants.{NoVersion, FieldCount}
use Rattle.scenario.specs.declared.scen_fault.ScenFault.TheVariants.{BadNumber, OutOfGrid}
use Rattle.scenario.specs.declared.scen_fault.ScenFault.TheVariants.{BadLength, ReadFailed}
use Rattle.scenario.specs.declared.scen_fault.ScenFault.TheVariants.{OutOfMemory, LineTooLong}
use Rattle.scenario.specs.Fields.{content_of, fields_of}
use Rattle.scenario.specs.Query.{Query, longest_line}
use Rattle.scenario.specs.ScenText.{IsShort, IsSkipped, IsVersion}
use Rattle.scenario.specs.ScenText.{SpellsListed, SpellsRow, ScenText}

-- the line that is due: the version, or after it a row
pub data ScenDue : Type 0 where
  version_due row_due : ScenDue

-- the line is right where it is due, and what is due next
abbrev pub ScenFollows : ScenDue → List ℕ → ScenDue → Type 0
ScenFollows version_due line next =
    (IsSkipped line × (next ≡ version_due)) ⊎ (IsVersion line × (next ≡ row_due))
ScenFollows row_due line next =
    (IsSkipped line ⊎ ((q : Query) × SpellsRow q line)) × (next ≡ row_due)

-- the nine fields of a line
pub record Fields : Type 0 where
  pub bucket : List ℕ
  pub name : List ℕ
  pub width : List ℕ
  pub height : List ℕ
  pub start_x : List ℕ
  pub start_y : List ℕ
  pub goal_x : List ℕ
  pub goal_y : List ℕ
  pub listed : List ℕ

abbrev pub all_fields : Fields → List (List ℕ)
all_fields f =
    f.bucket ∷ f.name ∷ f.width ∷ f.height ∷ f.start_x ∷ f.start_y ∷ f.goal_x ∷ f.goal_y
    ∷ f.listed ∷ []

abbrev pub HasFields : List ℕ → Fields → Type 0
HasFields line f = fields_of line ≡ all_fields f

abbrev pub value_of : List ℕ → ℕ
value_of digits = digits_value 10 digits

-- digits alone
abbrev pub is_number : List ℕ → Bool
is_number bytes = nat_lt 0 (length bytes) && list_all is_ascii_digit bytes

abbrev pub is_bucket : List ℕ → Bool
is_bucket bytes = is_number bytes && nat_lt (value_of bytes) 4294967296

-- a width or a height
abbrev pub is_size : List ℕ → Bool
is_size bytes = is_number bytes && nat_lt 0 (value_of bytes) && nat_lt (value_of bytes) 65536

-- the first of the numbers whose test fails
abbrev pub first_failing : List (ℕ × Bool) → Option ℕ
first_failing [] = None
first_failing (test ∷ tests) = if test.1 then first_failing tests else Some test.0

-- the least field that should be a number and is none, or is out of its range
abbrev pub wrong_number : Fields → Option ℕ
wrong_number f =
    first_failing ((1, is_bucket f.bucket) ∷ (3, is_size f.width) ∷ (4, is_size f.height) ∷ (
      5,
      is_number f.start_x,
    ) ∷ (6, is_number f.start_y)
    ∷ (7, is_number f.goal_x) ∷ (8, is_number f.goal_y) ∷ [])

-- start and goal lie in the row's own grid
abbrev pub is_in_grid : Fields → Bool
is_in_grid f =
    nat_lt (value_of f.start_x) (value_of f.width) && nat_lt (value_of f.start_y)
    (value_of f.height)
    && nat_lt (value_of f.goal_x) (value_of f.width) && nat_lt (value_of f.goal_y)
    (value_of f.height)

-- the field spells a listed length
abbrev pub IsListed : List ℕ → Type 0
IsListed bytes = (n decimals : ℕ) × SpellsListed n decimals bytes

-- A line that is judged as a row has a fault: it is over, not too long, and not skipped.
abbrev pub IsJudged : Place → ScenDue → List ℕ → Type 0
IsJudged place due line = IsOver place × (due ≡ row_due) × IsShort line × (content_of line ≢ [])

-- The fault of a line at a place, by what was due there; the row of the fault table that each fault
-- has.
abbrev pub HasScenFault : ScenFault → Place → ScenDue → ℕ → List ℕ → Type 0
HasScenFault NoVersion place due number line =
    (due ≡ version_due) × IsShort line
    × ((IsOver place × (content_of line ≢ []) × (IsVersion line → ⊥))
    ⊎ ((place ≡ at_end) × (content_of line ≡ [])))
HasScenFault (FieldCount at) place due number line =
    (at ≡ number) × IsJudged place due line × (length (fields_of line) ≢ 9)
HasScenFault (BadNumber at field) place due number line =
    (at ≡ number) × IsJudged place due line × (f : Fields) × HasFields line f
    × (wrong_number f ≡ Some field)
HasScenFault (OutOfGrid at) place due number line =
    (at ≡ number) × IsJudged place due line × (f : Fields) × HasFields line f
    × (wrong_number f ≡ None) × (is_in_grid f ≡ false)
HasScenFault (BadLength at) place due number line =
    (at ≡ number) × IsJudged place due line
    × (f : Fields) × HasFields line f × (wrong_number f ≡ None) × (is_in_grid f ≡ true)
    × (IsListed f.listed → ⊥)
HasScenFault (LineTooLong at) place due number line =
    (at ≡ number) × (place ≡ at_byte) × (length line ≡ longest_line + 1)
HasScenFault ReadFailed place due number line = ⊥
HasScenFault OutOfMemory place due number line = ⊥

-- the fault stands at the place where the text ends, and the lines before are right
abbrev pub ScenFaultAt : ScenFault → Place → List ℕ → Type 0
ScenFaultAt = FaultAt by_input ScenFollows HasScenFault version_due

-- what `read_scen` answered, as a reader's outcome
abbrev pub scen_outcome : Result (List Query) ScenFault → Outcome (List Query) ScenFault
scen_outcome (Ok queries) = is_value queries
scen_outcome (Err NoVersion) = is_fault NoVersion
scen_outcome (Err (FieldCount line)) = is_fault (FieldCount line)
scen_outcome (Err (BadNumber line field)) = is_fault (BadNumber line field)
scen_outcome (Err (OutOfGrid line)) = is_fault (OutOfGrid line)
scen_outcome (Err (BadLength line)) = is_fault (BadLength line)
scen_outcome (Err (LineTooLong line)) = is_fault (LineTooLong line)
scen_outcome (Err ReadFailed) = is_failed
scen_outcome (Err OutOfMemory) = is_refused

-- the scenario was read as `read_scen` reads it, with this answer
abbrev pub ReadsScen : {R : Type 0} → (R → Option (List ℕ)) → Counted R → Counted R
    → Result (List Query) ScenFault → Type 0
ReadsScen remaining old new answer =
    ReadsText ScenText ScenFaultAt (remaining (counted_inner old)) (remaining (counted_inner new))
    (failures_of old) (failures_of new) (scen_outcome answer)
