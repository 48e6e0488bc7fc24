-- How the reader of a scenario follows a line: what its parts are seen as.
use Rattle.std.specs.Prelude.{◌≡◌, ℕ, ◌+◌, ◌-◌, ◌^◌, ◌<◌, min, Bool, true}
use Rattle.std.specs.Prelude.{false, ◌&&◌, ◌||◌, ◌==◌, if◌then◌else◌, nat_lt, List, [], ◌∷◌}
use Rattle.std.specs.Prelude.{◌++◌, length, take, drop, Option, Some, None, ◌⊎◌, codes}
use Rattle.std.specs.List.{list_all, position_or_len}
use Rattle.std.specs.Char.{is_ascii_digit}
use Rattle.std.specs.Str.{bytes_eq}
use Rattle.std.specs.Str.Parse.{digits_value_after}
use Rattle.scenario.specs.declared.fields.FieldBytes.{FieldBytes}
use Rattle.scenario.specs.declared.listed.Listed.{Listed}
use Rattle.scenario.specs.declared.numbers.Numbers.{Numbers}
use Rattle.text_io.specs.Text.{tab}
use Rattle.text_io.specs.Reading.{LeadsBy, Place, IsOver}
use Rattle.scenario.specs.declared.scen_fault.ScenFault.{ScenFault}
use Rattle.scenario.specs.declared.scen_fault.ScenFault.TheVariants.{OutOfMemory}
use Rattle.scenario.specs.Fields.{without_leading}
use Rattle.scenario.specs.Query.{Query, point}
use Rattle.scenario.specs.ScenText.{IsSkipped, IsVersion, SpellsRow}
use Rattle.scenario.specs.ScenFault.{ScenDue, version_due, row_due, ScenFollows}
use Rattle.scenario.specs.ScenFault.{Fields, value_of, is_number, HasScenFault}

-- the lines of a scenario's text are right, one after another
abbrev pub ScenLeads : ScenDue → List (List ℕ) → ScenDue → Type 0
ScenLeads = LeadsBy ScenFollows

-- the bytes of nine fields
abbrev pub fields_seen : FieldBytes → Fields
fields_seen f = record {
  bucket = f.bucket.now;
  name = f.name.now;
  width = f.width.now;
  height = f.height.now;
  start_x = f.start_x.now;
  start_y = f.start_y.now;
  goal_x = f.goal_x.now;
  goal_y = f.goal_y.now;
  listed = f.listed.now;
}

-- past this value numbers are not told apart
abbrev pub most_told : ℕ
most_told = 2 ^ 64 - 1

-- a number's value, where it has one
abbrev pub spelled : List ℕ → Option ℕ
spelled bytes = if is_number bytes then Some (min (value_of bytes) most_told) else None

-- the numbers of nine fields
pub record HasNumbers (f : Fields) (n : Numbers) : Type 0 where
  pub bucket : n.bucket ≡ value_of f.bucket
  pub width : n.width ≡ value_of f.width
  pub height : n.height ≡ value_of f.height
  pub start_x : n.start_x ≡ min (value_of f.start_x) most_told
  pub start_y : n.start_y ≡ min (value_of f.start_y) most_told
  pub goal_x : n.goal_x ≡ min (value_of f.goal_x) most_told
  pub goal_y : n.goal_y ≡ min (value_of f.goal_y) most_told

-- the row with these numbers, this name and this listed length
abbrev pub query_by : Numbers → List ℕ → Listed → Query
query_by n name listed = record {
  bucket = n.bucket;
  name = name;
  width = n.width;
  height = n.height;
  start = record { x = n.start_x; y = n.start_y };
  goal = record { x = n.goal_x; y = n.goal_y };
  listed = listed.n;
  decimals = listed.d;
}

-- digits before a tab, the number that they spell, and what stands behind the tab
pub record IsShortNumber (bytes digits : List ℕ) (n : ℕ) (rest : List ℕ) : Type 0 where
  pub is : bytes ≡ digits ++ tab ∷ rest
  pub number : is_number digits ≡ true
  pub value : n ≡ value_of digits
  pub short : n < 4294967296

-- what digits spell that follow those of a number, if the bytes are digits alone
abbrev pub spelled_after : ℕ → List ℕ → Option ℕ
spelled_after start bytes =
    if list_all is_ascii_digit bytes then Some
    (min (digits_value_after 10 start bytes) most_told) else None

-- where the first point stands, or the number of bytes
abbrev pub point_at : List ℕ → ℕ
point_at bytes = position_or_len (λ b. b == point) bytes

-- the bytes before the first point, and those behind it
abbrev pub whole_of : List ℕ → List ℕ
whole_of bytes = take (point_at bytes) bytes

abbrev pub after_of : List ℕ → List ℕ
after_of bytes = drop (point_at bytes + 1) bytes

-- one to seven digits, and then nothing, or a point and one to twelve digits
abbrev pub is_listed_form : List ℕ → Bool
is_listed_form bytes =
    nat_lt 0 (length (whole_of bytes)) && nat_lt (length (whole_of bytes)) 8
    && nat_lt (length (after_of bytes)) 13
    && (nat_lt 0 (length (after_of bytes)) || point_at bytes == length bytes)

abbrev pub is_listed : List ℕ → Bool
is_listed bytes =
    is_listed_form bytes && list_all is_ascii_digit (whole_of bytes) && list_all is_ascii_digit
    (after_of bytes)

-- the number that the digits around the point spell together
abbrev pub listed_value : List ℕ → ℕ
listed_value bytes =
    digits_value_after 10 (digits_value_after 10 0 (whole_of bytes)) (after_of bytes)

-- the row that nine fields spell
abbrev pub query_of : Fields → Query
query_of f = record {
  bucket = value_of f.bucket;
  name = f.name;
  width = value_of f.width;
  height = value_of f.height;
  start = record { x = value_of f.start_x; y = value_of f.start_y };
  goal = record { x = value_of f.goal_x; y = value_of f.goal_y };
  listed = listed_value f.listed;
  decimals = length (after_of f.listed);
}

-- what is due after lines with or without a version
abbrev pub due_after : Bool → ScenDue
due_after false = version_due
due_after true = row_due

-- why a line was refused: there was no memory, or the line has the fault wherever it is over
abbrev pub RefusesLine : ScenDue → ℕ → List ℕ → ScenFault → Type 0
RefusesLine due number line fault =
    (fault ≡ OutOfMemory)
    ⊎ ((place : Place) → IsOver place → HasScenFault fault place due number line)

-- start and goal lie within the size
abbrev pub are_in_grid : Numbers → Bool
are_in_grid n =
    nat_lt n.start_x n.width && nat_lt n.start_y n.height && nat_lt n.goal_x n.width
    && nat_lt n.goal_y n.height

-- `1` or `1.0`
abbrev pub is_one : List ℕ → Bool
is_one number = bytes_eq number (codes "1") || bytes_eq number (codes "1.0")

-- `version`, one blank or more, and `1` or `1.0`
abbrev pub is_version : List ℕ → Bool
is_version content =
    bytes_eq (take 7 content) (codes "version")
    && nat_lt (length (without_leading (drop 7 content))) (length (drop 7 content))
    && is_one (without_leading (drop 7 content))

-- A right line was added to those so far: whether there was a version before and is one now, and
-- the rows before and now.
abbrev pub Adds : Bool → Bool → List Query → List Query → List ℕ → Type 0
Adds false now old new line =
    ((IsSkipped line × (now ≡ false)) ⊎ (IsVersion line × (now ≡ true))) × (new ≡ old)
Adds true now old new line =
    (now ≡ true) × ((IsSkipped line × (new ≡ old))
    ⊎ ((q : Query) × SpellsRow q line × (new ≡ old ++ q ∷ [])))
