-- The text of a scenario of version 1 (MovingAI, scenario format): which texts spell a list of
-- rows.
use Rattle.std.specs.Prelude.{◌≡◌, ℕ, ◌<◌, ◌≤◌, ◌⊎◌, List, [], ◌∷◌, ◌++◌, length, codes}
use Rattle.std.specs.List.{AllByRecursion}
use Rattle.text_io.specs.Text.{IsGap, SpellsNumber, lines_of}
use Rattle.scenario.specs.Fields.{content_of, fields_of}
use Rattle.scenario.specs.Query.{Query, IsQuery, point, longest_line}

-- the line is not too long
abbrev pub IsShort : List ℕ → Type 0
IsShort line = length line ≤ longest_line

-- a line with nothing but blanks, and perhaps a CR
abbrev pub IsSkipped : List ℕ → Type 0
IsSkipped line = IsShort line × (content_of line ≡ [])

-- `version 1`, or `version 1.0`
pub record IsVersion (line : List ℕ) : Type 0 where
  pub short : IsShort line
  pub gap : List ℕ
  pub number : List ℕ
  pub bytes : content_of line ≡ codes "version" ++ gap ++ number
  pub is_gap : IsGap gap
  pub one : (number ≡ codes "1") ⊎ (number ≡ codes "1.0")

-- One to seven digits, and then nothing, or a point and one to twelve digits; all the digits
-- together spell n.
pub record SpellsListed (n decimals : ℕ) (bytes : List ℕ) : Type 0 where
  pub whole : List ℕ
  pub after : List ℕ
  pub parts : ((bytes ≡ whole) × (after ≡ []))
      ⊎ ((bytes ≡ whole ++ point ∷ after) × (0 < length after))
  pub number : SpellsNumber n (whole ++ after)
  pub some : 0 < length whole
  pub whole_limit : length whole ≤ 7
  pub count : length after ≡ decimals
  pub decimals_limit : decimals ≤ 12

-- The line is a row: nine fields, of which each spells its part.
pub record SpellsRow (q : Query) (line : List ℕ) : Type 0 where
  pub short : IsShort line
  pub bucket : List ℕ
  pub width : List ℕ
  pub height : List ℕ
  pub start_x : List ℕ
  pub start_y : List ℕ
  pub goal_x : List ℕ
  pub goal_y : List ℕ
  pub listed : List ℕ
  pub fields : fields_of line ≡ bucket ∷ q.name ∷ width ∷ height ∷ start_x ∷ start_y ∷ goal_x
      ∷ goal_y ∷ listed ∷ []
  pub is_bucket : SpellsNumber q.bucket bucket
  pub is_width : SpellsNumber q.width width
  pub is_height : SpellsNumber q.height height
  pub is_start_x : SpellsNumber q.start.x start_x
  pub is_start_y : SpellsNumber q.start.y start_y
  pub is_goal_x : SpellsNumber q.goal.x goal_x
  pub is_goal_y : SpellsNumber q.goal.y goal_y
  pub is_listed : SpellsListed q.listed q.decimals listed
  pub within : IsQuery q

-- each line is a row, in order, or is skipped
abbrev pub AreQueries : List Query → List (List ℕ) → Type 0
AreQueries queries [] = queries ≡ []
AreQueries queries (line ∷ lines) =
    (IsSkipped line × AreQueries queries lines)
    ⊎ ((q : Query) × (others : List Query) × (queries ≡ q ∷ others) × SpellsRow q line
    × AreQueries others lines)

-- The text spells the rows: its lines are skipped ones, the version, and then the rows among
-- skipped ones.
pub record ScenText (queries : List Query) (text : List ℕ) : Type 0 where
  pub before : List (List ℕ)
  pub version : List ℕ
  pub rest : List (List ℕ)
  pub lines : lines_of text ≡ before ++ version ∷ rest
  pub are_skipped : AllByRecursion IsSkipped before
  pub is_version : IsVersion version
  pub are_rows : AreQueries queries rest
