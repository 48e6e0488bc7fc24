-- What a caller sees of a row of a scenario: a query from a start to a goal, and the length that is
-- listed for it.
use Rattle.std.specs.Prelude.{◌≡◌, ℕ, ◌+◌, ◌^◌, ◌<◌, ◌≤◌, ◌/◌, ◌%◌, ◌==◌, zero, suc, IsTrue}
use Rattle.std.specs.Prelude.{Bool, ◌&&◌, not, List, [], ◌∷◌, ◌++◌, length, map, codes, decimal}
use Rattle.std.specs.List.{list_all, join_with_byte}
use Rattle.grid.specs.declared.cell.Cell.{Cell}
use Rattle.text_io.specs.Text.{line_feed, tab, ended}
use Rattle.scenario.specs.Fields.{trimmed}

-- a row's nine fields; the listed length is listed / 10^decimals
pub record Query : Type 0 where
  pub bucket : ℕ
  pub name : List ℕ
  pub width : ℕ
  pub height : ℕ
  pub start : Cell
  pub goal : Cell
  pub listed : ℕ
  pub decimals : ℕ

-- neither a tab nor an LF
abbrev pub is_name_byte : ℕ → Bool
is_name_byte b = not (b == tab) && not (b == line_feed)

-- a map name: it is not empty, and neither begins nor ends with a space
pub record IsName (name : List ℕ) : Type 0 where
  pub some : 0 < length name
  pub bytes : IsTrue (list_all is_name_byte name)
  pub no_spaces : trimmed name ≡ name

-- the last so many decimal digits of a number
abbrev pub last_digits : ℕ → ℕ → List ℕ
last_digits zero n = []
last_digits (suc count) n = last_digits count (n / 10) ++ (48 + n % 10) ∷ []

abbrev pub point : ℕ
point = 46

-- a point and so many digits, or nothing
abbrev pub decimals_text : ℕ → ℕ → List ℕ
decimals_text zero n = []
decimals_text (suc count) n = point ∷ last_digits (suc count) n

-- n / 10^decimals with exactly so many decimals
abbrev pub listed_text : ℕ → ℕ → List ℕ
listed_text n decimals = decimal (n / 10 ^ decimals) ++ decimals_text decimals n

-- the line that is written for a row
abbrev pub row_line : Query → List ℕ
row_line q =
    join_with_byte tab
    (decimal q.bucket ∷ q.name ∷ decimal q.width ∷ decimal q.height ∷ decimal
    q.start.x ∷ decimal q.start.y
    ∷ decimal q.goal.x ∷ decimal q.goal.y ∷ listed_text q.listed q.decimals ∷ [])

-- a line of a scenario is no longer than this
abbrev pub longest_line : ℕ
longest_line = 4096

-- what every row keeps to
pub record IsQuery (q : Query) : Type 0 where
  pub bucket_limit : q.bucket < 2 ^ 32
  pub is_name : IsName q.name
  pub some_width : 0 < q.width
  pub width_limit : q.width < 65536
  pub some_height : 0 < q.height
  pub height_limit : q.height < 65536
  pub start_column : q.start.x < q.width
  pub start_row : q.start.y < q.height
  pub goal_column : q.goal.x < q.width
  pub goal_row : q.goal.y < q.height
  pub decimals_limit : q.decimals ≤ 12
  pub listed_limit : q.listed < 10 ^ (7 + q.decimals)
  pub line_limit : length (row_line q) ≤ longest_line

-- the one text that is written for a scenario
abbrev pub canonical_scen_text : List Query → List ℕ
canonical_scen_text queries = ended (codes "version 1" ∷ map row_line queries)
