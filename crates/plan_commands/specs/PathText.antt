-- Where the agents are at each time, and what is written of it.
use Rattle.std.specs.Prelude.{◌≡◌, ℕ, ◌+◌, ◌^◌, ◌<◌, List, [], ◌∷◌}
use Rattle.std.specs.Prelude.{◌++◌, length, All, Option, None, Some, slice_get, decimal}
use Rattle.grid.specs.declared.cell.Cell.{Cell}
use Rattle.text_io.specs.Text.{ended, spaced_numbers}
use Rattle.model.specs.Plan.{Course, Plan, course_of, position_of, position_at, longest_of}

-- the courses that are asked for: all of a plan, or that of one of its agents
abbrev pub AreAsked : Plan → Option ℕ → List Course → Type 0
AreAsked p None courses = courses ≡ p.courses
AreAsked p (Some i) courses =
    (course : Course) × (course_of p i ≡ Some course) × (courses ≡ course ∷ [])

-- these are the cells at a time of the agents with the courses, one for each
abbrev pub AreCellsAt : List Course → ℕ → List Cell → Type 0
AreCellsAt [] t cells = cells ≡ []
AreCellsAt (course ∷ courses) t cells =
    (c : Cell) × (others : List Cell) × (cells ≡ c ∷ others)
    × (position_of c ≡ position_at course t) × AreCellsAt courses t others

-- how many times there are, from 0 to the most acts that an agent has; none without agents
abbrev pub count_of_times : List Course → ℕ
count_of_times [] = 0
count_of_times (course ∷ courses) = longest_of (course ∷ courses) + 1

-- a row of cells for each time, time 0 first
pub record AreCellRows (courses : List Course) (rows : List (List Cell)) : Type 0 where
  pub count : length rows ≡ count_of_times courses
  pub each
      : (t : ℕ) (cells : List Cell) → slice_get rows t ≡ Some cells → AreCellsAt courses t cells

-- the column and the row of each cell
abbrev pub numbers_of : List Cell → List ℕ
numbers_of [] = []
numbers_of (c ∷ cells) = c.x ∷ c.y ∷ numbers_of cells

-- the line of a time: the time, and then the column and the row of each agent's cell, divided by
-- single spaces
abbrev pub path_line : ℕ → List Cell → List ℕ
path_line t cells = decimal t ++ spaced_numbers (numbers_of cells)

-- the lines of rows, if these are the rows from this time on
abbrev pub path_lines : ℕ → List (List Cell) → List (List ℕ)
path_lines t [] = []
path_lines t (cells ∷ rows) = path_line t cells ∷ path_lines (t + 1) rows

-- the text that is written for rows: a line for each time
abbrev pub path_text : List (List Cell) → List ℕ
path_text rows = ended (path_lines 0 rows)

-- the numbers of rows are no wider than those that the code keeps
abbrev pub IsCellShort : Cell → Type 0
IsCellShort c = (c.x < 2 ^ 16) × (c.y < 2 ^ 16)

pub record AreWithinWidths (rows : List (List Cell)) : Type 0 where
  pub count : length rows < 2 ^ 32
  pub cells : All (All IsCellShort) rows
