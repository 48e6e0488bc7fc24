-- When a plan solves the first rows of a scenario, and why not.
use Rattle.std.specs.Prelude.{◌≡◌, ◌≢◌, ℕ, ◌<◌, ◌≤◌, List, length}
use Rattle.std.specs.Prelude.{map, Some, slice_get, Result, Ok, Err}
use Rattle.model.specs.Costs.{Task, cost, FitsFirst, SolvesAt}
use Rattle.model.specs.Timetable.{Track, cell_at}
use Rattle.scenario.specs.Query.{Query}
use Rattle.fitting.specs.declared.fit_fault.FitFault.{FitFault}
use Rattle.fitting.specs.declared.fit_fault.FitFault.TheVariants.{TooFewRows, AgentCount}
use Rattle.fitting.specs.declared.fit_fault.FitFault.TheVariants.{StartDiffers, GoalDiffers}
use Rattle.fitting.specs.declared.fit_fault.FitFault.TheVariants.{SizeDiffers}
use Rattle.checker.specs.Checking.{Checked}

-- what a row asks of an agent
abbrev pub task_of : Query → Task
task_of q = record { width = q.width; height = q.height; start = q.start; goal = q.goal }

-- There are k agents and at least k rows, and the agents before i solve the rows of their numbers.
-- This is agent i, and its row.
pub record IsReached (c : Checked) (rows : List Query) (k i : ℕ) (track : Track)
    (row : Query) : Type 0 where
  pub agents : length c.timetable.tracks ≡ k
  pub enough : k ≤ length rows
  pub before : (j : ℕ) → j < i → SolvesAt c.width c.height c.timetable.tracks (map task_of rows) j
  pub is_track : slice_get c.timetable.tracks i ≡ Some track
  pub is_row : slice_get rows i ≡ Some row

abbrev pub HasSize : Checked → Query → Type 0
HasSize c row = (row.width ≡ c.width) × (row.height ≡ c.height)

-- the answer to whether the plan solves the first k rows: the first thing that differs, first of
-- the numbers of rows and agents, and then row by row of the map's size, the start and the goal
abbrev pub AnswersFit : Checked → List Query → ℕ → Result Unit FitFault → Type 0
AnswersFit c rows k (Ok u) = FitsFirst c.width c.height c.timetable.tracks (map task_of rows) k
AnswersFit c rows k (Err TooFewRows) = length rows < k
AnswersFit c rows k (Err AgentCount) = (k ≤ length rows) × (length c.timetable.tracks ≢ k)
AnswersFit c rows k (Err (SizeDiffers i)) =
    (track : Track) × (row : Query) × IsReached c rows k i track row × (HasSize c row → ⊥)
AnswersFit c rows k (Err (StartDiffers i)) =
    (track : Track) × (row : Query) × IsReached c rows k i track row × HasSize c row
    × (track.start ≢ row.start)
AnswersFit c rows k (Err (GoalDiffers i)) =
    (track : Track) × (row : Query) × IsReached c rows k i track row × HasSize c row
    × (track.start ≡ row.start)
    × (cell_at track (cost track) ≢ row.goal)
