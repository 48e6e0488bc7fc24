-- What a plan costs (Stern et al. 2019, "Objective functions"), when its tracks end at rest, and
-- when it solves given tasks.
use Rattle.std.specs.Prelude.{◌≡◌, ℕ, ◌+◌, ◌<◌, ◌≤◌, ◌==◌, ◌&&◌, if◌then◌else◌, List}
use Rattle.std.specs.Prelude.{[], ◌∷◌, length, take, max, All, Some, slice_get}
use Rattle.grid.specs.declared.cell.Cell.{Cell}
use Rattle.model.specs.Timetable.{Track, Timetable, same_cell, cell_at}

-- from this time on the agent stays
abbrev pub RestsFrom : Track → ℕ → Type 0
RestsFrom track t = (later : ℕ) → t ≤ later → cell_at track later ≡ cell_at track t

-- the least time from which the agent stays for ever
pub record IsCost (track : Track) (t : ℕ) : Type 0 where
  pub rests : RestsFrom track t
  pub least : (before : ℕ) → before < t → RestsFrom track before → ⊥

-- that time: the cells, but for the last of them that are alike
abbrev pub cost_after : Cell → List Cell → ℕ
cost_after c [] = 0
cost_after c (d ∷ cells) =
    if (cost_after d cells == 0) && same_cell c d then 0 else cost_after d cells + 1

abbrev pub cost : Track → ℕ
cost track = cost_after track.start track.later

-- the track goes just to the time from which the agent stays for ever
abbrev pub EndsAtRest : Track → Type 0
EndsAtRest track = length track.later ≡ cost track

abbrev pub AllEndAtRest : Timetable → Type 0
AllEndAtRest tt = All EndsAtRest tt.tracks

abbrev pub sum_of : List Track → ℕ
sum_of [] = 0
sum_of (track ∷ tracks) = cost track + sum_of tracks

abbrev pub greatest_of : List Track → ℕ
greatest_of [] = 0
greatest_of (track ∷ tracks) = max (cost track) (greatest_of tracks)

-- the sum of the agents' costs, and the greatest of them; 0 without agents
abbrev pub sum_of_costs : Timetable → ℕ
sum_of_costs tt = sum_of tt.tracks

abbrev pub makespan : Timetable → ℕ
makespan tt = greatest_of tt.tracks

-- a query that an agent is to solve, on a map of a size
pub record Task : Type 0 where
  pub width : ℕ
  pub height : ℕ
  pub start : Cell
  pub goal : Cell

-- on a map of this size the agent goes from the start to the goal, and stays there
pub record Solves (width height : ℕ) (track : Track) (task : Task) : Type 0 where
  pub same_width : task.width ≡ width
  pub same_height : task.height ≡ height
  pub from_start : track.start ≡ task.start
  pub to_goal : cell_at track (cost track) ≡ task.goal

-- each agent solves the task of its number, and there are no others of either
abbrev pub Fits : (width height : ℕ) → List Track → List Task → Type 0
Fits width height [] tasks = tasks ≡ []
Fits width height (track ∷ tracks) tasks =
    (task : Task) × (others : List Task) × (tasks ≡ task ∷ others) × Solves width height track task
    × Fits width height tracks others

-- there are k agents, and each solves the task of its number; tasks after the first k are nobody's
pub record FitsFirst (width height : ℕ) (tracks : List Track) (tasks : List Task)
    (k : ℕ) : Type 0 where
  pub agents : length tracks ≡ k
  pub enough : k ≤ length tasks
  pub fits : Fits width height tracks (take k tasks)

-- there are an agent and a task with the number, and the agent solves the task
abbrev pub SolvesAt : (width height : ℕ) → List Track → List Task → ℕ → Type 0
SolvesAt width height tracks tasks i =
    (track : Track) × (task : Task) × (slice_get tracks i ≡ Some track)
    × (slice_get tasks i ≡ Some task) × Solves width height track task
