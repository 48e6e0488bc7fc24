-- What a graph says of an agent: its path, and the step and the need of each of its moves.
use Rattle.std.specs.Prelude.{◌≡◌, ℕ, ◌<◌, List, length}
use Rattle.std.specs.Prelude.{Option, Some, option_and_then, option_map, slice_get}
use Rattle.grid.specs.declared.cell.Cell.{Cell}
use Rattle.model.specs.Timetable.{Track, Timetable, moves, path, step_of}
use Rattle.model.specs.Dependency.{Need, need}

-- the cells of a path, and for each move from one to the next its planned step and what it waits
-- for
pub record Route : Type 0 where
  pub cells : List Cell
  pub steps : List ℕ
  pub needs : List (Option Need)

-- The route of an agent with this track. There is one cell more than moves.
pub record IsRouteOf (tt : Timetable) (agent : ℕ) (track : Track) (route : Route) : Type 0 where
  pub cells : route.cells ≡ path track
  pub step_count : length route.steps ≡ moves track
  pub steps : (k : ℕ) → k < moves track → slice_get route.steps k ≡ Some (step_of track k)
  pub need_count : length route.needs ≡ moves track
  pub needs : (k : ℕ) → k < moves track → slice_get route.needs k ≡ Some (need tt agent track k)

-- a need as a pair
abbrev pub asked : Need → ℕ × ℕ
asked n = (n.agent, n.count)

-- what the move with a number waits for, if there is such a move and it waits
abbrev pub asked_by : Option (Option Need) → Option (ℕ × ℕ)
asked_by o = option_and_then (λ need. option_map asked need) o

abbrev pub need_at : Route → ℕ → Option (ℕ × ℕ)
need_at route k = asked_by (slice_get route.needs k)
