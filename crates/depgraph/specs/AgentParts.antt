-- What one agent needs of a graph: its path, what its moves wait for, how many moves each agent
-- makes, and the plan's number.
use Rattle.std.specs.Prelude.{◌≡◌, ℕ, ◌<◌, List, length, map, Option, Some, slice_get}
use Rattle.grid.specs.declared.cell.Cell.{Cell}
use Rattle.model.specs.Dependency.{Need, need}
use Rattle.model.specs.Timetable.{Track, Timetable, moves, path, track_of}
use Rattle.depgraph.specs.Graphs.{IsGraphed}

-- the plan's number, the agent, how many moves each agent makes, the cells of the agent's path, and
-- what each of its moves waits for
pub record AgentPart : Type 0 where
  pub number : ℕ
  pub agent : ℕ
  pub moves : List ℕ
  pub cells : List Cell
  pub needs : List (Option Need)

-- It is the part of a timetable that is its agent's.
pub record IsPartOf (tt : Timetable) (p : AgentPart) : Type 0 where
  pub track : Track
  pub is_track : track_of tt p.agent ≡ Some track
  pub number : p.number ≡ tt.number
  pub all_moves : p.moves ≡ map moves tt.tracks
  pub cells : p.cells ≡ path track
  pub need_count : length p.needs ≡ moves track
  pub needs : (k : ℕ) → k < moves track → slice_get p.needs k ≡ Some (need tt p.agent track k)

-- it is a part of what some graph keeps
abbrev pub IsOfGraph : AgentPart → Type 0
IsOfGraph p = (tt : Timetable) × IsGraphed tt × IsPartOf tt p
