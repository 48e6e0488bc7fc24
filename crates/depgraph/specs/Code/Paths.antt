-- The paths of all agents in one list.
use Rattle.std.specs.Prelude.{◌≡◌, ℕ, ◌+◌, ◌<◌, List, [], ◌∷◌, ◌++◌, length, get_or, take, None}
use Rattle.grid.specs.declared.cell.Cell.{Cell}
use Rattle.model.specs.Timetable.{Track}
use Rattle.checker.specs.Checking.{cells_of}
use Rattle.depgraph.specs.Code.Arrivals.{entered, entry_times}

-- the cells that the agents enter, and when, one agent after another
abbrev pub all_entered : List Track → List Cell
all_entered [] = []
all_entered (track ∷ tracks) = entered None (cells_of track) ++ all_entered tracks

abbrev pub all_times : List Track → List ℕ
all_times [] = []
all_times (track ∷ tracks) = entry_times None (cells_of track) 0 ++ all_times tracks

-- where an agent's path begins in that list: behind those of the agents before it
abbrev pub begin_of : List Track → ℕ → ℕ
begin_of tracks i = length (all_entered (take i tracks))

-- the paths of these agents, the times at which their cells are entered, and where each agent's end
pub record ArePaths (tracks : List Track) (cells : List Cell) (times ends : List ℕ) : Type 0 where
  pub are_cells : cells ≡ all_entered tracks
  pub are_times : times ≡ all_times tracks
  pub count : length ends ≡ length tracks
  pub are_ends
      : (i : ℕ) → i < length tracks → get_or ends i 0 ≡ length (all_entered (take (i + 1) tracks))
