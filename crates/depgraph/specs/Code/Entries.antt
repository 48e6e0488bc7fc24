-- Where the cells of the agents' paths stand in one list of all.
use Rattle.std.specs.Prelude.{◌≡◌, ℕ, ◌+◌, ◌<◌, ◌^◌, zero, suc, List, length, get_or}
use Rattle.grid.specs.declared.cell.Cell.{Cell}
use Rattle.model.specs.Timetable.{Track, step_of}

-- where an agent's path begins: at the end of the one before
abbrev pub begin_in : List ℕ → ℕ → ℕ
begin_in ends zero = 0
begin_in ends (suc i) = get_or ends i 0

-- the entry of an agent's cell with this index, in the list of all
pub record IsEntry (ends : List ℕ) (agent index entry : ℕ) : Type 0 where
  pub is_agent : agent < length ends
  pub place : entry ≡ begin_in ends agent + index
  pub within : entry < get_or ends agent 0

-- when an agent comes into the cell of its path with this index
abbrev pub arrival_time : Track → ℕ → ℕ
arrival_time track zero = 0
arrival_time track (suc k) = step_of track k + 1

-- agents, the cells of each path and those of all are no more than their numbers can count
pub record AreFew (cells : List Cell) (ends : List ℕ) : Type 0 where
  pub agents : length ends < 2 ^ 16
  pub own : (i k e : ℕ) → IsEntry ends i k e → k < 2 ^ 16
  pub all : length cells < 2 ^ 32
