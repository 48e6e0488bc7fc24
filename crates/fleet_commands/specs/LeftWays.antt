-- What the plan of what is left has of the old one, in the words of its agents' ways.
use Rattle.std.specs.Prelude.{◌≡◌, ℕ, ◌+◌, ◌-◌, ◌<◌, ◌≤◌, if◌then◌else◌, nat_lt, Option, None, Some}
use Rattle.model.specs.Rules.{path_cell}
use Rattle.model.specs.Timetable.{Track, moves, step_of}

-- the number of an agent in the new plan: those behind the one that is left out have one less
abbrev pub number_left : Option ℕ → ℕ → ℕ
number_left None i = i
number_left (Some out) i = if nat_lt out i then i - 1 else i

-- and that of an agent of the new plan in the old one
abbrev pub number_before : Option ℕ → ℕ → ℕ
number_before None j = j
number_before (Some out) j = if nat_lt j out then j else j + 1

-- The new way is what is left of the old one behind so many moves. It has the same cells, and makes
-- each move in its old step, less so many steps.
pub record IsRestOf (begun first : ℕ) (old new : Track) : Type 0 where
  pub all : moves new + begun ≡ moves old
  pub cells : (k : ℕ) → k ≤ moves new → path_cell new k ≡ path_cell old (begun + k)
  pub steps : (k : ℕ) → k < moves new → step_of new k + first ≡ step_of old (begun + k)
