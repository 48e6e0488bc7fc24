-- Where the acts of a step lead, and which agents have one.
use Rattle.std.specs.Prelude.{◌≡◌, ℕ, ◌+◌, ◌⊎◌, List, length, map, Bool, false}
use Rattle.std.specs.Prelude.{nat_lt, Option, Some, None, MatchOption, slice_get}
use Rattle.grid.specs.declared.cell.Cell.{Cell}
use Rattle.grid.specs.Map.{Grid}
use Rattle.model.specs.declared.act.Act.{Act}
use Rattle.model.specs.Plan.{Course, position_of, position_at, moved, IsBadMove}
pub use Rattle.checker.specs.Moving.{IsOnGrid, IsFirst, ArePassable, HasBadStart, LeadsTo, IsMoved}

abbrev pub start_cells : List Course → List Cell
start_cells courses = map (λ course. course.start) courses

-- ---- the agents that have an act

abbrev pub is_within_acts : ℕ → Option Course → Bool
is_within_acts step None = false
is_within_acts step (Some course) = nat_lt step (length course.acts)

-- there is such an agent, and it has an act in the step
abbrev pub has_act : List Course → ℕ → ℕ → Bool
has_act courses step i = is_within_acts step (slice_get courses i)

-- ---- faults of one agent

abbrev pub HasBadMove : Grid → List Course → ℕ → ℕ → Type 0
HasBadMove m courses step i =
    MatchOption (slice_get courses i) ⊥ (λ course. IsBadMove m course step)

-- ---- a step

-- the act leads to the cell, or to none, and then the cell is on no map
abbrev pub LeadsBeside : Cell → Act → Cell → Type 0
LeadsBeside from act to =
    (position_of to ≡ moved act (position_of from))
    ⊎ (((c : Cell) → position_of c ≡ moved act (position_of from) → ⊥)
    × ((to.x ≡ 65535) ⊎ (to.y ≡ 65535)))

-- the cell is where the agent stands after the step, and the step is no fault
pub record IsAhead (m : Grid) (course : Course) (step : ℕ) (cell : Cell) : Type 0 where
  pub place : position_of cell ≡ position_at course (step + 1)
  pub on_map : IsOnGrid m cell
  pub good : IsBadMove m course step → ⊥
