-- Where agents are, on the map or off it, and where a step takes them.
use Rattle.std.specs.Prelude.{◌≡◌, ℕ, pos, neg_ℤ, ◌≤ℤ◌, ◌<◌, ◌^◌}
use Rattle.std.specs.Prelude.{List, length, get_or, Option, MatchOption, Some, slice_get}
use Rattle.grid.specs.declared.cell.Cell.{Cell}
use Rattle.model.specs.declared.act.Act.{Act}
use Rattle.model.specs.Plan.{Position, position_of, moved, Course, position_at}
use Rattle.checker.specs.declared.places.Place.{Place}
use Rattle.checker.specs.declared.places.Step.{Step}

-- the place as the position that it is
abbrev pub as_position : Place → Position
as_position place = record { x = place.x; y = place.y }

-- the step that leads back
abbrev pub reversed : Step → Step
reversed step = record { from = step.to; to = step.from }

-- the step of one who stays where the step led
abbrev pub stay_at : Step → Step
stay_at step = record { from = step.to; to = step.to }

-- no further than so many columns and so many rows from the map's first cell
pub record IsWithin (far : ℕ) (p : Position) : Type 0 where
  pub west : neg_ℤ (pos far) ≤ℤ p.x
  pub east : p.x ≤ℤ pos far
  pub north : neg_ℤ (pos far) ≤ℤ p.y
  pub south : p.y ≤ℤ pos far

-- further off no agent comes
abbrev pub IsNear : Position → Type 0
IsNear p = IsWithin 1000000 p

-- the cell whose column and row are below 2^16 that is in this place, if there is one
abbrev pub IsNamedCell : Position → Option Cell → Type 0
IsNamedCell p answer =
    MatchOption answer ((cell : Cell) → position_of cell ≡ p → cell.x < 2 ^ 16
    → cell.y < 2 ^ 16 → ⊥)
    (λ cell. (position_of cell ≡ p) × (cell.x < 2 ^ 16) × (cell.y < 2 ^ 16))

-- the act with the number leads there; past the last the agent stays
abbrev pub ActLeads : List Act → ℕ → Position → Position → Type 0
ActLeads acts number from to =
    MatchOption (slice_get acts number) (to ≡ from) (λ act. to ≡ moved act from)

-- the step of an agent; where there is no such agent, anything may stand for it
abbrev pub step_in : List Step → ℕ → Step
step_in steps i =
    get_or steps i (record {
      from = record { x = pos 0; y = pos 0 };
      to = record { x = pos 0; y = pos 0 };
    })

-- the steps are those of the agents from where they are at the one time to where they are at the
-- other
pub record AreSteps (courses : List Course) (before after : ℕ) (steps : List Step) : Type 0 where
  pub count : length steps ≡ length courses
  pub from : (i : ℕ) (course : Course) → slice_get courses i ≡ Some course
      → as_position (step_in steps i).from ≡ position_at course before
  pub to : (i : ℕ) (course : Course) → slice_get courses i ≡ Some course
      → as_position (step_in steps i).to ≡ position_at course after
