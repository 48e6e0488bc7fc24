-- The cells of an agent, one act after another.
use Rattle.std.specs.Prelude.{◌≡◌, ℕ, ◌<◌, ◌≤◌, List, []}
use Rattle.std.specs.Prelude.{◌∷◌, length, Option, Some, None, MatchOption}
use Rattle.grid.specs.declared.cell.Cell.{Cell}
use Rattle.model.specs.declared.act.Act.{Act}
use Rattle.model.specs.Plan.{Course}
use Rattle.model.specs.Timetable.{Track, cell_after, track_of}
use Rattle.model.specs.Costs.{cost}
use Rattle.plan_text.specs.Limits.{most_acts}
use Rattle.checker.specs.Checking.{Checked}
pub use Rattle.checker.specs.Moving.{cell_by}

abbrev pub cells_along : Cell → List Act → List Cell
cells_along c [] = []
cells_along c (act ∷ acts) = cell_by act c ∷ cells_along (cell_by act c) acts

abbrev pub track_along : Course → Track
track_along course = record { start = course.start; later = cells_along course.start course.acts }

-- each cell along the acts is one that a map may have
abbrev pub StaysInRange : Cell → List Act → Type 0
StaysInRange c acts =
    (t : ℕ) → ((cell_after c (cells_along c acts) t).x < 65536)
    × ((cell_after c (cells_along c acts) t).y < 65536)

-- the cells that are left of a walk: its next one, if there is one, and those to which the acts
-- lead from there
abbrev pub cells_from : Option Cell → List Act → List Cell
cells_from None acts = []
cells_from (Some c) acts = c ∷ cells_along c acts

abbrev pub MayGoOn : Option Cell → List Act → Type 0
MayGoOn next acts = MatchOption next (Unit {0}) (λ c. StaysInRange c acts)

-- what the checked plan's courses keep
pub record IsCourseKept (course : Course) : Type 0 where
  pub in_range : StaysInRange course.start course.acts
  pub acts_limit : length course.acts ≤ most_acts
  pub at_rest : length course.acts ≡ cost (track_along course)

-- there is no such agent, or its track is that along the course
abbrev pub HasCourse : Checked → ℕ → Option Course → Type 0
HasCourse c i None = track_of c.timetable i ≡ None
HasCourse c i (Some course) =
    (track_of c.timetable i ≡ Some (track_along course)) × IsCourseKept course
