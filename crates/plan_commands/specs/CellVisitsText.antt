-- What is written of the visits of a cell.
use Rattle.std.specs.Prelude.{ℕ, ◌^◌, ◌<◌, List, [], ◌∷◌, map, codes, decimal}
use Rattle.std.specs.List.{join_with_byte}
use Rattle.grid.specs.declared.cell.Cell.{Cell}
use Rattle.text_io.specs.Text.{space, ended}
use Rattle.model.specs.declared.visit.Visit.{Visit}
use Rattle.model.specs.Timetable.{Timetable}
use Rattle.depgraph.specs.Visits.{IsVisitTo, AreVisitsTo}

-- All visits of a cell, as their times rise, also of a cell into which nobody comes, on the map or
-- off it.
abbrev pub AreCellVisits : Timetable → Cell → List Visit → Type 0
AreCellVisits tt cell [] = (v : Visit) → IsVisitTo tt cell v → ⊥
AreCellVisits tt cell (v ∷ visits) = AreVisitsTo tt cell (v ∷ visits)

-- the line of a visit: the agent, the index of the cell in its path, and the time
abbrev pub visit_line : Visit → List ℕ
visit_line v =
    join_with_byte space (codes "visit" ∷ decimal v.agent ∷ decimal v.index ∷ decimal v.time ∷ [])

-- the text that is written for visits: a line for each
abbrev pub visits_text : List Visit → List ℕ
visits_text visits = ended (map visit_line visits)

-- the numbers of a visit are no wider than those that the code keeps
pub record IsVisitWithinWidths (v : Visit) : Type 0 where
  pub agent : v.agent < 2 ^ 16
  pub index : v.index < 2 ^ 32
  pub time : v.time < 2 ^ 32
