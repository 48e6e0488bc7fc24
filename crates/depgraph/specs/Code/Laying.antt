-- What is made of a plan before its rotations are sought.
use Rattle.std.specs.Prelude.{◌≡◌, ℕ, List}
use Rattle.grid.specs.declared.cell.Cell.{Cell}
use Rattle.model.specs.declared.visit.Visit.{Visit}
use Rattle.model.specs.Timetable.{Timetable}
use Rattle.depgraph.specs.declared.waiting.Wait.{Wait}
use Rattle.depgraph.specs.Code.Keeping.{AreKeptVisits, AreKept}
use Rattle.depgraph.specs.Code.Links.{all_links}
use Rattle.depgraph.specs.Code.Numbers.{cells_by, AreDistinct, AreKnown}
use Rattle.depgraph.specs.Code.Tracks.{timetable_by}
use Rattle.depgraph.specs.Code.Turning.{AreLaid}

-- the plan's number, its paths and what their moves wait for, which tell its timetable
pub record AreFound (tt : Timetable) (number : ℕ) (names : List Cell) (numbers times ends : List ℕ)
    (needs : List Wait) : Type 0 where
  pub told : timetable_by number (cells_by names numbers) times ends ≡ tt
  pub kept : AreKept tt (cells_by names numbers) times ends needs
  pub known : AreKnown names numbers
  pub laid : AreLaid tt ends needs (all_links times ends needs)

-- the same with the visits, those of each cell by its name
pub record AreLaidOut (tt : Timetable) (number : ℕ) (names : List Cell)
    (numbers times ends : List ℕ) (needs : List Wait) (visits : List Visit)
    (visit_ends : List ℕ) : Type 0 where
  pub told : timetable_by number (cells_by names numbers) times ends ≡ tt
  pub kept : AreKeptVisits tt (cells_by names numbers) times ends needs visits visit_ends
  pub named : kept.placing.names ≡ names
  pub distinct : AreDistinct names
  pub known : AreKnown names numbers
  pub laid : AreLaid tt ends needs (all_links times ends needs)
