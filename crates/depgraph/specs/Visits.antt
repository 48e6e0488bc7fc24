-- All visits of a timetable, by cells in order of first visit.
use Rattle.std.specs.Prelude.{◌≡◌, ℕ, ◌<◌, ◌⊎◌, List, length, Some, slice_get}
use Rattle.grid.specs.declared.cell.Cell.{Cell}
use Rattle.model.specs.declared.visit.Visit.{Visit}
use Rattle.model.specs.Timetable.{Timetable}
use Rattle.model.specs.Dependency.{IsVisit}

-- the visit is one of the timetable
abbrev pub IsVisitTo : Timetable → Cell → Visit → Type 0
IsVisitTo tt c v = IsVisit tt v.agent v.index v.time c

-- The visits of a cell, as their times rise: all that there are, and at least one.
pub record AreVisitsTo (tt : Timetable) (c : Cell) (visits : List Visit) : Type 0 where
  pub some : 0 < length visits
  pub sound : (k : ℕ) (v : Visit) → slice_get visits k ≡ Some v → IsVisitTo tt c v
  pub whole : (v : Visit) → IsVisitTo tt c v → (k : ℕ) × (slice_get visits k ≡ Some v)
  pub rising : (k l : ℕ) (v w : Visit) → k < l → slice_get visits k ≡ Some v
      → slice_get visits l ≡ Some w → v.time < w.time

-- a visit comes before another: by time, and then by agent
abbrev pub ComesBefore : Visit → Visit → Type 0
ComesBefore v w = (v.time < w.time) ⊎ ((v.time ≡ w.time) × (v.agent < w.agent))

-- a cell and its visits
pub record Visited : Type 0 where
  pub cell : Cell
  pub visits : List Visit

-- Each visited cell once, with its visits, in the order of their first visits.
pub record AreAllVisits (tt : Timetable) (cells : List Visited) : Type 0 where
  pub sound
      : (n : ℕ) (at : Visited) → slice_get cells n ≡ Some at → AreVisitsTo tt at.cell at.visits
  pub whole : (c : Cell) (v : Visit) → IsVisitTo tt c v → (n : ℕ) × (at : Visited)
      × (slice_get cells n ≡ Some at) × (at.cell ≡ c)
  pub rising : (n m : ℕ) (at later : Visited) (v w : Visit) → n < m → slice_get cells n ≡ Some at
      → slice_get cells m ≡ Some later
      → slice_get at.visits 0 ≡ Some v → slice_get later.visits 0 ≡ Some w → ComesBefore v w
