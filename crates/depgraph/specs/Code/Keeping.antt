-- What a graph keeps, and how its calls look it up.
use Rattle.std.specs.Prelude.{◌≡◌, ℕ, ◌+◌, ◌==◌, if◌then◌else◌, List, [], map, Option, None, Some}
use Rattle.std.specs.List.{range_with_len}
use Rattle.grid.specs.declared.cell.Cell.{Cell}
use Rattle.model.specs.declared.visit.Visit.{Visit}
use Rattle.model.specs.Dependency.{Need, need}
use Rattle.model.specs.Timetable.{Track, Timetable, moves, path, step_of, track_of}
use Rattle.depgraph.specs.declared.placing.Arrival.{Arrival}
use Rattle.depgraph.specs.declared.waiting.Wait.{Wait}
use Rattle.depgraph.specs.Graphs.{IsGraphed}
use Rattle.depgraph.specs.Routes.{Route}
use Rattle.depgraph.specs.Code.Orders.{AreOrdered}
use Rattle.depgraph.specs.Code.Paths.{all_entered, all_times}
use Rattle.depgraph.specs.Code.Placing.{IsTimeline, IsPlacing}
use Rattle.depgraph.specs.Code.Waits.{AreWaits}

-- the paths, what their moves wait for, and the visits of a timetable
pub record AreKeptVisits (tt : Timetable) (cells : List Cell) (times ends : List ℕ)
    (needs : List Wait) (visits : List Visit) (visit_ends : List ℕ) : Type 0 where
  pub graphed : IsGraphed tt
  pub are_cells : cells ≡ all_entered tt.tracks
  pub are_times : times ≡ all_times tt.tracks
  pub arrivals : List Arrival
  pub step_ends : List ℕ
  pub line : IsTimeline tt.tracks ends arrivals step_ends
  pub placing : IsPlacing tt.tracks ends arrivals visits visit_ends
  pub are_needs : AreWaits ends visits visit_ends needs

-- the paths, and what their moves wait for, by visits that need not be kept
pub record AreKept (tt : Timetable) (cells : List Cell) (times ends : List ℕ)
    (needs : List Wait) : Type 0 where
  pub visits : List Visit
  pub visit_ends : List ℕ
  pub kept : AreKeptVisits tt cells times ends needs visits visit_ends

-- the visits of a timetable, and its visited cells, each with its number, in order of first visit
pub record HasVisits (tt : Timetable) (visits : List Visit) (visit_ends : List ℕ)
    (entries : List (Cell × ℕ)) : Type 0 where
  pub cells : List Cell
  pub times : List ℕ
  pub ends : List ℕ
  pub needs : List Wait
  pub kept : AreKeptVisits tt cells times ends needs visits visit_ends
  pub ordered : AreOrdered kept.placing.names kept.placing.listed entries

-- the route of an agent
abbrev pub route_by : Timetable → ℕ → Option Track → Route
route_by tt i None = record { cells = []; steps = []; needs = [] }
route_by tt i (Some track) = record {
  cells = path track;
  steps = map (step_of track) (range_with_len 0 (moves track));
  needs = map (need tt i track) (range_with_len 0 (moves track));
}

abbrev pub route_in : Timetable → ℕ → Route
route_in tt i = route_by tt i (track_of tt i)

-- what the visit before asks of an agent
abbrev pub need_of : ℕ → Option Visit → Option Need
need_of i None = None
need_of i (Some v) =
    if v.agent == i then None else Some (record { agent = v.agent; count = v.index + 1 })

-- whom a wait is for, if for anybody
abbrev pub asked_of : Wait → Option (ℕ × ℕ)
asked_of w = if w.count == 0 then None else Some (w.agent, w.count)
