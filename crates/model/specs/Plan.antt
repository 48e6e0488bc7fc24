-- What a plan is, which faults it has, and when it is valid (Stern et al. 2019, "Classical MAPF",
-- "Types of conflicts").
use Rattle.std.specs.Prelude.{◌≡◌, ◌≢◌, ℕ, ℤ, pos, ◌+ℤ◌, ◌-ℤ◌, ◌+◌, ◌<◌, ◌⊎◌}
use Rattle.std.specs.Prelude.{zero, suc, List, [], ◌∷◌, length, max, Option, MatchOption, slice_get}
use Rattle.grid.specs.declared.cell.Cell.{Cell}
use Rattle.grid.specs.Map.{Grid, IsStraightStep}
use Rattle.model.specs.declared.act.Act.{Act}
use Rattle.model.specs.declared.act.Act.TheVariants.{N, E, S, W, Wait}
use Rattle.model.specs.declared.plan_fault.PlanFault.{PlanFault}
use Rattle.model.specs.declared.plan_fault.PlanFault.TheVariants.{BadStart, BadMove, Vertex}
use Rattle.model.specs.declared.plan_fault.PlanFault.TheVariants.{Swap, OutOfMemory}
use Rattle.model.specs.Timetable.{Track, Timetable, cell_at}
use Rattle.model.specs.Costs.{EndsAtRest}
pub use Rattle.grid.specs.Map.{IsPassable}

-- a cell, or a place off the map
pub record Position : Type 0 where
  pub x : ℤ
  pub y : ℤ

abbrev pub position_of : Cell → Position
position_of c = record { x = pos c.x; y = pos c.y }

-- an agent's start and its acts
pub record Course : Type 0 where
  pub start : Cell
  pub acts : List Act

pub record Plan : Type 0 where
  pub number : ℕ
  pub courses : List Course

-- x grows to the east, y to the south
abbrev pub moved : Act → Position → Position
moved N p = record { x = p.x; y = p.y -ℤ pos 1 }
moved E p = record { x = p.x +ℤ pos 1; y = p.y }
moved S p = record { x = p.x; y = p.y +ℤ pos 1 }
moved W p = record { x = p.x -ℤ pos 1; y = p.y }
moved Wait p = p

-- where the first so many acts lead; after the last the agent stays
abbrev pub position_after : Position → List Act → ℕ → Position
position_after p [] t = p
position_after p (a ∷ acts) zero = p
position_after p (a ∷ acts) (suc t) = position_after (moved a p) acts t

abbrev pub position_at : Course → ℕ → Position
position_at course t = position_after (position_of course.start) course.acts t

abbrev pub course_of : Plan → ℕ → Option Course
course_of p i = slice_get p.courses i

-- where an agent that there is stands at a time
abbrev pub IsAt : Plan → ℕ → ℕ → Position → Type 0
IsAt p i t place = MatchOption (course_of p i) ⊥ (λ course. position_at course t ≡ place)

-- ---- faults

-- a legal straight step leads from the one place to the other
pub record IsLegal (m : Grid) (from to : Position) : Type 0 where
  pub u : Cell
  pub v : Cell
  pub is_from : position_of u ≡ from
  pub is_to : position_of v ≡ to
  pub step : IsStraightStep m u v

-- the act of the step is no wait, and leads by no legal step
abbrev pub IsBadMove : Grid → Course → ℕ → Type 0
IsBadMove m course step =
    MatchOption (slice_get course.acts step) ⊥ (λ act. (act ≢ Wait)
    × (IsLegal m (position_at course step) (position_at course (step + 1)) → ⊥))

-- the fault is one of the plan
abbrev pub HasPlanFault : Grid → Plan → PlanFault → Type 0
HasPlanFault m p (BadStart i) =
    MatchOption (course_of p i) ⊥ (λ course. IsPassable m course.start → ⊥)
HasPlanFault m p (BadMove i step) =
    MatchOption (course_of p i) ⊥ (λ course. IsBadMove m course step)
HasPlanFault m p (Vertex i j time cell) =
    (i < j) × IsAt p i time (position_of cell) × IsAt p j time (position_of cell)
HasPlanFault m p (Swap i j step) =
    (i < j) × (u : Position) × (v : Position) × (u ≢ v) × IsAt p i step u × IsAt p i (step + 1) v
    × IsAt p j step v × IsAt p j (step + 1) u
HasPlanFault m p OutOfMemory = ⊥

-- no agent and no pair of agents has a fault at any time
abbrev pub IsValid : Grid → Plan → Type 0
IsValid m p = (fault : PlanFault) → HasPlanFault m p fault → ⊥

-- ---- the least fault

-- the time of a fault, its rank among those of one time, and its agents
pub record Key : Type 0 where
  pub time : ℕ
  pub rank : ℕ
  pub first : ℕ
  pub second : ℕ

abbrev pub key_of : PlanFault → Key
key_of (BadStart i) = record { time = 0; rank = 0; first = i; second = 0 }
key_of (BadMove i step) = record { time = step + 1; rank = 0; first = i; second = 0 }
key_of (Vertex i j time cell) = record { time = time; rank = 1; first = i; second = j }
key_of (Swap i j step) = record { time = step + 1; rank = 2; first = i; second = j }
key_of OutOfMemory = record { time = 0; rank = 3; first = 0; second = 0 }

-- by time, then rank, then the first agent, then the second
abbrev pub IsBefore : Key → Key → Type 0
IsBefore a b =
    (a.time < b.time)
    ⊎ ((a.time ≡ b.time) × ((a.rank < b.rank)
    ⊎ ((a.rank ≡ b.rank) × ((a.first < b.first)
    ⊎ ((a.first ≡ b.first) × (a.second < b.second))))))

-- the plan has the fault, and none before it
pub record IsLeastFault (m : Grid) (p : Plan) (fault : PlanFault) : Type 0 where
  pub has : HasPlanFault m p fault
  pub first
      : (other : PlanFault) → HasPlanFault m p other → IsBefore (key_of other) (key_of fault) → ⊥

-- the greatest number of acts
abbrev pub longest_of : List Course → ℕ
longest_of [] = 0
longest_of (course ∷ courses) = max (length course.acts) (longest_of courses)

-- ---- the timetable of a plan that stays on its map

-- the track has the course's places, and leaves out what the agent waits after it has come to rest
pub record IsTrackOf (course : Course) (track : Track) : Type 0 where
  pub at_rest : EndsAtRest track
  pub places : (t : ℕ) → position_of (cell_at track t) ≡ position_at course t

abbrev pub AreTracksOf : List Course → List Track → Type 0
AreTracksOf [] tracks = tracks ≡ []
AreTracksOf (course ∷ courses) tracks =
    (track : Track) × (others : List Track) × (tracks ≡ track ∷ others) × IsTrackOf course track
    × AreTracksOf courses others

pub record IsTimetableOf (p : Plan) (tt : Timetable) : Type 0 where
  pub number : tt.number ≡ p.number
  pub tracks : AreTracksOf p.courses tt.tracks
