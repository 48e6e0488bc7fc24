-- Which move waits for which (Hönig et al. 2019, "Action Dependency Graph"), one dependency a move.
use Rattle.std.specs.Prelude.{◌≡◌, ℕ, ◌+◌, ◌<◌, ◌≤◌, ◌==◌, ◌⊎◌}
use Rattle.std.specs.Prelude.{zero, suc, if◌then◌else◌, nat_lt, List, [], ◌∷◌}
use Rattle.std.specs.Prelude.{length, Option, None, Some, MatchOption, slice_get}
use Rattle.grid.specs.declared.cell.Cell.{Cell}
use Rattle.model.specs.Timetable.{Track, Timetable, same_cell, cell_at, moves_before}
use Rattle.model.specs.Timetable.{moves, step_of, track_of, Stands}

-- an agent, and how many moves it must have finished
pub record Need : Type 0 where
  pub agent : ℕ
  pub count : ℕ

-- an agent, and a time at which it stands in a cell
pub record Stand : Type 0 where
  pub agent : ℕ
  pub time : ℕ

-- the first of the tracks that is in the cell at the time, with its number
abbrev pub stander_among : List Track → ℕ → ℕ → Cell → Option ℕ
stander_among [] i t c = None
stander_among (track ∷ tracks) i t c =
    if same_cell (cell_at track t) c then Some i else stander_among tracks (i + 1) t c

abbrev pub stander : Timetable → ℕ → Cell → Option ℕ
stander tt t c = stander_among tt.tracks 0 t c

abbrev pub stand_or : ℕ → Option ℕ → Option Stand → Option Stand
stand_or t (Some i) before = Some (record { agent = i; time = t })
stand_or t None before = before

-- who stands in the cell at the greatest time up to this one at which somebody does
abbrev pub last_stand : Timetable → Cell → ℕ → Option Stand
last_stand tt c zero = stand_or zero (stander tt zero c) None
last_stand tt c (suc t) = stand_or (suc t) (stander tt (suc t) c) (last_stand tt c t)

-- how many moves an agent makes in the steps before a time
abbrev pub moves_in : Option Track → ℕ → ℕ
moves_in None t = 0
moves_in (Some track) t = moves_before track t

abbrev pub moves_to : Timetable → ℕ → ℕ → ℕ
moves_to tt j t = moves_in (track_of tt j) t

-- what the last stand asks of an agent: nothing where it was its own, else that the other has made
-- all its moves up to the step in which it left
abbrev pub need_by : Timetable → ℕ → Option Stand → Option Need
need_by tt i None = None
need_by tt i (Some s) =
    if s.agent == i then None else Some
    (record { agent = s.agent; count = moves_to tt s.agent (s.time + 1) })

-- the need of a move: at its step, who was last in the cell that it enters
abbrev pub need : Timetable → ℕ → Track → ℕ → Option Need
need tt i track k =
    need_by tt i (last_stand tt (cell_at track (step_of track k + 1)) (step_of track k))

-- the moves that a need asks for are finished, by how many each agent has finished
abbrev pub IsMet : (ℕ → ℕ) → Option Need → Type 0
IsMet finished o = MatchOption o (Unit {0}) (λ n. n.count ≤ finished n.agent)

-- The next move of the one agent waits for a move of the other that isn't finished, by how many
-- each has finished.
pub record WaitsFor (tt : Timetable) (finished : ℕ → ℕ) (i j : ℕ) : Type 0 where
  pub track : Track
  pub count : ℕ
  pub is_track : track_of tt i ≡ Some track
  pub left : finished i < moves track
  pub asks : need tt i track (finished i) ≡ Some (record { agent = j; count = count })
  pub unmet : finished j < count

-- ---- what need and last stand come to, in words without a computation

-- nobody stands in the cell at a time up to this one, or this is the greatest such time and who
-- stands there
abbrev pub IsLastStand : Timetable → Cell → ℕ → Option Stand → Type 0
IsLastStand tt c t o =
    MatchOption o ((r j : ℕ) → r ≤ t → Stands tt j r c → ⊥)
    (λ s. Stands tt s.agent s.time c × (s.time ≤ t)
    × ((r j : ℕ) → s.time < r → r ≤ t → Stands tt j r c → ⊥))

-- The need of a move: at the step of the move, what the last stand in the cell that it enters asks
-- of the agent.
pub record IsNeed (tt : Timetable) (i : ℕ) (track : Track) (k : ℕ) (o : Option Need) : Type 0 where
  pub step : ℕ
  pub last : Option Stand
  pub is_step : moves_before track step ≡ k
  pub leaves : cell_at track step ≡ cell_at track (step + 1) → ⊥
  pub is_last : IsLastStand tt (cell_at track (step + 1)) step last
  pub asks : o ≡ need_by tt i last

-- ---- visits

-- The agent comes into the cell at the time, as the one with this index in its path; it comes into
-- its first cell at time 0.
pub record IsVisit (tt : Timetable) (agent index time : ℕ) (c : Cell) : Type 0 where
  pub track : Track
  pub is_track : track_of tt agent ≡ Some track
  pub is_index : moves_before track time ≡ index
  pub is_there : cell_at track time ≡ c
  pub comes : (before : ℕ) → time ≡ before + 1 → cell_at track before ≡ c → ⊥

-- at the time the agent stands elsewhere, or comes into the cell anew by the visit that begins then
abbrev pub HasEnded : Timetable → (agent index : ℕ) → (other other_index time : ℕ) → Cell → Type 0
HasEnded tt agent index other other_index time c =
    (Stands tt agent time c → ⊥) ⊎ ((agent ≡ other) × (index < other_index))

-- ---- rotations (Stern et al. 2019, "Cycle conflict")

-- in the step the agent i moves into the cell in which the agent j stands when it begins
pub record MovesInto (tt : Timetable) (step i j : ℕ) : Type 0 where
  pub from : Track
  pub to : Track
  pub is_from : track_of tt i ≡ Some from
  pub is_to : track_of tt j ≡ Some to
  pub moves : cell_at from step ≡ cell_at from (step + 1) → ⊥
  pub into : cell_at from (step + 1) ≡ cell_at to step

-- the agent after the one at a place, and after the last the first
abbrev pub following : List ℕ → ℕ → Option ℕ
following agents place =
    if nat_lt (place + 1) (length agents) then slice_get agents (place + 1) else slice_get agents 0

-- At least three different agents, the least first, each of which moves in the step into the cell
-- in which the next one stands.
pub record IsRotation (tt : Timetable) (step : ℕ) (agents : List ℕ) : Type 0 where
  pub three : 3 ≤ length agents
  pub different : (place other i : ℕ) → slice_get agents place ≡ Some i
      → slice_get agents other ≡ Some i → place ≡ other
  pub least : (place first i : ℕ) → slice_get agents 0 ≡ Some first
      → slice_get agents place ≡ Some i → first ≤ i
  pub cycle : (place i j : ℕ) → slice_get agents place ≡ Some i → following agents place ≡ Some j
      → MovesInto tt step i j
