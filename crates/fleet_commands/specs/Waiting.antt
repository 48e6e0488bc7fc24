-- Who waits for whom, directly or through others.
use Rattle.std.specs.Prelude.{◌≡◌, ℕ, List, Some, slice_get}
use Rattle.model.specs.Timetable.{Timetable}
use Rattle.fleet_commands.specs.FoundTapes.{Found}
use Rattle.fleet_commands.specs.Standing.{kept_now, waited_for}

-- by what all tapes have the agent waits for the other, or for one that waits for the other
pub data WaitsThrough (tt : Timetable) (found : List Found) (j : ℕ) : ℕ → Type 0 where
  directly : (i : ℕ) → waited_for (kept_now tt found i) ≡ Some j → WaitsThrough tt found j i
  through : (i k : ℕ) → waited_for (kept_now tt found i) ≡ Some k → WaitsThrough tt found j k
      → WaitsThrough tt found j i

-- these are all agents that wait for the one, each of them once
pub record AreAllThatWait (tt : Timetable) (found : List Found) (j : ℕ)
    (agents : List ℕ) : Type 0 where
  pub wait : (place i : ℕ) → slice_get agents place ≡ Some i → WaitsThrough tt found j i
  pub all : (i : ℕ) → WaitsThrough tt found j i
      → (place : ℕ) × (slice_get agents place ≡ Some i)
  pub once : (place other i : ℕ) → slice_get agents place ≡ Some i
      → slice_get agents other ≡ Some i → place ≡ other
