-- All rotations of a timetable, in order.
use Rattle.std.specs.Prelude.{◌≡◌, ℕ, ◌<◌, ◌⊎◌, List, Some, map, slice_get}
use Rattle.model.specs.declared.visit.Rotation.{Rotation}
use Rattle.model.specs.Timetable.{Timetable}
use Rattle.model.specs.Dependency.{IsRotation}

-- a step, and the agents of a rotation in it, the least first
pub record Turn : Type 0 where
  pub step : ℕ
  pub agents : List ℕ

-- a rotation of the code, as a turn
abbrev pub turn_of : Rotation → Turn
turn_of r = record { step = r.step; agents = r.agents.items }

abbrev pub turns_of : List Rotation → List Turn
turns_of rotations = map turn_of rotations

-- a rotation comes before another: by step, and then by least agent
abbrev pub TurnsBefore : Turn → Turn → Type 0
TurnsBefore r s =
    (r.step < s.step)
    ⊎ ((r.step ≡ s.step)
    × ((i j : ℕ) → slice_get r.agents 0 ≡ Some i → slice_get s.agents 0 ≡ Some j → i < j))

-- Each rotation once, by step and then by least agent.
pub record AreRotations (tt : Timetable) (turns : List Turn) : Type 0 where
  pub sound : (n : ℕ) (r : Turn) → slice_get turns n ≡ Some r → IsRotation tt r.step r.agents
  pub whole : (r : Turn) → IsRotation tt r.step r.agents → (n : ℕ) × (slice_get turns n ≡ Some r)
  pub rising : (n m : ℕ) (r s : Turn) → n < m → slice_get turns n ≡ Some r
      → slice_get turns m ≡ Some s → TurnsBefore r s
