-- Who moves into whose cell in a step, by what the moves wait for.
use Rattle.std.specs.Prelude.{◌≡◌, ℕ, ◌+◌, ◌*◌, ◌<◌, List, [], ◌∷◌, get_or, Some, slice_get}
use Rattle.model.specs.declared.visit.Visit.{Visit}
use Rattle.model.specs.Timetable.{Timetable}
use Rattle.model.specs.Dependency.{IsRotation}
use Rattle.depgraph.specs.declared.placing.Arrival.{Arrival}
use Rattle.depgraph.specs.declared.waiting.Wait.{Wait}
use Rattle.depgraph.specs.Graphs.{IsGraphed}
use Rattle.depgraph.specs.Rotations.{Turn}
use Rattle.depgraph.specs.Code.Paths.{all_times}
use Rattle.depgraph.specs.Code.Placing.{IsTimeline, IsPlacing}
use Rattle.depgraph.specs.Code.Waits.{no_wait, AreWaits, AreAhead}

-- what the moves of a timetable wait for by its visits, and which moves of the same step
pub record AreLaid (tt : Timetable) (ends : List ℕ) (waits : List Wait)
    (ahead : List ℕ) : Type 0 where
  pub graphed : IsGraphed tt
  pub arrivals : List Arrival
  pub step_ends : List ℕ
  pub line : IsTimeline tt.tracks ends arrivals step_ends
  pub visits : List Visit
  pub visit_ends : List ℕ
  pub placing : IsPlacing tt.tracks ends arrivals visits visit_ends
  pub are_waits : AreWaits ends visits visit_ends waits
  pub are_ahead : AreAhead (all_times tt.tracks) ends visits visit_ends ahead

-- Each rotation once, in any order: no two of a step have one least agent.
pub record AreAllRotations (tt : Timetable) (turns : List Turn) : Type 0 where
  pub sound : (n : ℕ) (r : Turn) → slice_get turns n ≡ Some r → IsRotation tt r.step r.agents
  pub whole : (r : Turn) → IsRotation tt r.step r.agents → (n : ℕ) × (slice_get turns n ≡ Some r)
  pub different : (n m i : ℕ) (r s : Turn) → n < m → slice_get turns n ≡ Some r
      → slice_get turns m ≡ Some s → r.step ≡ s.step
      → slice_get r.agents 0 ≡ Some i → slice_get s.agents 0 ≡ Some i → ⊥

-- the agents of entries, the first of which is known: each waits for the next
abbrev pub agents_of : List Wait → ℕ → List ℕ → List ℕ
agents_of waits i [] = []
agents_of waits i (e ∷ entries) = i ∷ agents_of waits (get_or waits e no_wait).agent entries

-- a rotation's step and least agent, in one number
abbrev pub key_by : ℕ → List ℕ → ℕ
key_by step agents = step * 65536 + get_or agents 0 0
