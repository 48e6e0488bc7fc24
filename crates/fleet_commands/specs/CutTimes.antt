-- At which time a plan may be cut, so that what is left has every move that was begun.
use Rattle.std.specs.Prelude.{◌≡◌, ℕ, ◌≤◌, List, Some}
use Rattle.model.specs.Timetable.{Track, Timetable, moves_before, track_of}
use Rattle.fleet_commands.specs.FoundTapes.{Found, begun_by}

-- in the steps before the time each agent makes as many moves as it has begun by its tape
abbrev pub HasAllBegun : Timetable → List Found → ℕ → Type 0
HasAllBegun tt found time =
    (i : ℕ) (track : Track) → track_of tt i ≡ Some track
    → begun_by found i ≤ moves_before track time

-- it is the least such time
pub record IsCutTime (tt : Timetable) (found : List Found) (time : ℕ) : Type 0 where
  pub has_all : HasAllBegun tt found time
  pub least : (sooner : ℕ) → HasAllBegun tt found sooner → time ≤ sooner
