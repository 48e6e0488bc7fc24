-- Rounds: what has to happen so that a fleet comes on, by what its agents did. Logs have the newest
-- first, and the deeds of an agent stand in order.
use Rattle.std.specs.Prelude.{◌≡◌, ℕ, ◌*◌, ◌<◌, ◌≤◌, zero, suc, Bool, true, false}
use Rattle.std.specs.Prelude.{List, ◌∷◌, ◌++◌, MatchOption, Some, Result, Err}
use Rattle.std.specs.List.{AllByRecursion}
use Rattle.grid.specs.declared.cell.Cell.{Cell}
use Rattle.model.specs.Dependency.{need}
use Rattle.model.specs.Timetable.{Track, Timetable, moves, track_of}
use Rattle.agent.specs.Counters.{known_in}
use Rattle.agent.specs.States.{State, is_on_the_way, finished_moves}
use Rattle.agent.specs.declared.refusal.Refusal.{Refusal}
use Rattle.agent.specs.declared.refusal.Refusal.TheVariants.{StoreFailed}
use Rattle.fleet.specs.Deeds.{Deed, opens, starts, finishes, ends_starting, ends_finishing, DoesAll}
use Rattle.fleet.specs.Fleets.{Log, deeds_of}

-- no tape was opened, and no write failed
abbrev pub is_calm : Deed → Bool
is_calm (opens what count) = false
is_calm (starts (Err StoreFailed)) = false
is_calm (finishes (Err StoreFailed)) = false
is_calm ends_starting = false
is_calm ends_finishing = false
is_calm _ = true

-- what was done led each agent from the one state to the other
abbrev pub AreLedFrom : Timetable → (ℕ → State) → Log → (ℕ → State) → Type 0
AreLedFrom tt old during new =
    (i : ℕ) (track : Track) → track_of tt i ≡ Some track
    → DoesAll tt i track (old i) (deeds_of during i) (new i)

-- the agent was asked to finish
pub record TriesToFinish (during : Log) (i : ℕ) : Type 0 where
  pub answer : Result Cell Refusal
  pub earlier : List Deed
  pub later : List Deed
  pub when : deeds_of during i ≡ earlier ++ finishes answer ∷ later

-- The agent tried to start, and had heard by then of whom its move waits for at least what that one
-- had finished when the round began.
pub record TriesToStart (tt : Timetable) (old : ℕ → State) (during : Log) (i : ℕ)
    (track : Track) : Type 0 where
  pub answer : Result Cell Refusal
  pub earlier : List Deed
  pub later : List Deed
  pub when : deeds_of during i ≡ earlier ++ starts answer ∷ later
  pub has_heard : (s : State) → DoesAll tt i track (old i) earlier s
      → MatchOption (need tt i track (finished_moves (old i))) (Unit {0})
      (λ n. finished_moves (old n.agent) ≤ known_in s.heard n.agent)

-- A round: nobody is broken when it begins, no tape is opened in it, and no write fails; whoever
-- was moving is asked to finish, and whoever stood and has a move left tries to start, having heard
-- of the one that its move waits for. Whatever else happens in it.
pub record IsRound (tt : Timetable) (old : ℕ → State) (during : Log)
    (new : ℕ → State) : Type 0 where
  pub led : AreLedFrom tt old during new
  pub whole : (i : ℕ) (track : Track) → track_of tt i ≡ Some track → (old i).broken ≡ false
  pub calm : (i : ℕ) → AllByRecursion (λ deed. is_calm deed ≡ true) (deeds_of during i)
  pub finishes : (i : ℕ) (track : Track) → track_of tt i ≡ Some track
      → is_on_the_way (old i) ≡ true → TriesToFinish during i
  pub starts : (i : ℕ) (track : Track) → track_of tt i ≡ Some track
      → is_on_the_way (old i) ≡ false → finished_moves (old i) < moves track
      → TriesToStart tt old during i track

-- so many rounds, one behind the other; whatever happens between them
abbrev pub HasRounds : Timetable → ℕ → (ℕ → State) → Type 0
HasRounds tt zero states = Unit {0}
HasRounds tt (suc n) states =
    (old : ℕ → State) × (new : ℕ → State) × (during : Log) × (after : Log)
    × IsRound tt old during new × AreLedFrom tt new after states × HasRounds tt n old

-- every agent has finished all its moves, and stands
abbrev pub HaveAllArrived : Timetable → (ℕ → State) → Type 0
HaveAllArrived tt states =
    (i : ℕ) (track : Track) → track_of tt i ≡ Some track → (states i).records ≡ 2 * moves track
