-- What is promised of every run.
use Rattle.std.specs.Prelude.{◌≡◌, ℕ, ◌≤◌, List, ◌++◌, map, reverse, Some, slice_get}
use Rattle.model.specs.declared.event.Event.{Event}
use Rattle.model.specs.declared.version.Version.{Version}
use Rattle.model.specs.declared.version.Version.TheVariants.{One}
use Rattle.model.specs.Dependency.{IsRotation}
use Rattle.model.specs.History.{Answer, History, kept_starts}
use Rattle.model.specs.Rules.{IsRun}
use Rattle.model.specs.Safety.{IsSafe}
use Rattle.model.specs.Timetable.{Track, Timetable, moves_before, track_of}

-- Each answer is the one that the rules give at the version, each beginning is safe, and of a
-- rotation no move has begun.
pub record IsSafeRun (version : Version) (tt : Timetable) (h : History) : Type 0 where
  pub run : IsRun version tt h
  pub safe : (later earlier : History) → h ≡ later ++ earlier → IsSafe tt earlier
  pub rotations : (step : ℕ) (agents : List ℕ) (place i : ℕ) (track : Track)
      → IsRotation tt step agents → slice_get agents place ≡ Some i
      → track_of tt i ≡ Some track → kept_starts h i ≤ moves_before track step

-- There is one answer an event, both in order, and with them the events are a safe run of the
-- version.
pub record AreAnsweredAt (version : Version) (tt : Timetable) (events : List Event)
    (answers : List Answer) : Type 0 where
  pub history : History
  pub same_events : map (λ now. now.event) history ≡ reverse events
  pub same_answers : map (λ now. now.answer) history ≡ reverse answers
  pub safe : IsSafeRun version tt history

-- the same at version 1
abbrev pub AreAnswered : Timetable → List Event → List Answer → Type 0
AreAnswered = AreAnsweredAt One
