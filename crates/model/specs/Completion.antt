-- How a run ends: what brings every agent to its end, or the rotation that keeps some from it.
use Rattle.std.specs.Prelude.{◌≡◌, ℕ, ◌≤◌, false, List, [], ◌∷◌, Some, slice_get}
use Rattle.model.specs.declared.event.Event.{Event}
use Rattle.model.specs.declared.why.Why.{Why}
use Rattle.model.specs.declared.version.Version.{Version}
use Rattle.model.specs.Timetable.{Track, Timetable, moves, moves_before, track_of}
use Rattle.model.specs.Dependency.{IsRotation}
use Rattle.model.specs.History.{Answer, refused, History, done, is_moving}
use Rattle.model.specs.Rules.{answer}

-- what has happened when events were answered by the rules, one after another, after what happened
-- before
abbrev pub history_after : Version → Timetable → History → List Event → History
history_after version tt h [] = h
history_after version tt h (e ∷ events) =
    history_after version tt (record { event = e; answer = answer version tt h e } ∷ h) events

abbrev pub IsAnswerRefused : Answer → Type 0
IsAnswerRefused r = (why : Why) × (r ≡ refused why)

-- none of the events is answered with a refusal
abbrev pub AreAccepted : Version → Timetable → History → List Event → Type 0
AreAccepted version tt h [] = Unit {0}
AreAccepted version tt h (e ∷ events) =
    (IsAnswerRefused (answer version tt h e) → ⊥)
    × AreAccepted version tt (record { event = e; answer = answer version tt h e } ∷ h) events

-- the agent has finished all its moves, and is not moving
pub record HasArrived (h : History) (i : ℕ) (track : Track) : Type 0 where
  pub all : done h i ≡ moves track
  pub still : is_moving h i ≡ false

-- Events that, answered after the history, are none of them refused, and bring every agent to its
-- end. Nothing is asked of broken agents.
pub record IsCompletion (version : Version) (tt : Timetable) (h : History)
    (events : List Event) : Type 0 where
  pub accepted : AreAccepted version tt h events
  pub arrived : (i : ℕ) (track : Track) → track_of tt i ≡ Some track
      → HasArrived (history_after version tt h events) i track

-- one of the agents has not finished the move that it makes in the step
abbrev pub IsUnfinished : Timetable → History → (step : ℕ) → List ℕ → Type 0
IsUnfinished tt h step agents =
    (place : ℕ) × (i : ℕ) × (track : Track) × (slice_get agents place ≡ Some i)
    × (track_of tt i ≡ Some track) × (done h i ≤ moves_before track step)

-- there is a rotation one of whose moves isn't finished
abbrev pub IsBlocked : Timetable → History → Type 0
IsBlocked tt h =
    (step : ℕ) × (agents : List ℕ) × IsRotation tt step agents × IsUnfinished tt h step agents
