-- What the texts of a map, a plan and events come to: the text of the replies.
use Rattle.std.specs.Prelude.{◌≡◌, ℕ, Bool, true, false, List, []}
use Rattle.std.specs.Prelude.{Option, None, Some, Result, Ok, Err, MatchResult}
use Rattle.std.specs.Io.KnownBytes.{Consumes}
use Rattle.text_io.specs.declared.counted.Counted.{Counted}
use Rattle.text_io.specs.Counted.{counted_inner, failures_of}
use Rattle.text_io.specs.Reading.{Outcome, is_value}
use Rattle.text_io.specs.Writing.{WritesText}
use Rattle.model.specs.declared.event.Event.{Event}
use Rattle.model.specs.declared.version.Version.{Version}
use Rattle.model.specs.History.{Answer}
use Rattle.model.specs.Timetable.{Timetable}
use Rattle.planned.specs.Planned.{ReadsTimetable}
use Rattle.planned.specs.declared.planned_fault.PlannedFault.{PlannedFault}
use Rattle.event_text.specs.declared.event_fault.EventFault.{EventFault}
use Rattle.event_text.specs.declared.header.Headers.TheVariants.{Either}
use Rattle.event_text.specs.EventFault.{event_outcome}
use Rattle.event_text.specs.FirstEvents.{BeginsWithEvents}
use Rattle.event_text.specs.ReplyText.{replies_text}
use Rattle.event_text.specs.Taking.{NoMoreEvents}
use Rattle.executor.specs.SafeRuns.{AreAnsweredAt}
use Rattle.runner.specs.declared.run_fault.RunFault.{RunFault}
use Rattle.runner.specs.declared.run_fault.RunFault.TheVariants as run_fault

-- Events are answered in a safe run of the version, and this is what came of the text of their
-- replies.
pub record Answered (version : Version) (tt : Timetable) (events : List Event) (CameOf : List ℕ
    → Type 0) : Type 0 where
  pub answers : List Answer
  pub answered : AreAnsweredAt version tt events answers
  pub came : CameOf (replies_text answers)

-- They are answered in a run of the version of a header. Without a header there is none of them,
-- and no reply.
abbrev pub AnsweredBehind : Option Version → Timetable → List Event → (List ℕ → Type 0) → Type 0
AnsweredBehind None tt events CameOf = (events ≡ []) × CameOf []
AnsweredBehind (Some version) tt events CameOf = Answered version tt events CameOf

-- The text of events was read up to its end, its first fault or the failure of its reader, and all
-- its events up to there were answered by the version of its header.
pub record AnswersAll
    {E : Type 0} (events_left : E → Option (List ℕ)) (tt : Timetable) (old new : Counted E)
    (outcome : List Event → Outcome (List Event) EventFault) (CameOf : List ℕ
    → Type 0) : Type 0 where
  pub version : Option Version
  pub events : List Event
  pub read : NoMoreEvents Either events_left old new version events (outcome events)
  pub replies : AnsweredBehind version tt events CameOf

-- Some of the first events of the text were answered, by the version of its header.
pub record AnswersSome
    {E : Type 0} (events_left : E → Option (List ℕ)) (tt : Timetable) (old new : Counted E)
    (CameOf : List ℕ → Type 0) : Type 0 where
  pub version : Option Version
  pub events : List Event
  pub delivered : List ℕ
  pub consumed : Consumes (events_left (counted_inner old))
      (events_left (counted_inner new)) delivered
  pub begins : BeginsWithEvents Either version events delivered
  pub replies : AnsweredBehind version tt events CameOf

-- What the events of a text come to, by what came of the text of the replies: all of it is there,
-- or it was broken off.
abbrev pub AnswersEvents
    : {E : Type 0} → (E → Option (List ℕ)) → Timetable → Counted E → Counted E → (List ℕ → Type 0)
    → (List ℕ → Type 0)
    → Result Unit RunFault → Type 0
AnswersEvents events_left tt old new Whole Broken (Ok done) =
    AnswersAll events_left tt old new (λ events. is_value events) Whole
AnswersEvents events_left tt old new Whole Broken (Err (run_fault.Events fault)) =
    AnswersAll events_left tt old new (λ events. event_outcome (Err fault)) Whole
AnswersEvents events_left tt old new Whole Broken (Err run_fault.WriteFailed) =
    AnswersSome events_left tt old new Broken
AnswersEvents events_left tt old new Whole Broken (Err run_fault.OutOfMemory) =
    AnswersSome events_left tt old new Whole
AnswersEvents events_left tt old new Whole Broken (Err (run_fault.Planned fault)) = ⊥

-- whether no write failed
abbrev pub was_written : {V : Type 0} → Result V RunFault → Bool
was_written (Err run_fault.WriteFailed) = false
was_written _ = true

-- The events are answered, and the text of the replies is written, or a beginning of it where the
-- writer failed.
abbrev pub Replays
    : {E W : Type 0} → (E → Option (List ℕ)) → (W → Option (List ℕ)) → Timetable → Counted E
    → Counted E → Counted W → Counted W
    → Result Unit RunFault → Type 0
Replays events_left contents tt old_events new_events old_out new_out =
    AnswersEvents events_left tt old_events new_events
    (WritesText true (contents (counted_inner old_out)) (contents (counted_inner new_out))
    (failures_of old_out) (failures_of new_out))
    (WritesText false (contents (counted_inner old_out)) (contents (counted_inner new_out))
    (failures_of old_out) (failures_of new_out))

-- The map and the plan were read; where the plan is valid, the events were replayed on it, and else
-- neither events nor output were touched.
pub record RunsText
    {M P E W : Type 0} (map_left : M → Option (List ℕ)) (plan_left : P → Option (List ℕ))
    (events_left : E → Option (List ℕ))
    (contents : W → Option (List ℕ)) (old_map new_map : Counted M) (old_plan new_plan : Counted P)
    (old_events new_events : Counted E)
    (old_out new_out : Counted W) (result : Result Unit RunFault) : Type 0 where
  pub answer : Result Timetable PlannedFault
  pub reads : ReadsTimetable map_left plan_left old_map new_map old_plan new_plan answer
  pub ends : MatchResult answer
      (λ tt. Replays events_left contents tt old_events new_events old_out new_out result)
      (λ fault. (result ≡ Err (run_fault.Planned fault)) × (new_events ≡ old_events)
      × (new_out ≡ old_out))
