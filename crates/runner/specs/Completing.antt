-- What the texts of a map, a plan and events come to where it is also said how the run ends: the
-- text of the replies, and behind it that of the ending.
use Rattle.std.specs.Prelude.{◌≡◌, ℕ, ◌⊎◌, List, ◌∷◌, [], ◌++◌, length, map, codes}
use Rattle.std.specs.Prelude.{decimal, true, false, Option, Some, Result, Ok, Err, MatchResult}
use Rattle.text_io.specs.declared.counted.Counted.{Counted}
use Rattle.text_io.specs.Counted.{counted_inner, failures_of}
use Rattle.text_io.specs.Reading.{is_value}
use Rattle.text_io.specs.Text.{space, line_feed, ended}
use Rattle.text_io.specs.Writing.{WritesText}
use Rattle.model.specs.declared.event.Event.{Event}
use Rattle.model.specs.declared.version.Version.{Version}
use Rattle.model.specs.History.{Answer, History}
use Rattle.model.specs.Timetable.{Timetable}
use Rattle.event_text.specs.declared.header.Headers.TheVariants.{Either}
use Rattle.event_text.specs.EventLine.{event_line}
use Rattle.event_text.specs.ReplyText.{replies_text}
use Rattle.event_text.specs.Taking.{NoMoreEvents}
use Rattle.planned.specs.Planned.{ReadsTimetable}
use Rattle.planned.specs.declared.planned_fault.PlannedFault.{PlannedFault}
use Rattle.executor.specs.Endings.{IsBlockedBy, IsEndedBy}
use Rattle.executor.specs.SafeRuns.{AreAnsweredAt}
use Rattle.runner.specs.declared.completion.Completion.{Completion}
use Rattle.runner.specs.declared.completion.Completion.TheVariants.{Ends, Blocked}
use Rattle.runner.specs.declared.run_fault.RunFault.{RunFault}
use Rattle.runner.specs.declared.run_fault.RunFault.TheVariants as run_fault
use Rattle.runner.specs.Replaying.{AnswersEvents}

-- a word and a number, with a space between them
abbrev pub numbered_line : List ℕ → ℕ → List ℕ
numbered_line word n = word ++ space ∷ decimal n

-- the text that is written for events that complete a run: how many there are, and the line of each
abbrev pub completion_text : List Event → List ℕ
completion_text events =
    ended (numbered_line (codes "complete") (length events) ∷ map event_line events)

-- the text that is written for a rotation that blocks a run: its number
abbrev pub blocked_text : ℕ → List ℕ
blocked_text n = numbered_line (codes "blocked") n ++ line_feed ∷ []

-- So the run ends, and the text says it: the events of the text end the run, or the rotation blocks
-- it.
abbrev pub SpellsEnding : Version → Timetable → History → Completion → List ℕ → Type 0
SpellsEnding version tt h Ends text =
    (events : List Event) × IsEndedBy version tt h events × (text ≡ completion_text events)
SpellsEnding version tt h (Blocked n) text = IsBlockedBy tt h n × (text ≡ blocked_text n)

-- Events are answered in a safe run of the version, the run that they made ends so, and this is
-- what came of the text of the replies with that of the ending behind it.
pub record Concluded
    (version : Version) (tt : Timetable) (events : List Event) (completion : Completion)
    (CameOf : List ℕ → Type 0) : Type 0 where
  pub answers : List Answer
  pub answered : AreAnsweredAt version tt events answers
  pub ending : List ℕ
  pub spells : SpellsEnding version tt answered.history completion ending
  pub came : CameOf (replies_text answers ++ ending)

-- The text of events was read up to its end, all its events were answered by the version of its
-- header, and their run ends so.
pub record ConcludesAll
    {E : Type 0} (events_left : E → Option (List ℕ)) (tt : Timetable) (old new : Counted E)
    (completion : Completion)
    (CameOf : List ℕ → Type 0) : Type 0 where
  pub version : Version
  pub events : List Event
  pub read : NoMoreEvents Either events_left old new (Some version) events (is_value events)
  pub concluded : Concluded version tt events completion CameOf

-- What the events of a text and the ending come to, by what came of the whole text: all of it is
-- there, or it was broken off, among the replies or behind them. At any other fault nothing is said
-- of the ending.
abbrev pub CompletesEvents
    : {E : Type 0} → (E → Option (List ℕ)) → Timetable → Counted E → Counted E → (List ℕ → Type 0)
    → (List ℕ → Type 0)
    → Result Completion RunFault → Type 0
CompletesEvents events_left tt old new Whole Broken (Ok completion) =
    ConcludesAll events_left tt old new completion Whole
CompletesEvents events_left tt old new Whole Broken (Err run_fault.WriteFailed) =
    AnswersEvents events_left tt old new Whole Broken (Err run_fault.WriteFailed)
    ⊎ ((completion : Completion) × ConcludesAll events_left tt old new completion Broken)
CompletesEvents events_left tt old new Whole Broken (Err fault) =
    AnswersEvents events_left tt old new Whole Broken (Err fault)

-- The events are answered and the ending is said, and the text of the replies and the ending is
-- written, or a beginning of it where the writer failed.
abbrev pub Completes
    : {E W : Type 0} → (E → Option (List ℕ)) → (W → Option (List ℕ)) → Timetable → Counted E
    → Counted E → Counted W → Counted W
    → Result Completion RunFault → Type 0
Completes events_left contents tt old_events new_events old_out new_out =
    CompletesEvents events_left tt old_events new_events
    (WritesText true (contents (counted_inner old_out)) (contents (counted_inner new_out))
    (failures_of old_out) (failures_of new_out))
    (WritesText false (contents (counted_inner old_out)) (contents (counted_inner new_out))
    (failures_of old_out) (failures_of new_out))

-- The map and the plan were read; where the plan is valid, the events were replayed on it and the
-- ending was said, and else neither events nor output were touched.
pub record CompletesText
    {M P E W : Type 0} (map_left : M → Option (List ℕ)) (plan_left : P → Option (List ℕ))
    (events_left : E → Option (List ℕ))
    (contents : W → Option (List ℕ)) (old_map new_map : Counted M) (old_plan new_plan : Counted P)
    (old_events new_events : Counted E)
    (old_out new_out : Counted W) (result : Result Completion RunFault) : Type 0 where
  pub answer : Result Timetable PlannedFault
  pub reads : ReadsTimetable map_left plan_left old_map new_map old_plan new_plan answer
  pub ends : MatchResult answer
      (λ tt. Completes events_left contents tt old_events new_events old_out new_out result)
      (λ fault. (result ≡ Err (run_fault.Planned fault)) × (new_events ≡ old_events)
      × (new_out ≡ old_out))
