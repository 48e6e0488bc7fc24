-- What came of the text of the replies, from one point to the next.
use Rattle.std.proofs.Common.{◌≡◌, ◌∙◌, ℕ, Bool, true, false, List, [], ◌++◌, Option, None, Some, Result, Ok, Err, sym, ap, subst, append-nil}
use Rattle.std.specs.Io.KnownBytes.{Appends}
use Rattle.text_io.specs.declared.counted.Counted.{Counted}
use Rattle.text_io.specs.declared.sink.Sink.{Sink}
use Rattle.text_io.specs.Counted.{counted_inner, failures_of}
use Rattle.text_io.specs.Sink.{held_back, sink_writer, Puts, Breaks}
use Rattle.text_io.specs.Writing.{WritesText}
use Rattle.text_io.specs.Reading.{Outcome}
use Rattle.model.specs.declared.event.Event.{Event}
use Rattle.model.specs.declared.version.Version.{Version}
use Rattle.model.specs.Timetable.{Timetable}
use Rattle.event_text.specs.declared.event_fault.EventFault.{EventFault}
use Rattle.event_text.specs.declared.header.Headers.{Headers}
use Rattle.event_text.specs.declared.header.Headers.TheVariants.{Either}
use Rattle.event_text.specs.FirstEvents.{FirstEvents, BeginsWithEvents}
use Rattle.runner.specs.Replaying.{AnsweredBehind, AnswersAll, AnswersSome, AnswersEvents, was_written}
use Rattle.runner.specs.declared.run_fault.RunFault.{RunFault}
use Rattle.runner.specs.declared.run_fault.RunFault.TheVariants as run_fault

-- ---- what was put is what is written

module _ {W : Type 0} (contents : W → Option (List ℕ)) (first last : Sink W) (text : List ℕ) where
  abbrev pub Wrote : Bool → Type 0
  Wrote whole =
      WritesText whole (contents (counted_inner (sink_writer first))) (contents (counted_inner (sink_writer last))) (failures_of (sink_writer first))
      (failures_of (sink_writer last)) text

  pub put_whole : held_back first ≡ [] → held_back last ≡ [] → Puts contents first last text → Wrote true
  put_whole none handed puts =
      let all : text ≡ puts.sent = ap (λ xs. xs ++ text) (sym none) ∙ puts.in_order ∙ ap (λ xs. puts.sent ++ xs) handed ∙ append-nil puts.sent in
      (subst (Appends (contents (sink_writer first).inner) (contents (sink_writer last).inner)) (sym all) puts.appended, puts.failures)

  pub put_broken : held_back first ≡ [] → Breaks contents first last text → Wrote false
  put_broken none breaks = (breaks.sent, breaks.rest, ap (λ xs. xs ++ text) (sym none) ∙ breaks.begins, breaks.appended, breaks.failures)

-- ---- the answers stay where more comes of their text

came_on : (version : Option Version) (tt : Timetable) (events : List Event) (CameOf MoreOf : List ℕ → Type 0)
    → AnsweredBehind version tt events CameOf → ((text : List ℕ) → CameOf text → MoreOf text) → AnsweredBehind version tt events MoreOf
came_on None tt events CameOf MoreOf a on = (a.0, on [] a.1)
came_on (Some version) tt events CameOf MoreOf a on = record { answers = a.answers; answered = a.answered; came = on _ a.came }

some_first : (headers : Headers) (version : Option Version) (events : List Event) (text : List ℕ) → FirstEvents headers version events text
    → BeginsWithEvents headers version events text
some_first headers None events text first = first.0
some_first headers (Some version) events text (takes, (lines, rest, is, are, stop)) = (takes, (lines, rest, is, are))

pub some_on : {E : Type 0} (events_left : E → Option (List ℕ)) (tt : Timetable) (old new : Counted E) (CameOf MoreOf : List ℕ → Type 0)
    → AnswersSome events_left tt old new CameOf → ((text : List ℕ) → CameOf text → MoreOf text) → AnswersSome events_left tt old new MoreOf
some_on events_left tt old new CameOf MoreOf a on = record {
  version = a.version;
  events = a.events;
  delivered = a.delivered;
  consumed = a.consumed;
  begins = a.begins;
  replies = came_on a.version tt a.events CameOf MoreOf a.replies on;
}

pub all_some : {E : Type 0} (events_left : E → Option (List ℕ)) (tt : Timetable) (old new : Counted E) (outcome : List Event → Outcome (List Event) EventFault)
    (CameOf MoreOf : List ℕ → Type 0) → AnswersAll events_left tt old new outcome CameOf
    → ((text : List ℕ) → CameOf text → MoreOf text) → AnswersSome events_left tt old new MoreOf
all_some events_left tt old new outcome CameOf MoreOf a on = record {
  version = a.version;
  events = a.events;
  delivered = a.read.delivered;
  consumed = a.read.consumed;
  begins = some_first Either a.version a.events a.read.delivered a.read.first_events;
  replies = came_on a.version tt a.events CameOf MoreOf a.replies on;
}

module _ {E : Type 0} (events_left : E → Option (List ℕ)) (tt : Timetable) (old new : Counted E) (Whole Broken : List ℕ → Type 0) where
  abbrev Ends : Result Unit RunFault → Type 0
  Ends = AnswersEvents events_left tt old new Whole Broken

  -- all of the text is handed on
  pub handed_on : (MoreOf Other : List ℕ → Type 0) (answer : Result Unit RunFault) → was_written answer ≡ true → Ends answer
      → ((text : List ℕ) → Whole text → MoreOf text) → AnswersEvents events_left tt old new MoreOf Other answer
  handed_on MoreOf Other (Ok done) well a on = record { version = a.version; events = a.events; read = a.read; replies = came_on a.version tt a.events Whole MoreOf a.replies on }
  handed_on MoreOf Other (Err (run_fault.Events fault)) well a on =
      record { version = a.version; events = a.events; read = a.read; replies = came_on a.version tt a.events Whole MoreOf a.replies on }
  handed_on MoreOf Other (Err run_fault.OutOfMemory) well a on = some_on events_left tt old new Whole MoreOf a on
  handed_on MoreOf Other (Err run_fault.WriteFailed) well a on = let bad : false ≡ true = well in cc
  handed_on MoreOf Other (Err (run_fault.Planned fault)) well a on = absurd a

  -- the last of it could not be handed on
  pub not_handed_on : (MoreOf : List ℕ → Type 0) (answer : Result Unit RunFault) → was_written answer ≡ true → Ends answer
      → ((text : List ℕ) → Whole text → MoreOf text) → AnswersSome events_left tt old new MoreOf
  not_handed_on MoreOf (Ok done) well a on = all_some events_left tt old new _ Whole MoreOf a on
  not_handed_on MoreOf (Err (run_fault.Events fault)) well a on = all_some events_left tt old new _ Whole MoreOf a on
  not_handed_on MoreOf (Err run_fault.OutOfMemory) well a on = some_on events_left tt old new Whole MoreOf a on
  not_handed_on MoreOf (Err run_fault.WriteFailed) well a on = let bad : false ≡ true = well in cc
  not_handed_on MoreOf (Err (run_fault.Planned fault)) well a on = absurd a

  -- it was broken off before
  pub left_off : (Other MoreOf : List ℕ → Type 0) (answer : Result Unit RunFault) → was_written answer ≡ false → Ends answer
      → ((text : List ℕ) → Broken text → MoreOf text) → AnswersEvents events_left tt old new Other MoreOf answer
  left_off Other MoreOf (Ok done) off a on = let bad : true ≡ false = off in cc
  left_off Other MoreOf (Err (run_fault.Events fault)) off a on = let bad : true ≡ false = off in cc
  left_off Other MoreOf (Err run_fault.OutOfMemory) off a on = let bad : true ≡ false = off in cc
  left_off Other MoreOf (Err run_fault.WriteFailed) off a on = some_on events_left tt old new Broken MoreOf a on
  left_off Other MoreOf (Err (run_fault.Planned fault)) off a on = absurd a
