-- What was read of a source event by event, since its counted reader stood at first.
use Rattle.std.specs.Prelude.{◌≡◌, ◌≢◌, ℕ, ◌<◌, ◌≤◌, List, [], ◌∷◌}
use Rattle.std.specs.Prelude.{◌++◌, Option, Some, None, Result, Ok, Err}
use Rattle.std.specs.Io.KnownBytes.{Consumes}
use Rattle.text_io.specs.declared.counted.Counted.{Counted}
use Rattle.text_io.specs.declared.source.Source.{Source}
use Rattle.text_io.specs.Counted.{counted_inner, failures_of}
use Rattle.text_io.specs.Source.{source_reader}
use Rattle.text_io.specs.Lines.{HasTaken}
use Rattle.text_io.specs.Reading.{OutcomeSays, FailsAs, Outcome, is_value, is_refused, line_number}
use Rattle.model.specs.declared.event.Event.{Event}
use Rattle.model.specs.declared.version.Version.{Version}
use Rattle.event_text.specs.declared.event_fault.EventFault.{EventFault}
use Rattle.event_text.specs.declared.event_reader.EventReader.{EventReader}
use Rattle.event_text.specs.declared.header.Headers.{Headers}
use Rattle.event_text.specs.EventText.{event_header, AreEvents, TakesHeader, RunText}
use Rattle.event_text.specs.EventFault.{EventFaultAt, event_outcome}
use Rattle.event_text.specs.FirstEvents.{FirstEvents, BeginsWithEvents}

-- what lines say that are right: none yet, or the header of the version and an event each
abbrev pub SayEvents : Headers → Option Version → List Event → List (List ℕ) → Type 0
SayEvents headers None events lines = (lines ≡ []) × (events ≡ [])
SayEvents headers (Some version) events lines =
    TakesHeader headers version
    × ((event_lines : List (List ℕ)) × (lines ≡ event_header version ∷ event_lines)
    × AreEvents events event_lines)

-- the text spells the events and the version of the header that was read; before one is read it
-- spells nothing
abbrev pub SpellsRead : Headers → Option Version → List Event → List ℕ → Type 0
SpellsRead headers None events text = ⊥
SpellsRead headers (Some version) events text = RunText headers (version, events) text

-- nothing was read, and these headers are taken
pub record IsAtStart (headers : Headers) (now : EventReader) : Type 0 where
  pub takes : now.headers ≡ headers
  pub no_header : now.version ≡ None
  pub first_line : now.number ≡ 1

-- Just these events were read, behind the header of the reader's version where it has one, and more
-- may come.
pub record HasReadEvents
    {R : Type 0} {ahead : ℕ} (headers : Headers) (remaining : R → Option (List ℕ))
    (first : Counted R) (source : Source R ahead) (now : EventReader)
    (events : List Event) : Type 0 where
  pub takes : now.headers ≡ headers
  pub lines : List (List ℕ)
  pub taken : HasTaken remaining first source lines
  pub said : SayEvents headers now.version events lines
  -- so what the counted reader has delivered begins with them
  pub begins : BeginsWithEvents headers now.version events taken.delivered
  pub numbered : now.number ≡ line_number lines

-- No more events come: the text ended well, or has a fault, or the reader failed. All its events up
-- to there were read, and its version where it has a header.
pub record NoMoreEvents
    {R : Type 0} (headers : Headers) (remaining : R → Option (List ℕ)) (first now : Counted R)
    (version : Option Version) (events : List Event)
    (outcome : Outcome (List Event) EventFault) : Type 0 where
  pub delivered : List ℕ
  pub consumed : Consumes (remaining (counted_inner first))
      (remaining (counted_inner now)) delivered
  pub answer : OutcomeSays (SpellsRead headers version) (EventFaultAt headers) delivered
      (remaining (counted_inner now)) outcome
  pub first_events : FirstEvents headers version events delivered
  -- memory is not needed
  pub not_refused : outcome ≢ is_refused
  pub failures : FailsAs outcome (failures_of first) (failures_of now)

-- what a call for the version answered, after these events: the header is read, or there is none
-- and no event comes
abbrev pub VersionTaken
    : {R : Type 0} {ahead : ℕ} → Headers → (R → Option (List ℕ)) → Counted R → Source R ahead
    → EventReader → List Event → Result Version EventFault → Type 0
VersionTaken headers remaining first source now events (Ok version) =
    HasReadEvents headers remaining first source now events × (now.version ≡ Some version)
VersionTaken headers remaining first source now events (Err fault) =
    NoMoreEvents headers remaining first (source_reader source) None events
    (event_outcome (Err fault)) × (now.version ≡ None)

-- what a call for the next event answered, after these
abbrev pub EventTaken
    : {R : Type 0} {ahead : ℕ} → Headers → (R → Option (List ℕ)) → Counted R → Source R ahead
    → EventReader → List Event → Result (Option Event) EventFault → Type 0
EventTaken headers remaining first source now events (Ok (Some event)) =
    HasReadEvents headers remaining first source now (events ++ event ∷ [])
EventTaken headers remaining first source now events (Ok None) =
    NoMoreEvents headers remaining first (source_reader source) now.version events (is_value events)
EventTaken headers remaining first source now events (Err fault) =
    NoMoreEvents headers remaining first (source_reader source) now.version events
    (event_outcome (Err fault))

-- an event leaves fewer bytes that can come
abbrev pub LeavesFewer : Result (Option Event) EventFault → ℕ → ℕ → Type 0
LeavesFewer (Ok (Some event)) old new = new < old
LeavesFewer (Ok None) old new = new ≤ old
LeavesFewer (Err fault) old new = new ≤ old
