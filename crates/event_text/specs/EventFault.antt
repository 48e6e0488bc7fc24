-- The faults of a text of events, and where each stands.
use Rattle.std.specs.Prelude.{◌≡◌, ℕ, ◌+◌, ◌<◌, ◌≤◌, ◌⊎◌, List, length, Vec, Result, Ok, Err}
use Rattle.text_io.specs.Reading.{by_line_feed, Place, at_line_feed, at_byte, at_end, FaultAt}
use Rattle.text_io.specs.Reading.{Outcome, is_value, is_fault, is_failed, is_refused}
use Rattle.model.specs.declared.event.Event.{Event}
use Rattle.model.specs.declared.version.Version.{Version}
use Rattle.event_text.specs.declared.event_fault.EventFault.{EventFault}
use Rattle.event_text.specs.declared.event_fault.EventFault.TheVariants.{NoHeader, BadEvent}
use Rattle.event_text.specs.declared.event_fault.EventFault.TheVariants.{Unfinished, ReadFailed}
use Rattle.event_text.specs.declared.event_fault.EventFault.TheVariants.{OutOfMemory}
use Rattle.event_text.specs.declared.header.Headers.{Headers}
use Rattle.event_text.specs.EventText.{SpellsEvent, IsHeader}

-- the line that may come: a header that is taken, or an event
pub data EventDue : Type 0 where
  event_header_due : Headers → EventDue
  event_due : EventDue

-- the line is right where it is due, and what is due next
abbrev pub EventFollows : EventDue → List ℕ → EventDue → Type 0
EventFollows (event_header_due headers) line next = IsHeader headers line × (next ≡ event_due)
EventFollows event_due line next = (event : Event) × SpellsEvent event line × (next ≡ event_due)

-- no line has more bytes before its LF
abbrev pub longest_event_line : ℕ
longest_event_line = 64

-- the line has not the form that is due
abbrev pub HasOtherEventForm : EventDue → List ℕ → Type 0
HasOtherEventForm (event_header_due headers) line = IsHeader headers line → ⊥
HasOtherEventForm event_due line = (event : Event) → SpellsEvent event line → ⊥

-- The line is wrong: at its LF it has not the form that is due, or it is too long, which is known
-- at its first byte too many.
abbrev pub IsWrongAt : Place → EventDue → List ℕ → Type 0
IsWrongAt at_line_feed due line = (length line ≤ longest_event_line) × HasOtherEventForm due line
IsWrongAt at_byte due line = length line ≡ longest_event_line + 1
IsWrongAt at_end due line = ⊥

-- the input ended before the LF of the line, which was not too long
abbrev pub LacksLineFeed : Place → List ℕ → Type 0
LacksLineFeed at_line_feed line = ⊥
LacksLineFeed at_byte line = ⊥
LacksLineFeed at_end line = length line ≤ longest_event_line

-- The fault of a line at a place, by what was due there; the row of the fault table that each fault
-- has. Where the input ends and nothing came of a line of an event, nothing is wrong.
abbrev pub HasEventFault : EventFault → Place → EventDue → ℕ → List ℕ → Type 0
HasEventFault NoHeader place (event_header_due headers) number line =
    IsWrongAt place (event_header_due headers) line ⊎ LacksLineFeed place line
HasEventFault NoHeader place event_due number line = ⊥
HasEventFault (BadEvent at) place (event_header_due headers) number line = ⊥
HasEventFault (BadEvent at) place event_due number line =
    (at ≡ number) × IsWrongAt place event_due line
HasEventFault (Unfinished at) place (event_header_due headers) number line = ⊥
HasEventFault (Unfinished at) place event_due number line =
    (at ≡ number) × LacksLineFeed place line × (0 < length line)
HasEventFault ReadFailed place due number line = ⊥
HasEventFault OutOfMemory place due number line = ⊥

-- the fault stands at the place where the text ends, and the lines before are right; each line
-- needs its LF
abbrev pub EventFaultAt : Headers → EventFault → Place → List ℕ → Type 0
EventFaultAt headers = FaultAt by_line_feed EventFollows HasEventFault (event_header_due headers)

-- the events of an answer
abbrev pub read_items
    : {A : Type 0} → Result (Vec Event A) EventFault → Result (List Event) EventFault
read_items (Ok events) = Ok events.items
read_items (Err fault) = Err fault

-- the version and the events of an answer
abbrev pub read_run : {A : Type 0} → Result (Version × Vec Event A) EventFault
    → Result (Version × List Event) EventFault
read_run (Ok run) = Ok (run.0, run.1.items)
read_run (Err fault) = Err fault

-- what a reader of events answered, as a reader's outcome
abbrev pub event_outcome : {V : Type 0} → Result V EventFault → Outcome V EventFault
event_outcome (Ok value) = is_value value
event_outcome (Err NoHeader) = is_fault NoHeader
event_outcome (Err (BadEvent line)) = is_fault (BadEvent line)
event_outcome (Err (Unfinished line)) = is_fault (Unfinished line)
event_outcome (Err ReadFailed) = is_failed
event_outcome (Err OutOfMemory) = is_refused
