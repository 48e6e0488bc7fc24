-- What the reader of events answers, by the lines that it took.
use Rattle.std.proofs.Common.{◌≡◌, ℕ, ◌+◌, ◌<◌, ◌≤◌, ◌⊎◌, inl, inr, List, [], ◌∷◌, ◌++◌, length, take, refl, sym, ap, ◌∙◌, subst, arith, append-nil, append_assoc, Some, None, Err}
use Rattle.std.specs.Prelude.{Option}
use Rattle.std.proofs.lemmas.List.{length-take, nil_from_length}
use Rattle.text_io.specs.declared.counted.Counted.{Counted}
use Rattle.text_io.specs.declared.source.Source.{Source}
use Rattle.text_io.specs.Counted.{counted_inner, failures_of}
use Rattle.text_io.specs.Source.{source_reader}
use Rattle.text_io.specs.Text.{ended, line_feed}
use Rattle.text_io.specs.Lines.{HasTaken, HasCome, LineEnded, InputEnded, LineTooLong, ReaderFailed, LineTaken}
use Rattle.text_io.specs.declared.lines.TakenLine.{TakenLine}
use Rattle.text_io.specs.declared.lines.TakenLine.TheVariants.{AtEnd, TooLong}
use Rattle.text_io.specs.Reading.{by_line_feed, Place, at_line_feed, at_byte, at_end, StopsIn, Outcome, is_fault, is_value, is_refused, ReadsText, line_number, IsByte}
use Rattle.text_io.specs.Laws.Lines.{whole_parts, open_parts}
use Rattle.model.specs.declared.event.Event.{Event}
use Rattle.model.specs.declared.version.Version.{Version}
use Rattle.event_text.specs.declared.event_fault.EventFault.{EventFault}
use Rattle.event_text.specs.declared.event_fault.EventFault.TheVariants.{NoHeader, BadEvent, Unfinished, ReadFailed, OutOfMemory}
use Rattle.event_text.specs.declared.event_reader.EventReader.{EventReader}
use Rattle.event_text.specs.declared.header.Headers.{Headers}
use Rattle.event_text.specs.EventText.{RunText}
use Rattle.event_text.specs.FirstEvents.{BeginsWithEvents}
use Rattle.event_text.specs.EventFault.{EventDue, longest_event_line, HasOtherEventForm, HasEventFault, EventFaultAt, event_outcome}
use Rattle.event_text.specs.Taking.{SayEvents, IsAtStart, HasReadEvents, NoMoreEvents}
use Rattle.event_text.proofs.FirstLemmas.{due_of, BeginsWithNone, none-other, none-long, none-open, first-stopped}
use Rattle.event_text.proofs.TextScanned.{none_decided}
use Rattle.event_text.proofs.TextRead.{SayEvents-leads, RunText-said, wrong_here, has_other, has_long}

-- a fault of a line is a fault of the text
outcome-from_fault : (fault : EventFault) (place : Place) (due : EventDue) (number : ℕ) (line : List ℕ) → HasEventFault fault place due number line
    → event_outcome {V = List Event} (Err fault) ≡ is_fault fault
outcome-from_fault NoHeader place due number line h = refl
outcome-from_fault (BadEvent at) place due number line h = refl
outcome-from_fault (Unfinished at) place due number line h = refl
outcome-from_fault ReadFailed place due number line h = absurd h
outcome-from_fault OutOfMemory place due number line h = absurd h

module _ {R : Type 0} {ahead : ℕ} (remaining : R → Option (List ℕ)) (first : Counted R) (now : Source R ahead) (headers : Headers) (read : Option Version) (events : List Event)
    (before : List (List ℕ))
  where
    -- the reader stops so
    abbrev pub Stops : EventFault → Type 0
    Stops fault = NoMoreEvents headers remaining first (source_reader now) read events (event_outcome (Err fault))

    -- a fault stands at a byte that came
    fault_found : (place : Place) (line : List ℕ) (fault : EventFault) (come : HasCome remaining first now place before line)
        → failures_of (source_reader now) ≡ failures_of first → IsByte place → SayEvents headers read events before
        → HasEventFault fault place (due_of headers read) (line_number before) line → (rest : List ℕ) → come.delivered ≡ ended before ++ rest
        → BeginsWithNone headers read rest → Stops fault
    fault_found place line fault come well byte said faulty rest bytes none =
        let outcome = outcome-from_fault fault place (due_of headers read) (line_number before) line faulty in
        subst (NoMoreEvents headers remaining first (source_reader now) read events) (sym outcome) (record {
          delivered = come.delivered;
          consumed = come.consumed;
          answer = inl (
            come.front,
            come.rest,
            place,
            come.bytes,
            byte,
            record {
              before = before;
              line = line;
              due = due_of headers read;
              judged = come.judged by_line_feed;
              right = SayEvents-leads headers read events before said;
              faulty = faulty;
            },
          );
          first_events = first-stopped headers read events before rest come.delivered said bytes none;
          not_refused = λ e. cc;
          failures = well;
        })

    -- a line has another form
    pub other_line : (room : List ℕ) (count number : ℕ) → number ≡ line_number before → length room ≡ longest_event_line
        → LineEnded remaining first now before room count → SayEvents headers read events before → HasOtherEventForm (due_of headers read) (take count room)
        → Stops (wrong_here read number)
    other_line room count number is size t said other =
        let line = take count room in
        let come = t.come in
        let judged = come.judged by_line_feed in
        let parts = whole_parts come.front before line judged.0 judged.1 in
        let bytes : come.delivered ≡ ended before ++ (line ++ line_feed ∷ come.rest) =
        come.bytes
        ∙ (ap (λ xs. xs ++ come.rest) parts.0
        ∙ (append_assoc (ended before) (line ++ line_feed ∷ []) come.rest
        ∙ ap (λ xs. ended before ++ xs) (append_assoc line (line_feed ∷ []) come.rest))) in
        let short : length line ≤ longest_event_line = omega (arith, t.in_room, size, length-take count room) in
        fault_found at_line_feed line (wrong_here read number) come t.failures tt said
        (subst (λ n. HasEventFault (wrong_here read n) at_line_feed (due_of headers read) (line_number before) line) (sym is)
        (has_other headers read (line_number before) line short other))
        (line ++ line_feed ∷ come.rest) bytes (none-other headers read line come.rest parts.2 other)

    -- a line is too long
    pub long_line : (room : List ℕ) (number : ℕ) → number ≡ line_number before → length room ≡ longest_event_line
        → LineTooLong remaining first now before room → SayEvents headers read events before → Stops (wrong_here read number)
    long_line room number is size t said =
        let line = t.line in
        let come = t.come in
        let judged = come.judged by_line_feed in
        let parts = open_parts come.front before line judged.0 judged.1 in
        let bytes : come.delivered ≡ ended before ++ (line ++ come.rest) =
        come.bytes ∙ (ap (λ xs. xs ++ come.rest) parts.0 ∙ append_assoc (ended before) line come.rest) in
        let long : length line ≡ longest_event_line + 1 = omega (arith, t.length_is, size) in
        fault_found at_byte line (wrong_here read number) come t.failures tt said
        (subst (λ n. HasEventFault (wrong_here read n) at_byte (due_of headers read) (line_number before) line) (sym is)
        (has_long headers read (line_number before) line long))
        (line ++ come.rest) bytes (none-long headers read line come.rest parts.2 long)

    -- all that came where no more came
    stops : (line : List ℕ) (come : HasCome remaining first now at_end before line) → StopsIn by_line_feed before line come.delivered
    stops line come =
        let all : come.delivered ≡ come.front = come.bytes ∙ (ap (λ xs. come.front ++ xs) (come.whole refl) ∙ append-nil come.front) in
        subst (StopsIn by_line_feed before line) (sym all) (come.judged by_line_feed)

    -- the reader failed within a line
    pub failed : (room : List ℕ) → length room ≡ longest_event_line → ReaderFailed remaining first now before room → SayEvents headers read events before
        → Stops ReadFailed
    failed room size t said =
        let at = stops t.line t.come in
        record {
          delivered = t.come.delivered;
          consumed = t.come.consumed;
          answer =
              none_decided headers before t.line t.come.delivered (due_of headers read) at (SayEvents-leads headers read events before said)
              (omega (arith, t.in_room, size));
          first_events = first-stopped headers read events before t.line t.come.delivered said at.0 (none-open headers read t.line at.2);
          not_refused = λ e. cc;
          failures = t.failures;
        }

    -- the input ended, which is a fault there
    end_found : (room : List ℕ) (count : ℕ) (fault : EventFault) → (t : InputEnded remaining first now before room count) → SayEvents headers read events before
        → HasEventFault fault at_end (due_of headers read) (line_number before) (take count room) → Stops fault
    end_found room count fault t said faulty =
        let line = take count room in
        let at = stops line t.come in
        let outcome = outcome-from_fault fault at_end (due_of headers read) (line_number before) line faulty in
        subst (NoMoreEvents headers remaining first (source_reader now) read events) (sym outcome) (record {
          delivered = t.come.delivered;
          consumed = t.come.consumed;
          answer = inr (
            record {
              before = before;
              line = line;
              due = due_of headers read;
              judged = at;
              right = SayEvents-leads headers read events before said;
              faulty = faulty;
            },
            t.spent,
          );
          first_events = first-stopped headers read events before line t.come.delivered said at.0 (none-open headers read line at.2);
          not_refused = λ e. cc;
          failures = t.failures;
        })

module _ {R : Type 0} {ahead : ℕ} (remaining : R → Option (List ℕ)) (first : Counted R) (now : Source R ahead) (headers : Headers) (events : List Event) (before : List (List ℕ)) where
  -- it ended before the header's LF
  pub no_header : (room : List ℕ) (count : ℕ) → length room ≡ longest_event_line → InputEnded remaining first now before room count
      → SayEvents headers None events before → Stops remaining first now headers None events before NoHeader
  no_header room count size t said =
      end_found remaining first now headers None events before room count NoHeader t said (inr (omega (arith, t.in_room, size, length-take count room)))

  -- or before that of an event
  pub unfinished : (version : Version) (room : List ℕ) (count number : ℕ) → number ≡ line_number before → length room ≡ longest_event_line → 0 < count
      → InputEnded remaining first now before room count → SayEvents headers (Some version) events before
      → Stops remaining first now headers (Some version) events before (Unfinished number)
  unfinished version room count number is size some t said =
      let sizes = length-take count room in
      end_found remaining first now headers (Some version) events before room count (Unfinished number) t said
      (is, omega (arith, t.in_room, size, sizes), omega (arith, t.in_room, some, sizes))

  -- or behind the last event
  pub ended_well : (version : Version) (room : List ℕ) (count : ℕ) → count ≡ 0 → InputEnded remaining first now before room count → SayEvents headers (Some version) events before
      → NoMoreEvents headers remaining first (source_reader now) (Some version) events (is_value events)
  ended_well version room count none t said =
      let line = take count room in
      let at = stops remaining first now headers (Some version) events before line t.come in
      let empty : line ≡ [] = nil_from_length line (omega (arith, none, length-take count room)) in
      record {
        delivered = t.come.delivered;
        consumed = t.come.consumed;
        answer = (
          RunText-said headers version events before t.come.delivered said (at.0 ∙ (ap (λ xs. ended before ++ xs) empty ∙ append-nil (ended before))),
          t.spent,
        );
        first_events = first-stopped headers (Some version) events before line t.come.delivered said at.0 (none-open headers (Some version) line at.2);
        not_refused = λ e. cc;
        failures = t.failures;
      }

  -- no header came: the input ended first, or the line was too long
  pub no_header-taken : (room : List ℕ) (result : TakenLine) (number : ℕ) → ((count : ℕ) × (result ≡ AtEnd count)) ⊎ (result ≡ TooLong)
      → number ≡ line_number before → length room ≡ longest_event_line → LineTaken remaining first now before room result → SayEvents headers None events before
      → Stops remaining first now headers None events before NoHeader
  no_header-taken room result number (inl (count, e)) is size t said =
      no_header room count size (subst (LineTaken remaining first now before room) e t) said
  no_header-taken room result number (inr e) is size t said =
      long_line remaining first now headers None events before room number is size (subst (LineTaken remaining first now before room) e t) said

-- ---- all events

module _ {R : Type 0} {ahead : ℕ} (remaining : R → Option (List ℕ)) (first : Counted R) (now : Source R ahead) (headers : Headers) (events : List Event) where
  -- a reader of all events answers so
  abbrev pub Reads : Outcome (Version × List Event) EventFault → Type 0
  Reads outcome =
      ReadsText (RunText headers) (EventFaultAt headers) (remaining (counted_inner first)) (remaining (counted_inner (source_reader now))) (failures_of first)
      (failures_of (source_reader now)) outcome

  -- no more events came: the text ended well
  pub all_read : (version : Version) → NoMoreEvents headers remaining first (source_reader now) (Some version) events (is_value events)
      → Reads (is_value (version, events))
  all_read version h = record { delivered = h.delivered; consumed = h.consumed; answer = h.answer; failures = h.failures }

  -- or it has a fault, or the reader failed
  pub none_read : (read : Option Version) (fault : EventFault)
      → NoMoreEvents headers remaining first (source_reader now) read events (event_outcome (Err fault)) → Reads (event_outcome (Err fault))
  none_read read NoHeader h = record { delivered = h.delivered; consumed = h.consumed; answer = h.answer; failures = h.failures }
  none_read read (BadEvent line) h = record { delivered = h.delivered; consumed = h.consumed; answer = h.answer; failures = h.failures }
  none_read read (Unfinished line) h = record { delivered = h.delivered; consumed = h.consumed; answer = h.answer; failures = h.failures }
  none_read read ReadFailed h = record { delivered = h.delivered; consumed = h.consumed; answer = h.answer; failures = h.failures }
  none_read read OutOfMemory h = record { delivered = h.delivered; consumed = h.consumed; answer = h.answer; failures = h.failures }

  -- there was no memory for one more
  pub refused : (reader : EventReader) → HasReadEvents headers remaining first now reader events → Reads is_refused
  refused reader h = record { delivered = h.taken.delivered; consumed = h.taken.consumed; answer = tt; failures = h.taken.failures }

  -- nothing was read
  pub nothing_read : (reader : EventReader) → HasTaken remaining first now [] → IsAtStart headers reader → HasReadEvents headers remaining first now reader []
  nothing_read reader taken start = record {
    takes = start.takes;
    lines = [];
    taken = taken;
    said = subst (λ v. SayEvents headers v [] []) (sym start.no_header) (refl, refl);
    begins = subst (λ v. BeginsWithEvents headers v [] taken.delivered) (sym start.no_header) refl;
    numbered = start.first_line;
  }
