-- The version and the first events of a text.
use Rattle.std.proofs.Common.{◌≡◌, ℕ, ◌+◌, ◌≤◌, ◌⊎◌, inl, inr, List, [], ◌∷◌, ◌++◌, length, refl, sym, ap, ◌∙◌, subst, arith, append-nil, Some, None}
use Rattle.std.specs.Prelude.{Option}
use Rattle.std.specs.List.{AllByRecursion}
use Rattle.text_io.specs.Text.{line_feed, IsLine, ended}
use Rattle.text_io.specs.Laws.Lines.{ended-line}
use Rattle.text_io.specs.Laws.Places.{cut}
use Rattle.model.specs.declared.event.Event.{Event}
use Rattle.model.specs.declared.version.Version.{Version}
use Rattle.event_text.specs.declared.header.Headers.{Headers}
use Rattle.event_text.specs.EventText.{event_header, SpellsEvent, AreEvents, RunText}
use Rattle.event_text.specs.EventFault.{EventDue, event_header_due, event_due, longest_event_line, HasOtherEventForm}
use Rattle.event_text.specs.FirstEvents.{BeginsWithHeader, BeginsWithNoHeader, BeginsWithNoEvent, FirstEvents, BeginsWithEvents}
use Rattle.event_text.specs.Taking.{SayEvents}
use Rattle.event_text.specs.Code.EventLines.{event_of}
use Rattle.event_text.proofs.EventLemmas.{event_of-says, none-spells, SpellsEvent-same}
use Rattle.event_text.proofs.HeaderLemmas.{header-is_line, header-short, header-split, BeginsWithTaken, begins_taken}
use Rattle.event_text.proofs.LineLemmas.{event-short, line_split, line_within, line_alone}

-- what is due, where a header was read or not
abbrev pub due_of : Headers → Option Version → EventDue
due_of headers None = event_header_due headers
due_of headers (Some version) = event_due

-- no line that is due stands at the front
abbrev pub BeginsWithNone : Headers → Option Version → List ℕ → Type 0
BeginsWithNone headers None text = BeginsWithNoHeader headers text
BeginsWithNone headers (Some version) text = BeginsWithNoEvent text

-- a line that is no event
no_event-other : (line more : List ℕ) → IsLine line → ((event : Event) → SpellsEvent event line → ⊥) → BeginsWithNoEvent (line ++ line_feed ∷ more)
no_event-other line more is other = λ event found rest spells e.
    let same = line_split line found more rest is (event-short event found spells).is_line e in
    other event (subst (SpellsEvent event) (sym same.0) spells)

-- a line without its LF
no_event-open : (line : List ℕ) → IsLine line → BeginsWithNoEvent line
no_event-open line is = λ event found rest spells e. line_alone line found rest is e

-- a line of another form
pub none-other : (headers : Headers) (read : Option Version) (line more : List ℕ) → IsLine line → HasOtherEventForm (due_of headers read) line
    → BeginsWithNone headers read (line ++ line_feed ∷ more)
none-other headers None line more is other = λ version takes h.
    other (version, takes, (line_split line (event_header version) more h.0 is (header-is_line version) h.1).0)
none-other headers (Some version) line more is other = no_event-other line more is other

-- a line that is too long
pub none-long : (headers : Headers) (read : Option Version) (line more : List ℕ) → IsLine line → length line ≡ longest_event_line + 1
    → BeginsWithNone headers read (line ++ more)
none-long headers None line more is long = λ version takes h.
    let within : length line ≤ length (event_header version) = line_within line (event_header version) more h.0 is h.1 in
    omega (arith, within, long, header-short version)
none-long headers (Some version) line more is long = λ event found rest spells e.
    let within = line_within line found more rest is e in
    omega (arith, within, long, (event-short event found spells).short)

-- a line without its LF
pub none-open : (headers : Headers) (read : Option Version) (line : List ℕ) → IsLine line → BeginsWithNone headers read line
none-open headers None line is = λ version takes h. line_alone line (event_header version) h.0 is h.1
none-open headers (Some version) line is = no_event-open line is

-- what was read are the first events, where no more of them follow
pub first-stopped : (headers : Headers) (read : Option Version) (events : List Event) (lines : List (List ℕ)) (rest text : List ℕ)
    → SayEvents headers read events lines → text ≡ ended lines ++ rest → BeginsWithNone headers read rest → FirstEvents headers read events text
first-stopped headers None events lines rest text said is none =
    (said.1, subst (BeginsWithNoHeader headers) (sym (is ∙ ap (λ ls. ended ls ++ rest) said.0)) none)
first-stopped headers (Some version) events lines rest text (takes, (event_lines, same, are)) is none =
    (takes, (event_lines, rest, is ∙ ap (λ ls. ended ls ++ rest) same, are, none))

-- the events so far are some of the first
pub begins-read : (headers : Headers) (read : Option Version) (events : List Event) (lines : List (List ℕ)) (rest text : List ℕ)
    → SayEvents headers read events lines → text ≡ ended lines ++ rest → BeginsWithEvents headers read events text
begins-read headers None events lines rest text said is = said.1
begins-read headers (Some version) events lines rest text (takes, (event_lines, same, are)) is =
    (takes, (event_lines, rest, is ∙ ap (λ ls. ended ls ++ rest) same, are))

-- ---- one list

lines-same : (ls ks : List (List ℕ)) (es fs : List Event) (rest more : List ℕ) → ended ls ++ rest ≡ ended ks ++ more → AreEvents es ls → AreEvents fs ks
    → BeginsWithNoEvent rest → BeginsWithNoEvent more → es ≡ fs
lines-same [] [] es fs rest more e h k none no_more = h ∙ sym k
lines-same [] (l ∷ ks) es fs rest more e h k none no_more =
    absurd (none k.0 l (ended ks ++ more) k.3 (e ∙ ended-line l ks more))
lines-same (l ∷ ls) [] es fs rest more e h k none no_more =
    absurd (no_more h.0 l (ended ls ++ rest) h.3 (sym e ∙ ended-line l ls rest))
lines-same (l ∷ ls) (m ∷ ks) es fs rest more e h k none no_more =
    let parts = line_split l m (ended ls ++ rest) (ended ks ++ more) (event-short h.0 l h.3).is_line (event-short k.0 m k.3).is_line
    (sym (ended-line l ls rest) ∙ (e ∙ ended-line m ks more)) in
    let first = SpellsEvent-same h.0 k.0 m (subst (SpellsEvent h.0) parts.0 h.3) k.3 in
    let later = lines-same ls ks h.1 k.1 rest more parts.1 h.4 k.4 none no_more in
    h.2 ∙ (ap (λ d. d ∷ h.1) first ∙ (ap (λ ds. k.0 ∷ ds) later ∙ sym k.2))

with_header : (version : Version) (lines : List (List ℕ)) (rest text : List ℕ) → text ≡ ended (event_header version ∷ lines) ++ rest
    → BeginsWithHeader version text
with_header version lines rest text is = (ended lines ++ rest, is ∙ ended-line (event_header version) lines rest)

pub FirstEvents-same : (headers : Headers) (v w : Option Version) (es fs : List Event) (text : List ℕ) → FirstEvents headers v es text
    → FirstEvents headers w fs text → (v ≡ w) × (es ≡ fs)
FirstEvents-same headers None None es fs text (none, other) (no_more, others) = (refl, none ∙ sym no_more)
FirstEvents-same headers None (Some w) es fs text (none, other) (takes, (lines, rest, is, are, stop)) =
    absurd (other w takes (with_header w lines rest text is))
FirstEvents-same headers (Some v) None es fs text (takes, (lines, rest, is, are, stop)) (none, other) =
    absurd (other v takes (with_header v lines rest text is))
FirstEvents-same headers (Some v) (Some w) es fs text (takes, (ls, rest, is, are, stop)) (took, (ks, more, also, be, halt)) =
    let behind = header-split v w (ended ls ++ rest) (ended ks ++ more)
    (sym (ended-line (event_header v) ls rest) ∙ (sym is ∙ (also ∙ ended-line (event_header w) ks more))) in
    (ap Some behind.0, lines-same ls ks es fs rest more behind.1 are be stop halt)

-- the version and the events that a whole text spells
pub FirstEvents-all : (headers : Headers) (version : Version) (es : List Event) (text : List ℕ) → RunText headers (version, es) text
    → FirstEvents headers (Some version) es text
FirstEvents-all headers version es text (takes, h) =
    (takes, (h.event_lines, [], h.lines ∙ sym (append-nil (ended (event_header version ∷ h.event_lines))), h.are_events, no_event-open [] refl))

-- ---- some list

-- the events of lines up to the first that is none
pub record Begins (text : List ℕ) : Type 0 where
  pub events : List Event
  pub event_lines : List (List ℕ)
  pub rest : List ℕ
  pub bytes : text ≡ ended event_lines ++ rest
  pub are_events : AreEvents events event_lines
  pub none : BeginsWithNoEvent rest

begins-of : (lines : List (List ℕ)) (tail : List ℕ) → AllByRecursion IsLine lines → IsLine tail → Begins (ended lines ++ tail)
begins-of [] tail all is =
    record { events = []; event_lines = []; rest = tail; bytes = refl; are_events = refl; none = no_event-open tail is }
begins-of (line ∷ lines) tail all is = go (event_of line) refl (begins-of lines tail all.1 is)
  where
    go : (r : Option Event) → event_of line ≡ r → Begins (ended lines ++ tail) → Begins (ended (line ∷ lines) ++ tail)
    go None e later = record {
      events = [];
      event_lines = [];
      rest = line ++ line_feed ∷ (ended lines ++ tail);
      bytes = ended-line line lines tail;
      are_events = refl;
      none = no_event-other line (ended lines ++ tail) all.0 (none-spells line e);
    }
    go (Some event) e later = record {
      events = event ∷ later.events;
      event_lines = line ∷ later.event_lines;
      rest = later.rest;
      bytes =
          ended-line line lines tail
          ∙ (ap (λ bytes. line ++ line_feed ∷ bytes) later.bytes ∙ sym (ended-line line later.event_lines later.rest));
      are_events = (event, later.events, refl, event_of-says event line e, later.are_events);
      none = later.none;
    }

pub first_events_of : (headers : Headers) (text : List ℕ) → (v : Option Version) × (es : List Event) × FirstEvents headers v es text
first_events_of headers text = go (begins_taken headers text)
  where
    go : BeginsWithTaken headers text ⊎ BeginsWithNoHeader headers text → (v : Option Version) × (es : List Event) × FirstEvents headers v es text
    go (inr none) = (None, [], (refl, none))
    go (inl (version, takes, (behind, is))) =
        let parts = cut behind in
        let begins = begins-of parts.0 parts.1 parts.2.1 parts.2.2 in (
          Some version,
          begins.events,
          (
            takes,
            (
              begins.event_lines,
              begins.rest,
              is
                  ∙ (ap (λ bytes. event_header version ++ line_feed ∷ bytes) (parts.2.0 ∙ begins.bytes)
                  ∙ sym (ended-line (event_header version) begins.event_lines begins.rest)),
              begins.are_events,
              begins.none,
            ),
          ),
        )
