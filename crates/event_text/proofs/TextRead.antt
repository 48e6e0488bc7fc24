-- What is said line by line are the version and the events that a text spells, or its first fault.
use Rattle.std.proofs.Common.{◌≡◌, ℕ, ◌+◌, ◌<◌, ◌≤◌, ◌⊎◌, inl, inr, true, List, [], ◌∷◌, ◌++◌}
use Rattle.std.proofs.Common.{length, take, drop, Option, Some, None, refl, sym, ap, ◌∙◌, subst}
use Rattle.std.proofs.Common.{arith, append_assoc, append-nil, length-take}
use Rattle.std.proofs.lemmas.Bool.{cases_lt}
use Rattle.std.proofs.lemmas.List.{take-append-drop, nil_from_length}
use Rattle.text_io.specs.Text.{lines_of, ended, ends_in_line_feed}
use Rattle.text_io.specs.Reading.{by_line_feed, Place, at_line_feed, at_byte, StandsIn, StopsIn, IsByte, IsFirstFault, line_number}
use Rattle.text_io.specs.Laws.Lines.{ends_in_line_feed-ended}
use Rattle.text_io.specs.Laws.Places.{found, last, cut}
use Rattle.model.specs.declared.event.Event.{Event}
use Rattle.model.specs.declared.version.Version.{Version}
use Rattle.event_text.specs.declared.event_fault.EventFault.{EventFault}
use Rattle.event_text.specs.declared.event_fault.EventFault.TheVariants.{NoHeader, BadEvent, Unfinished}
use Rattle.event_text.specs.declared.header.Headers.{Headers}
use Rattle.event_text.specs.EventText.{event_header, SpellsEvent, AreEvents, TakesHeader, IsHeader, RunText}
use Rattle.event_text.specs.EventFault.{event_header_due, event_due, longest_event_line, HasOtherEventForm, HasEventFault, EventFaultAt}
use Rattle.event_text.specs.Taking.{SayEvents}
use Rattle.event_text.specs.Code.EventLines.{event_of, EventLeads}
use Rattle.event_text.proofs.EventLemmas.{event_of-says, none-spells}
use Rattle.event_text.proofs.HeaderLemmas.{header_or_not}
use Rattle.event_text.proofs.FirstLemmas.{due_of}
use Rattle.event_text.proofs.TextScanned.{header_leads}

-- ---- one more right line

AreEvents-push : (events : List Event) (lines : List (List ℕ)) (event : Event) (line : List ℕ) → AreEvents events lines → SpellsEvent event line
    → AreEvents (events ++ event ∷ []) (lines ++ line ∷ [])
AreEvents-push events [] event line h k = (event, [], ap (λ es. es ++ event ∷ []) h, k, refl)
AreEvents-push events (l ∷ lines) event line h k =
    (h.0, h.1 ++ event ∷ [], ap (λ es. es ++ event ∷ []) h.2, h.3, AreEvents-push h.1 lines event line h.4 k)

-- a header is read
pub SayEvents-header : (headers : Headers) (version : Version) (events : List Event) (lines : List (List ℕ)) (line : List ℕ)
    → SayEvents headers None events lines → TakesHeader headers version → line ≡ event_header version → SayEvents headers (Some version) events (lines ++ line ∷ [])
SayEvents-header headers version events lines line said takes is =
    (takes, ([], ap (λ ls. ls ++ line ∷ []) said.0 ∙ ap (λ l. l ∷ []) is, said.1))

-- and one more event
pub SayEvents-push : (headers : Headers) (version : Version) (events : List Event) (lines : List (List ℕ)) (event : Event) (line : List ℕ)
    → SayEvents headers (Some version) events lines → SpellsEvent event line
    → SayEvents headers (Some version) (events ++ event ∷ []) (lines ++ line ∷ [])
SayEvents-push headers version events lines event line (takes, (event_lines, same, are)) spells =
    (takes, (event_lines ++ line ∷ [], ap (λ ls. ls ++ line ∷ []) same, AreEvents-push events event_lines event line are spells))

-- lines that say events are right
pub SayEvents-leads : (headers : Headers) (read : Option Version) (events : List Event) (lines : List (List ℕ)) → SayEvents headers read events lines
    → EventLeads (event_header_due headers) lines (due_of headers read)
SayEvents-leads headers None events lines said =
    subst (λ ls. EventLeads (event_header_due headers) ls (event_header_due headers)) (sym said.0) refl
SayEvents-leads headers (Some version) events lines (takes, (event_lines, same, are)) =
    subst (λ ls. EventLeads (event_header_due headers) ls event_due) (sym same) (header_leads headers version events event_lines takes are)

-- a text of nothing else spells them
pub RunText-said : (headers : Headers) (version : Version) (events : List Event) (lines : List (List ℕ)) (text : List ℕ)
    → SayEvents headers (Some version) events lines → text ≡ ended lines → RunText headers (version, events) text
RunText-said headers version events lines text (takes, (event_lines, same, are)) is =
    (takes, record { event_lines = event_lines; lines = is ∙ ap ended same; are_events = are })

-- the fault of a line of another form
abbrev pub wrong_here : Option Version → ℕ → EventFault
wrong_here None number = NoHeader
wrong_here (Some version) number = BadEvent number

pub has_other : (headers : Headers) (read : Option Version) (number : ℕ) (line : List ℕ) → length line ≤ longest_event_line
    → HasOtherEventForm (due_of headers read) line → HasEventFault (wrong_here read number) at_line_feed (due_of headers read) number line
has_other headers None number line short other = inl (short, other)
has_other headers (Some version) number line short other = (refl, (short, other))

pub has_long : (headers : Headers) (read : Option Version) (number : ℕ) (line : List ℕ) → length line ≡ longest_event_line + 1
    → HasEventFault (wrong_here read number) at_byte (due_of headers read) number line
has_long headers None number line long = inl long
has_long headers (Some version) number line long = (refl, long)

-- ---- a whole text

-- what a text is: it spells a version and events, or has a first fault
pub data Reading (headers : Headers) (text : List ℕ) : Type 0 where
  spelled : (version : Version) (events : List Event) (spells : RunText headers (version, events) text) → Reading headers text
  faulty : (fault : EventFault) (first : IsFirstFault (EventFaultAt headers) fault text) → Reading headers text

module _ (headers : Headers) (text tail : List ℕ) (all : List (List ℕ)) (stops : StopsIn by_line_feed all tail text) where
  -- a fault that stands at a byte is the first
  decided : (read : Option Version) (events : List Event) (fault : EventFault) (place : Place) (before : List (List ℕ)) (line : List ℕ) → IsByte place
      → StandsIn by_line_feed place before line text → SayEvents headers read events before → HasEventFault fault place (due_of headers read) (line_number before) line
      → Reading headers text
  decided read events fault place before line byte stands said h =
      let at = found by_line_feed text place before line byte stands in
      faulty fault
      (inl (
        at.0,
        at.1,
        place,
        at.2,
        byte,
        record {
          before = before;
          line = line;
          due = due_of headers read;
          judged = at.3;
          right = SayEvents-leads headers read events before said;
          faulty = h;
        },
      ))

  -- what follows lines of the text
  data Behind (before : List (List ℕ)) (line : List ℕ) : Type 0 where
    behind : (after : List (List ℕ)) (lines : lines_of text ≡ before ++ line ∷ after) (feed : after ≡ [] → ends_in_line_feed text ≡ true) → Behind before line

  behind_line : (before : List (List ℕ)) (line : List ℕ) (rest : List (List ℕ)) → all ≡ before ++ line ∷ rest → Behind before line
  behind_line before line rest parts = go (last by_line_feed text all tail stops)
    where
      ends : (lines : List (List ℕ)) → all ≡ lines → lines ≡ [] → ⊥
      ends [] e k = bad before (sym parts ∙ e)
        where
          bad : (ls : List (List ℕ)) → ls ++ line ∷ rest ≡ [] → ⊥
          bad [] e = cc
          bad (l ∷ ls) e = cc
      ends (l ∷ lines) e k = cc

      written : (lines : List (List ℕ)) → all ≡ lines → tail ≡ [] → ends_in_line_feed text ≡ true
      written [] e k = absurd (ends [] e refl)
      written (l ∷ lines) e k =
          ap ends_in_line_feed (stops.0 ∙ (ap (λ t. ended all ++ t) k ∙ (append-nil (ended all) ∙ ap ended e))) ∙ ends_in_line_feed-ended l lines

      go : ((tail ≡ []) × (lines_of text ≡ all)) ⊎ ((0 < length tail) × (lines_of text ≡ all ++ tail ∷ [])) → Behind before line
      go (inl (none, lines)) = behind rest (lines ∙ parts) (λ _. written all refl none)
      go (inr (some, lines)) =
          behind (rest ++ tail ∷ []) (lines ∙ (ap (λ ls. ls ++ tail ∷ []) parts ∙ append_assoc before (line ∷ rest) (tail ∷ [])))
          (λ e. absurd (bad rest e))
        where
          bad : (ls : List (List ℕ)) → ls ++ tail ∷ [] ≡ [] → ⊥
          bad [] e = cc
          bad (l ∷ ls) e = cc

  -- a line with its LF
  whole_line : (before : List (List ℕ)) (line : List ℕ) (rest : List (List ℕ)) → all ≡ before ++ line ∷ rest → StandsIn by_line_feed at_line_feed before line text
  whole_line before line rest parts = elim (behind_line before line rest parts) [ behind after lines feed ↦ (after, lines, feed) ]

  -- a beginning of a line with its LF
  line_begun : (before : List (List ℕ)) (line : List ℕ) (rest : List (List ℕ)) (n : ℕ) → all ≡ before ++ line ∷ rest → 0 < length (take n line)
      → StandsIn by_line_feed at_byte before (take n line) text
  line_begun before line rest n parts some = elim (behind_line before line rest parts) [
    | behind after lines feed ↦ (some, drop n line, after, lines ∙ ap (λ l. before ++ l ∷ after) (sym (take-append-drop n line)))
  ]

  -- a beginning of what follows the last LF
  tail_begun : (n : ℕ) → 0 < length (take n tail) → StandsIn by_line_feed at_byte all (take n tail) text
  tail_begun n some = go (last by_line_feed text all tail stops)
    where
      go : ((tail ≡ []) × (lines_of text ≡ all)) ⊎ ((0 < length tail) × (lines_of text ≡ all ++ tail ∷ [])) → StandsIn by_line_feed at_byte all (take n tail) text
      go (inl (none, lines)) = absurd (omega (arith, length-take n tail, ap length none))
      go (inr (any, lines)) = (some, drop n tail, [], lines ∙ ap (λ l. all ++ l ∷ []) (sym (take-append-drop n tail)))

  -- a line that is too long
  too_long : (read : Option Version) (events : List Event) (before : List (List ℕ)) (line : List ℕ) → longest_event_line < length line
      → (0 < length (take (longest_event_line + 1) line) → StandsIn by_line_feed at_byte before (take (longest_event_line + 1) line) text)
      → SayEvents headers read events before → Reading headers text
  too_long read events before line long stands said =
      let count : length (take (longest_event_line + 1) line) ≡ longest_event_line + 1 = omega (arith, length-take (longest_event_line + 1) line, long) in
      decided read events (wrong_here read (line_number before)) at_byte before (take (longest_event_line + 1) line) tt (stands (omega (arith, count))) said
      (has_long headers read (line_number before) (take (longest_event_line + 1) line) count)

  -- a line of another form
  other_form : (read : Option Version) (events : List Event) (before : List (List ℕ)) (line : List ℕ) → length line ≤ longest_event_line
      → HasOtherEventForm (due_of headers read) line → StandsIn by_line_feed at_line_feed before line text → SayEvents headers read events before → Reading headers text
  other_form read events before line short other stands said =
      decided read events (wrong_here read (line_number before)) at_line_feed before line tt stands said
      (has_other headers read (line_number before) line short other)

  -- behind all lines that have an LF
  at_tail : (read : Option Version) (events : List Event) → SayEvents headers read events all → Reading headers text
  at_tail read events said = go read said (cases_lt longest_event_line (length tail)) (cases_lt 0 (length tail))
    where
      go : (read : Option Version) → SayEvents headers read events all → (longest_event_line < length tail) ⊎ (length tail ≤ longest_event_line)
          → (0 < length tail) ⊎ (length tail ≤ 0) → Reading headers text
      go read said (inl long) some = too_long read events all tail long (tail_begun (longest_event_line + 1)) said
      go None said (inr short) some =
          faulty NoHeader
          (inr (record {
            before = all;
            line = tail;
            due = event_header_due headers;
            judged = stops;
            right = SayEvents-leads headers None events all said;
            faulty = inr short;
          }))
      go (Some version) said (inr short) (inl some) =
          faulty (Unfinished (line_number all))
          (inr (record {
            before = all;
            line = tail;
            due = event_due;
            judged = stops;
            right = SayEvents-leads headers (Some version) events all said;
            faulty = (refl, short, some);
          }))
      go (Some version) said (inr short) (inr empty) =
          let nothing : tail ≡ [] = nil_from_length tail (omega (arith, empty)) in
          spelled version events (RunText-said headers version events all text said (stops.0 ∙ (ap (λ t. ended all ++ t) nothing ∙ append-nil (ended all))))

  -- behind right lines
  read_on : (before : List (List ℕ)) (rest : List (List ℕ)) → all ≡ before ++ rest → (read : Option Version) (events : List Event) → SayEvents headers read events before
      → Reading headers text
  read_on before [] parts read events said = at_tail read events (subst (SayEvents headers read events) (sym (parts ∙ append-nil before)) said)
  read_on before (line ∷ rest) parts read events said =
      go read said (cases_lt longest_event_line (length line)) (header_or_not headers line) (event_of line) refl
      (λ now more k. read_on (before ++ line ∷ []) rest (parts ∙ sym (append_assoc before (line ∷ []) rest)) now more k)
    where
      go : (read : Option Version) → SayEvents headers read events before → (longest_event_line < length line) ⊎ (length line ≤ longest_event_line)
          → IsHeader headers line ⊎ (IsHeader headers line → ⊥) → (r : Option Event) → event_of line ≡ r
          → ((now : Option Version) (more : List Event) → SayEvents headers now more (before ++ line ∷ []) → Reading headers text) → Reading headers text
      go read said (inl long) header r e on =
          too_long read events before line long (line_begun before line rest (longest_event_line + 1) parts) said
      go None said (inr short) (inl (version, takes, is)) r e on =
          on (Some version) events (SayEvents-header headers version events before line said takes is)
      go None said (inr short) (inr other) r e on =
          other_form None events before line short other (whole_line before line rest parts) said
      go (Some version) said (inr short) header (Some event) e on =
          on (Some version) (events ++ event ∷ []) (SayEvents-push headers version events before event line said (event_of-says event line e))
      go (Some version) said (inr short) header None e on =
          other_form (Some version) events before line short (none-spells line e) (whole_line before line rest parts) said

-- each text has a reading
pub reading_of : (headers : Headers) (text : List ℕ) → Reading headers text
reading_of headers text = let parts = cut text in read_on headers text parts.1 parts.0 parts.2 [] parts.0 refl None [] (refl, refl)
