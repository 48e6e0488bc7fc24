-- The first fault of a text, found line by line.
use Rattle.std.proofs.Common.{◌≡◌, ℕ, suc, ◌+◌, ◌<◌, ◌≤◌, ◌⊎◌, inl, inr, min, Bool, true, false}
use Rattle.std.proofs.Common.{cond, List, [], ◌∷◌, ◌++◌, length, Option, Some, None, refl, sym, ap}
use Rattle.std.proofs.Common.{◌∙◌, arith, append-nil, length-append}
use Rattle.std.specs.Prelude.{nat_lt}
use Rattle.std.specs.List.{AllByRecursion}
use Rattle.std.proofs.lemmas.Bool.{cond-true, cond-false, lt-ltb, le-ltb}
use Rattle.text_io.specs.Counted.{greatest}
use Rattle.text_io.specs.Text.{IsLine, lines_of, ended, ends_in_line_feed}
use Rattle.text_io.specs.Reading.{by_line_feed, Place, at_line_feed, at_byte, at_end, StandsIn, StopsIn, IsByte, Decides, IsFirstFault, line_number}
use Rattle.text_io.specs.Laws.Lines.{lines_of-all, ends_in_line_feed-ended, ends_in_line_feed-open}
use Rattle.text_io.specs.Laws.Places.{stands, last}
use Rattle.model.specs.declared.event.Event.{Event}
use Rattle.model.specs.declared.version.Version.{Version}
use Rattle.event_text.specs.declared.event_fault.EventFault.{EventFault}
use Rattle.event_text.specs.declared.event_fault.EventFault.TheVariants.{NoHeader, BadEvent, Unfinished, ReadFailed, OutOfMemory}
use Rattle.event_text.specs.declared.header.Headers.{Headers}
use Rattle.event_text.specs.EventText.{event_header, SpellsEvent, AreEvents, TakesHeader, RunText}
use Rattle.event_text.specs.EventFault.{EventDue, event_header_due, event_due, EventFollows, longest_event_line, HasEventFault, EventFaultAt}
use Rattle.event_text.specs.Code.EventLines.{event_of, EventLeads}
use Rattle.event_text.proofs.EventLemmas.{event_of-spells, event_of-says}
use Rattle.event_text.proofs.HeaderLemmas.{header-is_line, header-short, header_or_not}
use Rattle.event_text.proofs.LineLemmas.{event-short, AreEvents-lines}

-- the number of the line after so many others
abbrev number_of : ℕ → ℕ
number_of count = min (count + 1) greatest

-- a fault, or else what is found later
abbrev or_later : Option EventFault → Option EventFault → Option EventFault
or_later (Some fault) later = Some fault
or_later None later = later

-- the first of the lines has its LF: others follow, or the last has one
abbrev has_feed : Bool → List (List ℕ) → Bool
has_feed fed [] = fed
has_feed fed (line ∷ lines) = true

-- the fault of a line that is wrong at one of its bytes
abbrev wrong_fault : EventDue → ℕ → EventFault
wrong_fault (event_header_due headers) number = NoHeader
wrong_fault event_due number = BadEvent number

-- the fault of a line whose LF did not come, though some of it did
abbrev open_fault : EventDue → ℕ → EventFault
open_fault (event_header_due headers) number = NoHeader
open_fault event_due number = Unfinished number

-- the fault of a line of which nothing came
abbrev nothing_fault : EventDue → Option EventFault
nothing_fault (event_header_due headers) = Some NoHeader
nothing_fault event_due = None

abbrev header_fault : {P : Type 0} → P ⊎ (P → ⊥) → Option EventFault
header_fault (inl is) = None
header_fault (inr other) = Some NoHeader

header_fault-none : {P : Type 0} (is_it : P ⊎ (P → ⊥)) → P → header_fault is_it ≡ None
header_fault-none (inl is) h = refl
header_fault-none (inr other) h = absurd (other h)

header_fault-some : {P : Type 0} (is_it : P ⊎ (P → ⊥)) → (P → ⊥) → header_fault is_it ≡ Some NoHeader
header_fault-some (inl is) h = absurd (h is)
header_fault-some (inr other) h = refl

abbrev event_fault : ℕ → Option Event → Option EventFault
event_fault number (Some event) = None
event_fault number None = Some (BadEvent number)

-- the fault of a line at its LF, which is not too long
abbrev line_fault : EventDue → ℕ → List ℕ → Option EventFault
line_fault (event_header_due headers) number line = header_fault (header_or_not headers line)
line_fault event_due number line = event_fault number (event_of line)

-- The first fault of lines, where so many stand before them, and the last of them has its LF or not. Whole says whether the text ends
-- behind them: a fault at its end counts.
abbrev first_fault : Bool → Bool → EventDue → ℕ → List (List ℕ) → Option EventFault
first_fault whole fed due count [] = cond whole (nothing_fault due) None
first_fault whole fed due count (line ∷ lines) =
    cond (nat_lt longest_event_line (length line)) (Some (wrong_fault due (number_of count)))
    (cond (has_feed fed lines)
    (or_later (line_fault due (number_of count) line) (first_fault whole fed event_due (suc count) lines))
    (cond whole (Some (open_fault due (number_of count))) None))

-- no byte is left without an LF behind it
abbrev is_fed : List ℕ → Bool
is_fed [] = true
is_fed (b ∷ bytes) = ends_in_line_feed (b ∷ bytes)

-- the first fault of a text
abbrev pub found_in : Headers → Bool → List ℕ → Option EventFault
found_in headers whole text = first_fault whole (is_fed text) (event_header_due headers) 0 (lines_of text)

fed-from_end : (text : List ℕ) → ends_in_line_feed text ≡ true → is_fed text ≡ true
fed-from_end [] e = refl
fed-from_end (b ∷ bytes) e = e

-- ---- right lines

-- what a right line is
record IsRight (due : EventDue) (number : ℕ) (line : List ℕ) (next : EventDue) : Type 0 where
  short : length line ≤ longest_event_line
  none : line_fault due number line ≡ None
  next_is : next ≡ event_due

right-from_Follows : (due : EventDue) (number : ℕ) (line : List ℕ) (next : EventDue) → EventFollows due line next → IsRight due number line next
right-from_Follows (event_header_due headers) number line next h = record {
  short = omega (arith, ap length h.0.2, header-short h.0.0);
  none = header_fault-none (header_or_not headers line) h.0;
  next_is = h.1;
}
right-from_Follows event_due number line next h = record {
  short = (event-short h.0 line h.1).short;
  none = ap (event_fault number) (event_of-spells h.0 line h.1);
  next_is = h.2;
}

module _ (whole fed : Bool) where
  -- what a line says that is not too long and has its LF
  short_line : (due : EventDue) (count : ℕ) (line : List ℕ) (lines : List (List ℕ)) → length line ≤ longest_event_line → has_feed fed lines ≡ true
      → first_fault whole fed due count (line ∷ lines)
      ≡ or_later (line_fault due (number_of count) line) (first_fault whole fed event_due (suc count) lines)
  short_line due count line lines short feed =
      cond-false (nat_lt longest_event_line (length line)) _ _ (le-ltb longest_event_line (length line) short)
      ∙ cond-true (has_feed fed lines) _ _ feed

  -- a right line passes the search on
  first_fault-right : (due : EventDue) (count : ℕ) (line : List ℕ) (lines : List (List ℕ)) (next : EventDue) → EventFollows due line next
      → has_feed fed lines ≡ true → first_fault whole fed due count (line ∷ lines) ≡ first_fault whole fed next (suc count) lines
  first_fault-right due count line lines next h feed =
      let right = right-from_Follows due (number_of count) line next h in
      short_line due count line lines right.short feed
      ∙ (ap (λ f. or_later f (first_fault whole fed event_due (suc count) lines)) right.none
      ∙ ap (λ d. first_fault whole fed d (suc count) lines) (sym right.next_is))

  -- right lines pass it on
  first_fault-leads : (first : EventDue) (count : ℕ) (before : List (List ℕ)) (due : EventDue) (rest : List (List ℕ)) → EventLeads first before due
      → has_feed fed rest ≡ true → first_fault whole fed first count (before ++ rest) ≡ first_fault whole fed due (count + length before) rest
  first_fault-leads first count [] due rest h feed =
      let same : count ≡ count + length {A = List ℕ} [] = omega arith in
      ap (λ d. first_fault whole fed d count rest) (sym h) ∙ ap (λ n. first_fault whole fed due n rest) same
  first_fault-leads first count (line ∷ before) due rest h feed =
      let more : suc count + length before ≡ count + length (line ∷ before) = omega arith in
      first_fault-right first count line (before ++ rest) h.0 h.1 (behind before)
      ∙ (first_fault-leads h.0 (suc count) before due rest h.2 feed ∙ ap (λ n. first_fault whole fed due n rest) more)
    where
      behind : (lines : List (List ℕ)) → has_feed fed (lines ++ rest) ≡ true
      behind [] = feed
      behind (l ∷ lines) = refl

  -- behind right lines, what is found from there on
  found_behind : (headers : Headers) (before : List (List ℕ)) (due : EventDue) (rest : List (List ℕ)) → EventLeads (event_header_due headers) before due
      → has_feed fed rest ≡ true
      → first_fault whole fed (event_header_due headers) 0 (before ++ rest) ≡ first_fault whole fed due (length before) rest
  found_behind headers before due rest right feed =
      let same : 0 + length before ≡ length before = omega arith in
      first_fault-leads (event_header_due headers) 0 before due rest right feed ∙ ap (λ n. first_fault whole fed due n rest) same

-- ---- faults

none_told : (line : List ℕ) → ((event : Event) → SpellsEvent event line → ⊥) → event_of line ≡ None
none_told line none = go (event_of line) refl
  where
    go : (r : Option Event) → event_of line ≡ r → r ≡ None
    go None e = refl
    go (Some event) e = absurd (none event (event_of-says event line e))

-- the fault of a line at its LF
whole_fault : (fault : EventFault) (due : EventDue) (number : ℕ) (line : List ℕ) → HasEventFault fault at_line_feed due number line
    → (length line ≤ longest_event_line) × (line_fault due number line ≡ Some fault)
whole_fault NoHeader (event_header_due headers) number line (inl (short, other)) = (short, header_fault-some (header_or_not headers line) other)
whole_fault NoHeader (event_header_due headers) number line (inr h) = absurd h
whole_fault NoHeader event_due number line h = absurd h
whole_fault (BadEvent at) (event_header_due headers) number line h = absurd h
whole_fault (BadEvent at) event_due number line (same, (short, other)) =
    (short, ap (event_fault number) (none_told line other) ∙ ap (λ n. Some (BadEvent n)) (sym same))
whole_fault (Unfinished at) (event_header_due headers) number line h = absurd h
whole_fault (Unfinished at) event_due number line (same, none, some) = absurd none
whole_fault ReadFailed due number line h = absurd h
whole_fault OutOfMemory due number line h = absurd h

-- a fault within a line is that of a line too long
within_fault : (fault : EventFault) (due : EventDue) (number : ℕ) (line : List ℕ) → HasEventFault fault at_byte due number line
    → (fault ≡ wrong_fault due number) × (length line ≡ longest_event_line + 1)
within_fault NoHeader (event_header_due headers) number line (inl long) = (refl, long)
within_fault NoHeader (event_header_due headers) number line (inr h) = absurd h
within_fault NoHeader event_due number line h = absurd h
within_fault (BadEvent at) (event_header_due headers) number line h = absurd h
within_fault (BadEvent at) event_due number line (same, long) = (ap BadEvent same, long)
within_fault (Unfinished at) (event_header_due headers) number line h = absurd h
within_fault (Unfinished at) event_due number line (same, none, some) = absurd none
within_fault ReadFailed due number line h = absurd h
within_fault OutOfMemory due number line h = absurd h

-- the fault at the end of the input, where something of a line came or nothing
record IsEndFault (fault : EventFault) (due : EventDue) (number : ℕ) (line : List ℕ) : Type 0 where
  short : length line ≤ longest_event_line
  of_nothing : line ≡ [] → nothing_fault due ≡ Some fault
  of_some : 0 < length line → open_fault due number ≡ fault

end_fault : (fault : EventFault) (due : EventDue) (number : ℕ) (line : List ℕ) → HasEventFault fault at_end due number line → IsEndFault fault due number line
end_fault NoHeader (event_header_due headers) number line (inl h) = absurd h
end_fault NoHeader (event_header_due headers) number line (inr short) = record { short = short; of_nothing = λ e. refl; of_some = λ e. refl }
end_fault NoHeader event_due number line h = absurd h
end_fault (BadEvent at) (event_header_due headers) number line h = absurd h
end_fault (BadEvent at) event_due number line (same, wrong) = absurd wrong
end_fault (Unfinished at) (event_header_due headers) number line h = absurd h
end_fault (Unfinished at) event_due number line (same, short, some) = record {
  short = short;
  of_nothing = λ e. absurd (omega (arith, some, ap length e));
  of_some = λ e. ap Unfinished (sym same);
}
end_fault ReadFailed due number line h = absurd h
end_fault OutOfMemory due number line h = absurd h

module _ (headers : Headers) (whole : Bool) where
  -- the fault of a line at its LF is found there
  found_whole : (fed : Bool) (fault : EventFault) (due : EventDue) (count : ℕ) (line : List ℕ) (after : List (List ℕ)) → has_feed fed after ≡ true
      → HasEventFault fault at_line_feed due (number_of count) line → first_fault whole fed due count (line ∷ after) ≡ Some fault
  found_whole fed fault due count line after feed h =
      let found = whole_fault fault due (number_of count) line h in
      short_line whole fed due count line after found.0 feed
      ∙ ap (λ f. or_later f (first_fault whole fed event_due (suc count) after)) found.1

  -- a fault within a line is found there
  found_within : (fed : Bool) (fault : EventFault) (due : EventDue) (count : ℕ) (line more : List ℕ) (after : List (List ℕ))
      → HasEventFault fault at_byte due (number_of count) line → first_fault whole fed due count ((line ++ more) ∷ after) ≡ Some fault
  found_within fed fault due count line more after h =
      let long = within_fault fault due (number_of count) line h in
      cond-true (nat_lt longest_event_line (length (line ++ more))) _ _
      (lt-ltb longest_event_line (length (line ++ more)) (omega (arith, length-append line more, long.1)))
      ∙ ap Some (sym long.0)

  -- ---- where a text stops

  is_fed-some : (text : List ℕ) → 0 < length text → is_fed text ≡ ends_in_line_feed text
  is_fed-some [] some = absurd (omega arith)
  is_fed-some (b ∷ text) some = refl

  ended_end : (lines : List (List ℕ)) → is_fed (ended lines) ≡ true
  ended_end [] = refl
  ended_end (line ∷ lines) = fed-from_end (ended (line ∷ lines)) (ends_in_line_feed-ended line lines)

  -- what is found in a text that stops before a line, behind right lines
  pub found_at_feed : (before : List (List ℕ)) (text : List ℕ) (due : EventDue) → text ≡ ended before → AllByRecursion IsLine before
      → EventLeads (event_header_due headers) before due → found_in headers whole text ≡ cond whole (nothing_fault due) None
  found_at_feed before text due is all right =
      ap (first_fault whole (is_fed text) (event_header_due headers) 0) (ap lines_of is ∙ (lines_of-all before all ∙ sym (append-nil before)))
      ∙ found_behind whole (is_fed text) headers before due [] right (ap is_fed is ∙ ended_end before)

  -- and within a line
  found_open : (before : List (List ℕ)) (line text : List ℕ) (due : EventDue) → StopsIn by_line_feed before line text → 0 < length line
      → lines_of text ≡ before ++ line ∷ [] → EventLeads (event_header_due headers) before due → length line ≤ longest_event_line
      → found_in headers whole text ≡ cond whole (Some (open_fault due (line_number before))) None
  found_open before line text due stops some lines right short =
      let size : 0 < length text = omega (arith, ap length stops.0, length-append (ended before) line, some) in
      let fed : is_fed text ≡ false =
      is_fed-some text size ∙ (ap ends_in_line_feed stops.0 ∙ ends_in_line_feed-open (ended before) line stops.2 some) in
      ap (first_fault whole (is_fed text) (event_header_due headers) 0) lines
      ∙ (ap (λ t. first_fault whole t (event_header_due headers) 0 (before ++ line ∷ [])) fed
      ∙ (found_behind whole false headers before due (line ∷ []) right refl
      ∙ cond-false (nat_lt longest_event_line (length line)) _ _ (le-ltb longest_event_line (length line) short)))

  -- ---- the first fault of a text is found in it

  found-from_StandsIn : (fault : EventFault) (place : Place) (text : List ℕ) (before : List (List ℕ)) (line : List ℕ) (due : EventDue) → IsByte place
      → StandsIn by_line_feed place before line text → EventLeads (event_header_due headers) before due → HasEventFault fault place due (line_number before) line
      → found_in headers whole text ≡ Some fault
  found-from_StandsIn fault at_line_feed text before line due byte (after, lines, ends) right h =
      ap (first_fault whole (is_fed text) (event_header_due headers) 0) lines
      ∙ (found_behind whole (is_fed text) headers before due (line ∷ after) right refl
      ∙ found_whole (is_fed text) fault due (length before) line after (feed after ends) h)
    where
      feed : (lines : List (List ℕ)) → (lines ≡ [] → ends_in_line_feed text ≡ true) → has_feed (is_fed text) lines ≡ true
      feed [] k = fed-from_end text (k refl)
      feed (l ∷ lines) k = refl
  found-from_StandsIn fault at_byte text before line due byte (some, more, after, lines) right h =
      ap (first_fault whole (is_fed text) (event_header_due headers) 0) lines
      ∙ (found_behind whole (is_fed text) headers before due ((line ++ more) ∷ after) right refl
      ∙ found_within (is_fed text) fault due (length before) line more after h)
  found-from_StandsIn fault at_end text before line due byte h right faulty = absurd byte

  found-from_Decides : (fault : EventFault) (text : List ℕ) → Decides (EventFaultAt headers) fault text → found_in headers whole text ≡ Some fault
  found-from_Decides fault text (front, rest, place, is, byte, at) =
      found-from_StandsIn fault place text at.before at.line at.due byte
      (stands by_line_feed text front rest place at.before at.line is byte at.judged) at.right at.faulty

pub found-from_IsFirstFault : (headers : Headers) (fault : EventFault) (text : List ℕ) → IsFirstFault (EventFaultAt headers) fault text
    → found_in headers true text ≡ Some fault
found-from_IsFirstFault headers fault text (inl decided) = found-from_Decides headers true fault text decided
found-from_IsFirstFault headers fault text (inr at) =
    let is = end_fault fault at.due (line_number at.before) at.line at.faulty in
    elim (last by_line_feed text at.before at.line at.judged) [
      | inl h ↦
          let bytes : text ≡ ended at.before =
          at.judged.0 ∙ (ap (λ l. ended at.before ++ l) h.0 ∙ append-nil (ended at.before)) in
          found_at_feed headers true at.before text at.due bytes at.judged.1 at.right ∙ is.of_nothing h.0
      | inr h ↦ found_open headers true at.before at.line text at.due at.judged h.0 h.1 at.right is.short ∙ ap Some (is.of_some h.0)
    ]

-- nothing is decided where a text stops in a line that is not too long
pub none_decided : (headers : Headers) (before : List (List ℕ)) (line text : List ℕ) (due : EventDue) → StopsIn by_line_feed before line text
    → EventLeads (event_header_due headers) before due → length line ≤ longest_event_line → (fault : EventFault) → Decides (EventFaultAt headers) fault text → ⊥
none_decided headers before line text due stops right short fault decided =
    let found = found-from_Decides headers false fault text decided in
    elim (last by_line_feed text before line stops) [
      | inl h ↦
          let bytes : text ≡ ended before = stops.0 ∙ (ap (λ l. ended before ++ l) h.0 ∙ append-nil (ended before)) in
          let none = sym found ∙ found_at_feed headers false before text due bytes stops.1 right in
          absurd (cc)
      | inr h ↦
          let none = sym found ∙ found_open headers false before line text due stops h.0 h.1 right short in
          absurd (cc)
    ]

-- ---- texts that are spelled

events_lead : (events : List Event) (lines : List (List ℕ)) → AreEvents events lines → EventLeads event_due lines event_due
events_lead events [] h = refl
events_lead events (line ∷ lines) h = (event_due, (h.0, h.3, refl), events_lead h.1 lines h.4)

-- a header that is taken and lines of events lead to more of them
pub header_leads : (headers : Headers) (version : Version) (events : List Event) (lines : List (List ℕ)) → TakesHeader headers version → AreEvents events lines
    → EventLeads (event_header_due headers) (event_header version ∷ lines) event_due
header_leads headers version events lines takes h = (event_due, ((version, takes, refl), refl), events_lead events lines h)

-- no fault is found in a text that spells a run
pub none_found : (headers : Headers) (version : Version) (events : List Event) (text : List ℕ) → RunText headers (version, events) text
    → found_in headers true text ≡ None
none_found headers version events text (takes, h) =
    found_at_feed headers true (event_header version ∷ h.event_lines) text event_due h.lines
    (header-is_line version, AreEvents-lines events h.event_lines h.are_events)
    (header_leads headers version events h.event_lines takes h.are_events)
