-- How an event is told from its line.
use Rattle.std.specs.Prelude.{◌≡◌, ℕ, ◌+◌, ◌^◌, ◌==◌, if◌then◌else◌, List, []}
use Rattle.std.specs.Prelude.{◌∷◌, ◌++◌, length, codes, Option, Some, None}
use Rattle.text_io.specs.Text.{space, line_feed}
use Rattle.text_io.specs.Reading.{LeadsBy}
use Rattle.model.specs.declared.event.Event.{Event}
use Rattle.model.specs.declared.event.Event.TheVariants.{Start, Finish, Say, Deliver, Restart, Tear}
use Rattle.text_io.specs.Numerals.{numeral_below}
use Rattle.event_text.specs.EventText.{SpellsEvent}
use Rattle.event_text.specs.EventFault.{EventDue, EventFollows}

-- the lines of a text of events are right, one after another
abbrev pub EventLeads : EventDue → List (List ℕ) → EventDue → Type 0
EventLeads = LeadsBy EventFollows

-- what stands behind a word, where the line begins with it
abbrev pub behind_word : List ℕ → List ℕ → Option (List ℕ)
behind_word [] line = Some line
behind_word (w ∷ word) [] = None
behind_word (w ∷ word) (b ∷ line) = if b == w then behind_word word line else None

abbrev pub with_front : ℕ → Option (List ℕ × List ℕ) → Option (List ℕ × List ℕ)
with_front b None = None
with_front b (Some parts) = Some (b ∷ parts.0, parts.1)

-- what stands before the first space, and what behind it
abbrev pub cut_at_space : List ℕ → Option (List ℕ × List ℕ)
cut_at_space [] = None
cut_at_space (b ∷ bytes) =
    if b == space then Some ([], bytes) else with_front b (cut_at_space bytes)

-- an event that names an agent
abbrev pub with_agent : (ℕ → Event) → Option ℕ → Option Event
with_agent event None = None
with_agent event (Some i) = Some (event i)

-- an event that names an agent and has another number
abbrev pub with_both : (ℕ → ℕ → Event) → Option ℕ → Option ℕ → Option Event
with_both event None n = None
with_both event (Some i) None = None
with_both event (Some i) (Some n) = Some (event i n)

abbrev pub with_parts : (ℕ → ℕ → Event) → ℕ → Option (List ℕ × List ℕ) → Option Event
with_parts event limit None = None
with_parts event limit (Some parts) =
    with_both event (numeral_below (2 ^ 32) parts.0) (numeral_below limit parts.1)

-- what is told of the bytes behind a word, or else something other
abbrev pub told_or : (List ℕ → Option Event) → Option (List ℕ) → Option Event → Option Event
told_or tell None other = other
told_or tell (Some rest) other = tell rest

abbrev pub one_number : (ℕ → Event) → List ℕ → Option Event
one_number event rest = with_agent event (numeral_below (2 ^ 32) rest)

abbrev pub two_numbers : (ℕ → ℕ → Event) → ℕ → List ℕ → Option Event
two_numbers event limit rest = with_parts event limit (cut_at_space rest)

-- the event of a line
abbrev pub event_of : List ℕ → Option Event
event_of line =
    told_or (one_number Start) (behind_word (codes "start ") line)
    (told_or (one_number Finish) (behind_word (codes "finish ") line)
    (told_or (one_number Say) (behind_word (codes "say ") line)
    (told_or (two_numbers Deliver (2 ^ 64)) (behind_word (codes "deliver ") line)
    (told_or (one_number Restart) (behind_word (codes "restart ") line)
    (told_or (two_numbers Tear (2 ^ 32)) (behind_word (codes "tear ") line) None)))))

-- ---- at the front of bytes of which more may follow

-- the line of the event stands at the front, then its LF, and then the rest
abbrev pub IsBehindEvent : Event → List ℕ → List ℕ → Type 0
IsBehindEvent event bytes rest =
    (line : List ℕ) × (bytes ≡ line ++ line_feed ∷ rest) × SpellsEvent event line

-- the line of the event stands at the front with its LF, and they have so many bytes
abbrev pub BeginsWithEvent : Event → ℕ → List ℕ → Type 0
BeginsWithEvent event count bytes =
    (line rest : List ℕ) × (bytes ≡ line ++ line_feed ∷ rest) × SpellsEvent event line
    × (count ≡ length line + 1)
