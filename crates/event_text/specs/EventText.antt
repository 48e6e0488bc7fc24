-- The text of a run's events: which texts spell a version of messages and a list of events.
use Rattle.std.specs.Prelude.{◌≡◌, ℕ, ◌^◌, ◌<◌, List, [], ◌∷◌, codes, ⊤}
use Rattle.std.specs.List.{join_with_byte}
use Rattle.text_io.specs.Text.{space, ended}
use Rattle.model.specs.declared.event.Event.{Event}
use Rattle.model.specs.declared.event.Event.TheVariants.{Start, Finish, Say, Deliver, Restart, Tear}
use Rattle.model.specs.declared.version.Version.{Version}
use Rattle.model.specs.declared.version.Version.TheVariants.{One, Two}
use Rattle.text_io.specs.Numerals.{IsNumeral}
use Rattle.event_text.specs.declared.header.Headers.{Headers}
use Rattle.event_text.specs.declared.header.Headers.TheVariants.{VersionOne, Either}

-- the header of a version
abbrev pub event_header : Version → List ℕ
event_header One = codes "mapf-events 1"
event_header Two = codes "mapf-events 2"

-- a word and a number below 2^32, with one space between them
abbrev pub NamesAgent : List ℕ → ℕ → List ℕ → Type 0
NamesAgent word i line =
    (x : List ℕ) × (line ≡ join_with_byte space (word ∷ x ∷ [])) × IsNumeral i x × (i < 2 ^ 32)

-- the same, and then one space and a second number, below a limit
abbrev pub NamesAgentAnd : List ℕ → ℕ → ℕ → ℕ → List ℕ → Type 0
NamesAgentAnd word i n limit line =
    (x y : List ℕ) × (line ≡ join_with_byte space (word ∷ x ∷ y ∷ [])) × IsNumeral i x
    × (i < 2 ^ 32) × IsNumeral n y × (n < limit)

-- the line, without its LF, is that of the event
abbrev pub SpellsEvent : Event → List ℕ → Type 0
SpellsEvent (Start i) line = NamesAgent (codes "start") i line
SpellsEvent (Finish i) line = NamesAgent (codes "finish") i line
SpellsEvent (Say i) line = NamesAgent (codes "say") i line
SpellsEvent (Deliver i m) line = NamesAgentAnd (codes "deliver") i m (2 ^ 64) line
SpellsEvent (Restart i) line = NamesAgent (codes "restart") i line
SpellsEvent (Tear i n) line = NamesAgentAnd (codes "tear") i n (2 ^ 32) line

-- each line is an event, in order
abbrev pub AreEvents : List Event → List (List ℕ) → Type 0
AreEvents events [] = events ≡ []
AreEvents events (line ∷ lines) =
    (event : Event) × (others : List Event) × (events ≡ event ∷ others) × SpellsEvent event line
    × AreEvents others lines

-- The text spells the version and the events: its lines, each ended by an LF, are the version's
-- header and one for each event.
pub record EventText (version : Version) (events : List Event) (text : List ℕ) : Type 0 where
  pub event_lines : List (List ℕ)
  pub lines : text ≡ ended (event_header version ∷ event_lines)
  pub are_events : AreEvents events event_lines

-- ---- which headers are taken

-- the header of the version is taken: that of version 1 alone, or either
abbrev pub TakesHeader : Headers → Version → Type 0
TakesHeader VersionOne version = version ≡ One
TakesHeader Either version = ⊤

-- the line is a header that is taken
abbrev pub IsHeader : Headers → List ℕ → Type 0
IsHeader headers line =
    (version : Version) × TakesHeader headers version × (line ≡ event_header version)

-- the text spells the run, a version and events, and its header is taken
abbrev pub RunText : Headers → Version × List Event → List ℕ → Type 0
RunText headers run text = TakesHeader headers run.0 × EventText run.0 run.1 text
