-- The version of a text, and its events up to its first line that is none.
use Rattle.std.specs.Prelude.{◌≡◌, ℕ, List, [], ◌∷◌, ◌++◌, Option, Some, None}
use Rattle.text_io.specs.Text.{line_feed, ended}
use Rattle.model.specs.declared.event.Event.{Event}
use Rattle.model.specs.declared.version.Version.{Version}
use Rattle.event_text.specs.declared.header.Headers.{Headers}
use Rattle.event_text.specs.EventText.{event_header, SpellsEvent, AreEvents, TakesHeader}

-- the line of the version's header and its LF stand at the front
abbrev pub BeginsWithHeader : Version → List ℕ → Type 0
BeginsWithHeader version text = (rest : List ℕ) × (text ≡ event_header version ++ line_feed ∷ rest)

-- no header that is taken stands there
abbrev pub BeginsWithNoHeader : Headers → List ℕ → Type 0
BeginsWithNoHeader headers text =
    (version : Version) → TakesHeader headers version → BeginsWithHeader version text → ⊥

-- no line of an event, with its LF, stands at the front
abbrev pub BeginsWithNoEvent : List ℕ → Type 0
BeginsWithNoEvent text =
    (event : Event) (line more : List ℕ) → SpellsEvent event line
    → text ≡ line ++ line_feed ∷ more → ⊥

-- The version of a text's header, and all the events up to the first line that is none; a text
-- without a header that is taken has no version and no events.
abbrev pub FirstEvents : Headers → Option Version → List Event → List ℕ → Type 0
FirstEvents headers None events text = (events ≡ []) × BeginsWithNoHeader headers text
FirstEvents headers (Some version) events text =
    TakesHeader headers version
    × ((lines : List (List ℕ)) × (rest : List ℕ)
    × (text ≡ ended (event_header version ∷ lines) ++ rest) × AreEvents events lines
    × BeginsWithNoEvent rest)

-- the version of a text's header and some of its first events, perhaps none; before the header is
-- read, neither
abbrev pub BeginsWithEvents : Headers → Option Version → List Event → List ℕ → Type 0
BeginsWithEvents headers None events text = events ≡ []
BeginsWithEvents headers (Some version) events text =
    TakesHeader headers version
    × ((lines : List (List ℕ)) × (rest : List ℕ)
    × (text ≡ ended (event_header version ∷ lines) ++ rest) × AreEvents events lines)
