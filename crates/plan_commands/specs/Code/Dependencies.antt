-- What the parts of `mapf deps` owe each other.
use Rattle.std.specs.Prelude.{◌≡◌, ℕ, List, [], ◌∷◌, ◌++◌, Option, None, Some}
use Rattle.text_io.specs.Text.{line_feed}
use Rattle.model.specs.Timetable.{Track, Timetable, track_of}
use Rattle.depgraph.specs.AgentParts.{AgentPart}
use Rattle.plan_commands.specs.DepsText.{need_line, needs_of}

-- the needs of the part are those of the agent with this number
abbrev pub HasNeedsOf : Timetable → ℕ → AgentPart → Type 0
HasNeedsOf tt agent part =
    (track : Track) → track_of tt agent ≡ Some track → part.needs ≡ needs_of tt agent track

-- what is put for a move: the line of its need, or nothing
abbrev pub need_text : (agent move : ℕ) → Option (ℕ × ℕ) → List ℕ
need_text agent move None = []
need_text agent move (Some n) =
    need_line agent move (record { agent = n.0; count = n.1 }) ++ line_feed ∷ []
