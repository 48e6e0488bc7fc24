-- What every message of a run tells.
use Rattle.std.specs.Prelude.{◌≡◌, ℕ, ◌≤◌, List, ◌∷◌, ◌++◌, length, Some, slice_get}
use Rattle.model.specs.declared.entry.Entry.{Entry}
use Rattle.model.specs.declared.event.Event.TheVariants.{Say}
use Rattle.model.specs.declared.version.Version.{Version}
use Rattle.model.specs.Timetable.{Track, Timetable, moves, track_of}
use Rattle.model.specs.Messages.{Message, message_said}
use Rattle.model.specs.History.{said, History, done, known}

-- the entry is of an agent that there is, and of no more moves than that one had finished
abbrev pub HasFinished : Timetable → History → Entry → Type 0
HasFinished tt h entry =
    (track : Track) × (track_of tt entry.agent ≡ Some track) × (entry.done ≤ done h entry.agent)
    × (done h entry.agent ≤ moves track)

-- The message with a number was said, by an agent that there is: it tells what that one knew when
-- it said it, and each of its entries was so then.
pub record WasSaid (version : Version) (tt : Timetable) (h : History) (m : ℕ)
    (message : Message) : Type 0 where
  pub agent : ℕ
  pub bytes : List ℕ
  pub later : History
  pub earlier : History
  pub when : h ≡ later ++ record { event = Say agent; answer = said m bytes } ∷ earlier
  pub is_agent : (track : Track) × (track_of tt agent ≡ Some track)
  pub tells : message ≡ message_said version (length tt.tracks) agent (done earlier agent)
      (known version tt earlier agent)
  pub entries : (e : ℕ) (entry : Entry) → slice_get message.entries e ≡ Some entry
      → HasFinished tt earlier entry
