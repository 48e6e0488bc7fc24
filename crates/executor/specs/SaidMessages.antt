-- Messages as they are kept.
use Rattle.std.specs.Prelude.{List, map, take, drop}
use Rattle.model.specs.declared.entry.Entry.{Entry}
use Rattle.model.specs.declared.version.Version.{Version}
use Rattle.model.specs.declared.version.Version.TheVariants.{One, Two}
use Rattle.model.specs.Messages.{Message, own_message}
use Rattle.executor.specs.declared.said.Note.{Note}

-- all that was said, and at which version
pub record SaidMessages : Type 0 where
  pub version : Version
  pub messages : List Message

-- the message of a note, of whose entries there are so many from the first on
abbrev pub message_in : List Entry → Note → Message
message_in entries note =
    record { sender = note.sender; entries = take note.count (drop note.first entries) }

-- at version 1 each entry is a message of its agent's own, and at version 2 each note is one
abbrev pub messages_in : Version → List Entry → List Note → List Message
messages_in One entries notes = map (λ entry. own_message entry.agent entry.done) entries
messages_in Two entries notes = map (message_in entries) notes
