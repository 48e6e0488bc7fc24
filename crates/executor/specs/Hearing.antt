-- Of whom an agent has heard.
use Rattle.std.specs.Prelude.{ℕ, ◌==◌, ◌&&◌, ◌||◌, Bool, false, if◌then◌else◌}
use Rattle.std.specs.Prelude.{List, [], ◌∷◌, Option, None, Some, slice_get}
use Rattle.model.specs.declared.event.Event.{Event}
use Rattle.model.specs.declared.event.Event.TheVariants.{Deliver, Restart}
use Rattle.model.specs.declared.version.Version.{Version}
use Rattle.model.specs.History.{Answer, History, is_heard, is_opened, messages}
use Rattle.model.specs.Messages.{Message}
use Rattle.model.specs.Timetable.{Timetable}
use Rattle.agent.specs.Counters.{tells_of}

-- there is a message, and it has an entry of the agent
abbrev pub message_tells_of : Option Message → ℕ → Bool
message_tells_of None j = false
message_tells_of (Some message) j = tells_of message.entries j

abbrev pub heard_of_after : Event → Answer → List Message → ℕ → ℕ → Bool → Bool
heard_of_after (Deliver k m) r messages i j before =
    if (k == i) && is_heard r then message_tells_of (slice_get messages m) j || before else before
heard_of_after (Restart k) r messages i j before = if (k == i) && is_opened r then false else before
heard_of_after _ r messages i j before = before

-- some message that the first agent heard since it was opened has an entry of the second
abbrev pub has_heard_of : Version → Timetable → History → ℕ → ℕ → Bool
has_heard_of version tt [] i j = false
has_heard_of version tt (now ∷ h) i j =
    heard_of_after now.event now.answer (messages version tt h) i j (has_heard_of version tt h i j)
