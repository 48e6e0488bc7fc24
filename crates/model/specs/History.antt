-- What has happened so far: events and the answers to them.
use Rattle.std.specs.Prelude.{ℕ, ◌+◌, ◌==◌, ◌&&◌, Bool, true, false, if◌then◌else◌, List}
use Rattle.std.specs.Prelude.{[], ◌∷◌, ◌++◌, length, max, Option, None, Some, slice_get}
use Rattle.grid.specs.declared.cell.Cell.{Cell}
use Rattle.model.specs.declared.event.Event.{Event}
use Rattle.model.specs.declared.event.Event.TheVariants.{Start, Finish, Say, Deliver, Restart, Tear}
use Rattle.model.specs.declared.why.Why.{Why}
use Rattle.model.specs.declared.why.Why.TheVariants.{StoreFailed}
use Rattle.model.specs.declared.version.Version.{Version}
use Rattle.model.specs.Messages.{Message, told, message_said}
use Rattle.model.specs.Timetable.{Timetable}

-- what an event is answered with
pub data Answer : Type 0 where
  -- the agent has begun to move to the cell
  moving : Cell → Answer
  -- it has come to the cell
  arrived : Cell → Answer
  -- the message with this number has these bytes
  said : ℕ → List ℕ → Answer
  -- from this agent, of which so many moves are known to be finished
  heard : ℕ → ℕ → Answer
  -- after a restart: in the cell, with so many moves finished
  at : Cell → ℕ → Answer
  -- after a restart: between the cells, with so many moves finished
  between : Cell → Cell → ℕ → Answer
  armed : Answer
  refused : Why → Answer

pub record Happening : Type 0 where
  pub event : Event
  pub answer : Answer

-- the newest first
abbrev pub History : Type 0
History = List Happening

-- ---- what has been told to the tape

abbrev pub is_store_failed : Answer → Bool
is_store_failed (refused StoreFailed) = true
is_store_failed _ = false

-- the agent was opened again
abbrev pub is_opened : Answer → Bool
is_opened (at c k) = true
is_opened (between u v k) = true
is_opened _ = false

abbrev pub is_armed : Answer → Bool
is_armed armed = true
is_armed _ = false

-- what a tear has left to the agent's next write: so many bytes
abbrev pub armed_after : Event → Answer → ℕ → Option ℕ → Option ℕ
armed_after (Start j) r i before = if (j == i) && is_store_failed r then None else before
armed_after (Finish j) r i before = if (j == i) && is_store_failed r then None else before
armed_after (Restart j) r i before = if (j == i) && is_opened r then None else before
armed_after (Tear j n) r i before = if (j == i) && is_armed r then Some n else before
armed_after _ r i before = before

abbrev pub armed_of : History → ℕ → Option ℕ
armed_of [] i = None
armed_of (now ∷ h) i = armed_after now.event now.answer i (armed_of h i)

-- since the agent was last opened, a write of it has failed
abbrev pub broken_after : Event → Answer → ℕ → Bool → Bool
broken_after (Start j) r i before = if (j == i) && is_store_failed r then true else before
broken_after (Finish j) r i before = if (j == i) && is_store_failed r then true else before
broken_after (Restart j) r i before = if (j == i) && is_opened r then false else before
broken_after _ r i before = before

abbrev pub is_broken : History → ℕ → Bool
is_broken [] i = false
is_broken (now ∷ h) i = broken_after now.event now.answer i (is_broken h i)

-- ---- how far an agent has come

-- a record has this many bytes; a write that fails after all of them has stored it
abbrev pub record_length : ℕ
record_length = 10

abbrev pub stores_all : Option ℕ → Bool
stores_all None = false
stores_all (Some n) = n == record_length

-- a begun move is on the tape: it was answered with the cell, or all bytes of its record were
-- stored
abbrev pub is_begun : Answer → Option ℕ → Bool
is_begun (moving c) tear = true
is_begun (refused StoreFailed) tear = stores_all tear
is_begun _ tear = false

-- the same of a finished move
abbrev pub is_ended : Answer → Option ℕ → Bool
is_ended (arrived c) tear = true
is_ended (refused StoreFailed) tear = stores_all tear
is_ended _ tear = false

abbrev pub starts_of : Event → Answer → ℕ → Option ℕ → ℕ
starts_of (Start j) r i tear = if (j == i) && is_begun r tear then 1 else 0
starts_of _ r i tear = 0

abbrev pub finishes_of : Event → Answer → ℕ → Option ℕ → ℕ
finishes_of (Finish j) r i tear = if (j == i) && is_ended r tear then 1 else 0
finishes_of _ r i tear = 0

-- how many moves the agent has begun
abbrev pub kept_starts : History → ℕ → ℕ
kept_starts [] i = 0
kept_starts (now ∷ h) i = kept_starts h i + starts_of now.event now.answer i (armed_of h i)

-- how many moves the agent has finished
abbrev pub done : History → ℕ → ℕ
done [] i = 0
done (now ∷ h) i = done h i + finishes_of now.event now.answer i (armed_of h i)

abbrev pub is_moving : History → ℕ → Bool
is_moving h i = kept_starts h i == done h i + 1

-- ---- what was said and heard

abbrev pub is_said : Answer → Bool
is_said (said m bytes) = true
is_said _ = false

abbrev pub is_heard : Answer → Bool
is_heard (heard j n) = true
is_heard _ = false

-- what an agent says tells what it knows then: nothing but its own moves at version 1
abbrev pub messages_of : Version → Timetable → Event → Answer → History → (ℕ → ℕ → ℕ) → List Message
messages_of version tt (Say i) r h known =
    if is_said r then message_said version (length tt.tracks) i (done h i) (known i) ∷ [] else []
messages_of version tt _ r h known = []

abbrev pub told_of : Option Message → ℕ → ℕ
told_of None j = 0
told_of (Some message) j = told message j

-- what an agent knows of another: the greatest number in any message that it heard since it was
-- opened
abbrev pub known_after : Event → Answer → List Message → ℕ → ℕ → ℕ → ℕ
known_after (Deliver k m) r messages i j before =
    if (k == i) && is_heard r then max before (told_of (slice_get messages m) j) else before
known_after (Restart k) r messages i j before = if (k == i) && is_opened r then 0 else before
known_after _ r messages i j before = before

-- what was said, in order, and what each agent knows of each other: either hangs on the other
pub record News : Type 0 where
  pub messages : List Message
  pub known : ℕ → ℕ → ℕ

abbrev pub news_after : Version → Timetable → Happening → History → News → News
news_after version tt now h before = record {
  messages = before.messages ++ messages_of version tt now.event now.answer h before.known;
  known = λ i j. known_after now.event now.answer before.messages i j (before.known i j);
}

-- by the version of the run's messages, and by the agents of its timetable
abbrev pub news : Version → Timetable → History → News
news version tt [] = record { messages = []; known = λ i j. 0 }
news version tt (now ∷ h) = news_after version tt now h (news version tt h)

-- the messages, in the order in which they were said
abbrev pub messages : Version → Timetable → History → List Message
messages version tt h = (news version tt h).messages

-- the greatest number of finished moves of the second agent in any message that the first heard
-- since it was opened
abbrev pub known : Version → Timetable → History → ℕ → ℕ → ℕ
known version tt h i j = (news version tt h).known i j
