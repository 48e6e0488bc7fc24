-- What each event is answered with: the first case that holds. The rules, and the histories that
-- they speak of, are this project's own.
use Rattle.std.specs.Prelude.{◌≡◌, ℕ, ◌+◌, ◌==◌, if◌then◌else◌, nat_lt, [], ◌∷◌}
use Rattle.std.specs.Prelude.{length, max, Option, None, Some, slice_get, slice_index_or}
use Rattle.grid.specs.declared.cell.Cell.{Cell}
use Rattle.model.specs.declared.event.Event.{Event}
use Rattle.model.specs.declared.event.Event.TheVariants.{Start, Finish, Say, Deliver, Restart, Tear}
use Rattle.model.specs.declared.why.Why.TheVariants.{NoSuchAgent, NoSuchMessage, BadTear}
use Rattle.model.specs.declared.why.Why.TheVariants.{Broken, AlreadyMoving, AtEnd}
use Rattle.model.specs.declared.why.Why.TheVariants.{Waits, NotMoving, StoreFailed}
use Rattle.model.specs.Timetable.{Track, Timetable, path, moves, track_of}
use Rattle.model.specs.Dependency.{Need, need}
use Rattle.model.specs.declared.version.Version.{Version}
use Rattle.model.specs.Messages.{Message, told, bytes_said}
use Rattle.model.specs.History.{Answer, moving, arrived, said, heard, at}
use Rattle.model.specs.History.{between, armed, refused, History, armed_of, is_broken}
use Rattle.model.specs.History.{record_length, done, is_moving, messages, known}

-- the cell of the path with this number; a path has no others than those up to its last
abbrev pub path_cell : Track → ℕ → Cell
path_cell track n = slice_index_or (path track) n track.start

-- a write succeeds unless a tear is due
abbrev pub stored : Option ℕ → Answer → Answer
stored None r = r
stored (Some n) r = refused StoreFailed

-- the agent waits for a need as long as it doesn't know that it is met
abbrev pub unless_waiting : (ℕ → ℕ) → Option Need → Answer → Answer
unless_waiting known None r = r
unless_waiting known (Some n) r =
    if nat_lt (known n.agent) n.count then refused (Waits n.agent n.count) else r

abbrev pub start_answer : Version → Timetable → History → ℕ → Track → Answer
start_answer version tt h i track =
    if is_broken h i then refused Broken
    else (if is_moving h i then refused AlreadyMoving
    else (if done h i == moves track then refused AtEnd
    else unless_waiting (known version tt h i) (need tt i track (done h i))
    (stored (armed_of h i) (moving (path_cell track (done h i + 1))))))

abbrev pub finish_answer : History → ℕ → Track → Answer
finish_answer h i track =
    if is_broken h i then refused Broken
    else (if is_moving h i then stored (armed_of h i)
    (arrived (path_cell track (done h i + 1))) else refused NotMoving)

-- what is said is the next message, with the bytes of the run's version
abbrev pub say_answer : Version → Timetable → History → ℕ → Answer
say_answer version tt h i =
    if is_broken h i then refused Broken
    else said (length (messages version tt h))
    (bytes_said version tt.number (length tt.tracks) i (done h i) (known version tt h i))

-- the sender, and what is then known of it
abbrev pub deliver_answer : Version → Timetable → History → ℕ → Option Message → Answer
deliver_answer version tt h i None = refused NoSuchMessage
deliver_answer version tt h i (Some message) =
    if is_broken h i then refused Broken else heard message.sender
    (max (known version tt h i message.sender) (told message message.sender))

abbrev pub restart_answer : History → ℕ → Track → Answer
restart_answer h i track =
    if is_moving h i then between (path_cell track (done h i))
    (path_cell track (done h i + 1)) (done h i)
    else at (path_cell track (done h i)) (done h i)

abbrev pub tear_answer : ℕ → Answer
tear_answer n = if nat_lt record_length n then refused BadTear else armed

-- the answer of an agent that there is
abbrev pub agent_answer : Version → Timetable → History → Event → Track → Answer
agent_answer version tt h (Start i) track = start_answer version tt h i track
agent_answer version tt h (Finish i) track = finish_answer h i track
agent_answer version tt h (Say i) track = say_answer version tt h i
agent_answer version tt h (Deliver i m) track =
    deliver_answer version tt h i (slice_get (messages version tt h) m)
agent_answer version tt h (Restart i) track = restart_answer h i track
agent_answer version tt h (Tear i n) track = tear_answer n

-- the agent of an event
abbrev pub agent_of : Event → ℕ
agent_of (Start i) = i
agent_of (Finish i) = i
agent_of (Say i) = i
agent_of (Deliver i m) = i
agent_of (Restart i) = i
agent_of (Tear i n) = i

abbrev pub answer_by : Version → Timetable → History → Event → Option Track → Answer
answer_by version tt h e None = refused NoSuchAgent
answer_by version tt h e (Some track) = agent_answer version tt h e track

-- the answer to an event, after what has happened
abbrev pub answer : Version → Timetable → History → Event → Answer
answer version tt h e = answer_by version tt h e (track_of tt (agent_of e))

-- a run at a version: each answer is the one that the rules give after what came before
abbrev pub IsRun : Version → Timetable → History → Type 0
IsRun version tt [] = Unit {0}
IsRun version tt (now ∷ h) = (now.answer ≡ answer version tt h now.event) × IsRun version tt h
