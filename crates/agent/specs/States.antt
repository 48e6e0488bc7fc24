-- The state of an agent as plain data, and what each call answers and leaves. An agent is one of a
-- timetable, and has a track.
use Rattle.std.specs.Prelude.{◌≡◌, ℕ, ◌+◌, ◌/◌, ◌%◌, ◌==◌, ◌⊎◌}
use Rattle.std.specs.Prelude.{◌||◌, Bool, true, false, if◌then◌else◌, MatchBool, nat_lt}
use Rattle.std.specs.Prelude.{nat_le, List, length, Option, None, Some, option_map}
use Rattle.std.specs.Prelude.{unwrap_or, MatchOption, Result, Ok, Err}
use Rattle.std.specs.List.{list_any}
use Rattle.grid.specs.declared.cell.Cell.{Cell}
use Rattle.model.specs.declared.held.Held.{Held}
use Rattle.model.specs.declared.held.Held.TheVariants.{At, Between}
use Rattle.model.specs.Timetable.{Track, Timetable, moves, track_of}
use Rattle.model.specs.Dependency.{Need, need}
use Rattle.model.specs.declared.entry.Entry.{Entry}
use Rattle.model.specs.declared.msg_fault.MsgFault.TheVariants.{BadEntry}
use Rattle.model.specs.Messages.{Message, own_message, whole_message, IsMessage, IsTold}
use Rattle.model.specs.Rules.{path_cell}
use Rattle.agent.specs.declared.counters.Counter.{Counter}
use Rattle.agent.specs.declared.finished.Finished.{Finished}
use Rattle.agent.specs.declared.refusal.Refusal.{Refusal}
use Rattle.agent.specs.declared.refusal.Refusal.TheVariants.{Broken, AlreadyMoving, AtEnd}
use Rattle.agent.specs.declared.refusal.Refusal.TheVariants.{Waits, NotMoving, StoreFailed}
use Rattle.agent.specs.declared.refusal.TellFault.{TellFault}
use Rattle.agent.specs.declared.refusal.TellFault.TheVariants.{Broken as broken_teller}
use Rattle.agent.specs.declared.refusal.TellFault.TheVariants.{OutOfMemory as no_memory}
use Rattle.agent.specs.declared.refusal.HearFault.{HearFault}
use Rattle.agent.specs.declared.refusal.HearFault.TheVariants.{Message as bad_message}
use Rattle.agent.specs.declared.refusal.HearFault.TheVariants.{WrongPlan as wrong_plan}
use Rattle.agent.specs.declared.refusal.HearFault.TheVariants.{NoSuchAgent as no_such_agent}
use Rattle.agent.specs.declared.refusal.HearFault.TheVariants.{TooMany as too_many}
use Rattle.agent.specs.declared.refusal.HearFault.TheVariants.{Broken as broken_agent}
use Rattle.agent.specs.declared.refusal.HearFault.TheVariants.{OutOfMemory as out_of_memory}
use Rattle.agent.specs.Counters.{known_in, Raises, TellsOfNew}
use Rattle.agent.specs.Decoding.{wrong_entry, any_fault}
use Rattle.agent.specs.Tellings.{Telling, BytesTell}

-- how many whole records the tape has, what was heard since it was opened, and whether a write has
-- failed since
pub record State : Type 0 where
  pub records : ℕ
  pub heard : List Counter
  pub broken : Bool

-- how many moves are finished
abbrev pub finished_moves : State → ℕ
finished_moves s = s.records / 2

-- how many moves are begun: those of which the tape has a record
abbrev pub begun_moves : State → ℕ
begun_moves s = (s.records + 1) / 2

abbrev pub is_on_the_way : State → Bool
is_on_the_way s = s.records % 2 == 1

-- what the agent holds
abbrev pub held_by_tape : Track → State → Held
held_by_tape track s =
    if is_on_the_way s then Between (path_cell track (finished_moves s))
    (path_cell track (finished_moves s + 1)) else At (path_cell track (finished_moves s))

-- ---- starts and finishes: the first refusal that stands, or a write of the due record

abbrev pub waits_for : List Counter → Option Need → Option Refusal
waits_for heard None = None
waits_for heard (Some n) =
    if nat_lt (known_in heard n.agent) n.count then Some (Waits n.agent n.count) else None

abbrev pub start_refusal : Timetable → ℕ → Track → State → Option Refusal
start_refusal tt i track s =
    if s.broken then Some Broken
    else (if is_on_the_way s then Some AlreadyMoving
    else (if finished_moves s == moves track then Some AtEnd
    else waits_for s.heard (need tt i track (finished_moves s))))

abbrev pub finish_refusal : State → Option Refusal
finish_refusal s =
    if s.broken then Some Broken else (if is_on_the_way s then None else Some NotMoving)

-- the cell of the move at hand
abbrev pub next_cell : Track → State → Cell
next_cell track s = path_cell track (finished_moves s + 1)

-- A write of the due record succeeded, and the cell is answered; or it failed, the agent is broken,
-- and the record is stored or not.
pub record Stores (old new : State) (cell : Cell) (answer : Result Cell Refusal) : Type 0 where
  pub heard : new.heard ≡ old.heard
  pub outcome : ((answer ≡ Ok cell) × (new.records ≡ old.records + 1) × (new.broken ≡ old.broken))
      ⊎ ((answer ≡ Err StoreFailed)
      × ((new.records ≡ old.records) ⊎ (new.records ≡ old.records + 1)) × (new.broken ≡ true))

-- a refusal changes nothing
abbrev pub Answers : Option Refusal → State → State → Cell → Result Cell Refusal → Type 0
Answers None old new cell answer = Stores old new cell answer
Answers (Some why) old new cell answer = (answer ≡ Err why) × (new ≡ old)

-- ---- saying and hearing

-- the message of an agent, with its number of stored finished moves
abbrev pub IsSaid : Timetable → ℕ → State → Result (List ℕ) Refusal → Type 0
IsSaid tt i s (Ok bytes) = (s.broken ≡ false) × IsMessage tt.number i (finished_moves s) bytes
IsSaid tt i s (Err why) = (s.broken ≡ true) × (why ≡ Broken)

-- the message of version 2, with all that an agent knows
abbrev pub IsToldBy : Timetable → ℕ → State → Result (List ℕ) TellFault → Type 0
IsToldBy tt i s (Ok bytes) =
    (s.broken ≡ false)
    × IsTold tt.number
    (whole_message (length tt.tracks) i (finished_moves s) (known_in s.heard)) bytes
IsToldBy tt i s (Err broken_teller) = s.broken ≡ true
IsToldBy tt i s (Err no_memory) = s.broken ≡ false

-- Each entry raises the counter of its agent, and the sender is answered with what is then known of
-- it; or memory is wanting, where some entry is of an agent not heard of before, and nothing has
-- changed.
abbrev pub Keeps : State → State → Message → Result (ℕ × ℕ) HearFault → Type 0
Keeps old new message (Ok answer) =
    (answer ≡ (message.sender, known_in new.heard message.sender))
    × Raises old.heard new.heard message.entries
    × (new.records ≡ old.records) × (new.broken ≡ old.broken)
Keeps old new message (Err fault) =
    (fault ≡ out_of_memory) × TellsOfNew old.heard message.entries × (new ≡ old)

abbrev pub Refuses : State → State → Result (ℕ × ℕ) HearFault → HearFault → Type 0
Refuses old new answer fault = (answer ≡ Err fault) × (new ≡ old)

-- why bytes are not heard: a broken agent hears nothing, and what is no message has its fault
abbrev pub bytes_refusal : State → List ℕ → Option HearFault
bytes_refusal s bytes =
    if s.broken then Some broken_agent else option_map bad_message (any_fault bytes)

-- the sender, or the agent of an entry, is none of the plan's
abbrev pub names_nobody : Timetable → Message → Bool
names_nobody tt message =
    nat_le (length tt.tracks) message.sender
    || list_any (λ entry. nat_le (length tt.tracks) entry.agent) message.entries

-- how many moves an agent has; none where there is no such agent
abbrev pub moves_of : Timetable → ℕ → ℕ
moves_of tt j = unwrap_or (option_map moves (track_of tt j)) 0

-- some entry tells more moves than its agent has
abbrev pub tells_too_many : Timetable → Message → Bool
tells_too_many tt message =
    list_any (λ entry. nat_lt (moves_of tt entry.agent) entry.done) message.entries

-- why a message of the plan is not heard
abbrev pub message_refusal : Timetable → Message → Option HearFault
message_refusal tt message =
    if names_nobody tt message then Some no_such_agent else
    (if tells_too_many tt message then Some too_many else None)

-- or one of another plan
abbrev pub telling_refusal : Timetable → Telling → Option HearFault
telling_refusal tt t = if t.plan == tt.number then message_refusal tt t.message else Some wrong_plan

-- what comes of what is told to an agent that isn't broken: the first refusal that stands, or it is
-- kept
abbrev pub IsTaken : Timetable → State → State → Telling → Result (ℕ × ℕ) HearFault → Type 0
IsTaken tt old new t answer =
    MatchOption (telling_refusal tt t) (Keeps old new t.message answer) (Refuses old new answer)

-- what comes of bytes: the first refusal that stands, or what they tell is taken
abbrev pub IsHeard : Timetable → State → State → List ℕ → Result (ℕ × ℕ) HearFault → Type 0
IsHeard tt old new bytes answer =
    MatchOption (bytes_refusal old bytes)
    ((t : Telling) × BytesTell bytes t × IsTaken tt old new t answer)
    (Refuses old new answer)

-- why what is told is not heard, where no bytes are: a broken agent hears nothing, and entries that
-- don't rise have their fault
abbrev pub told_refusal : State → List Entry → Option HearFault
told_refusal s entries =
    if s.broken then Some broken_agent else option_map (λ number. bad_message (BadEntry number))
    (wrong_entry 0 0 entries)

-- the same of a message of version 2 by its entries
abbrev pub IsHeardOf : Timetable → State → State → Message → Result (ℕ × ℕ) HearFault → Type 0
IsHeardOf tt old new message answer =
    MatchOption (told_refusal old message.entries)
    (IsTaken tt old new (record { plan = tt.number; message = message }) answer)
    (Refuses old new answer)

-- and of version 1 by what the sender has finished
abbrev pub IsHeardFrom : Timetable → State → State → Finished → Result (ℕ × ℕ) HearFault → Type 0
IsHeardFrom tt old new f answer =
    MatchBool old.broken (Refuses old new answer broken_agent)
    (IsTaken tt old new (record { plan = f.plan; message = own_message f.from f.done }) answer)
