-- What a control loop does of itself, and what it answers. Each time its agent does one deed at the
-- most.
use Rattle.std.specs.Prelude.{◌≡◌, ℕ, ◌+◌, ◌-◌, ◌⊎◌, if◌then◌else◌, List}
use Rattle.std.specs.Prelude.{Option, None, Some, Result, Ok, Err}
use Rattle.grid.specs.declared.cell.Cell.{Cell}
use Rattle.model.specs.declared.version.Version.{Version}
use Rattle.model.specs.declared.version.Version.TheVariants.{One, Two}
use Rattle.model.specs.Timetable.{Track, Timetable, path}
use Rattle.agent.specs.declared.refusal.HearFault.{HearFault}
use Rattle.agent.specs.declared.refusal.HearFault.TheVariants as hear_fault
use Rattle.agent.specs.declared.refusal.Refusal.{Refusal}
use Rattle.agent.specs.declared.refusal.Refusal.TheVariants.{Waits, AtEnd}
use Rattle.agent.specs.declared.refusal.TellFault.{TellFault}
use Rattle.agent.specs.States.{State, finished_moves, begun_moves, is_on_the_way}
use Rattle.agent.specs.States.{held_by_tape}
use Rattle.fleet.specs.Deeds.{starts, finishes, says, tells, hears, looks, Does}
use Rattle.robot.specs.Stale.{IsStale, IsFresh}
use Rattle.controller.specs.declared.command.Alarm.TheVariants as the_alarm
use Rattle.controller.specs.declared.command.Command.{Command}
use Rattle.controller.specs.declared.command.Command.TheVariants as the_command
use Rattle.controller.specs.declared.control.Control.{Control}
use Rattle.controller.specs.declared.control.Due.{Due}
use Rattle.controller.specs.declared.control.Due.TheVariants as due
use Rattle.controller.specs.declared.controller.Settings.{Settings}
use Rattle.carrier_text.specs.declared.report.Report.{Report}
use Rattle.controller.specs.Controls.{due_for, most_ahead, placed, misplaced, ticked, heard}
use Rattle.controller.specs.Controls.{stale, started, not_started, finished_move, gone}
use Rattle.controller.specs.Controls.{asked_drive, told_others}
use Rattle.controller.specs.Places.{FitsAt, IsFurthestNew}
use Rattle.controller.specs.Robots.{Robot, with_control}

-- ---- what comes from outside

-- A report of the drive. It fits a place from the finished moves of the tape up to the furthest in
-- which the drive may be; or it fits none.
abbrev pub TakesReport : Track → Report → Robot → Robot → Type 0
TakesReport track report old new =
    ((place : ℕ) × FitsAt (path track) (finished_moves old.state) old.control.far report place
    × (new ≡ with_control old (placed old.control place)))
    ⊎ (((place : ℕ) → FitsAt (path track) (finished_moves old.state) old.control.far report place
    → ⊥) × (new ≡ with_control old (misplaced old.control)))

-- what it comes to that a message was heard
abbrev pub after_hearing : Control → Result (ℕ × ℕ) HearFault → Control
after_hearing c (Ok answer) = heard c
after_hearing c (Err fault) = c

abbrev pub told_of_hearing : Result (ℕ × ℕ) HearFault → Option Command
told_of_hearing (Ok answer) = None
told_of_hearing (Err hear_fault.OutOfMemory) =
    Some (the_command.Alarm the_alarm.OutOfMemory)
told_of_hearing (Err fault) = Some (the_command.Dropped fault)

-- A message. If it shows that the tape is an older one, the agent doesn't hear it, and a person is
-- told; else it hears it.
abbrev pub TakesMessage : Timetable → ℕ → Track → List ℕ → Robot → Option Command → Robot → Type 0
TakesMessage tt i track bytes old command new =
    ((sender : ℕ) × (number : ℕ) × IsStale tt i old.state bytes sender number
    × (command
    ≡ Some (the_command.Alarm
    (the_alarm.StaleTape (record { sender = sender; number = number }))))
    × (new ≡ with_control old (stale old.control)))
    ⊎ (IsFresh tt i old.state bytes
    × ((answer : Result (ℕ × ℕ) HearFault)
    × Does tt i track old.state (hears bytes answer) new.state
    × (command ≡ told_of_hearing answer) × (new.control ≡ after_hearing old.control answer)))

-- Some time has passed. As long as the last report fits no place, a person is told.
abbrev pub TakesTick : Robot → Option Command → Robot → Type 0
TakesTick old command new =
    (command
    ≡ (if old.control.is_misplaced then Some (the_command.Alarm the_alarm.Misplaced) else None))
    × (new ≡ with_control old (ticked old.control))

-- ---- what the loop does of itself

-- what is due
abbrev pub due_in : Robot → Due
due_in r =
    if r.state.broken then due.Nothing
    else due_for r.control (finished_moves r.state) (is_on_the_way r.state)

-- why nothing is stored
abbrev pub told_of_refusal : Refusal → Command
told_of_refusal (Waits agent count) = the_command.Waits agent count
told_of_refusal AtEnd = the_command.Done
told_of_refusal refusal = the_command.Alarm the_alarm.StoreFailed

abbrev pub told_of_finish : Result Cell Refusal → Command
told_of_finish (Ok c) = the_command.Arrived c
told_of_finish (Err refusal) = told_of_refusal refusal

abbrev pub after_finish : Control → Result Cell Refusal → Control
after_finish c (Ok cell) = finished_move c
after_finish c (Err refusal) = c

-- where the agent is by its tape
abbrev pub IsStored : Track → State → Command → Type 0
IsStored track s command = command ≡ the_command.Stored (held_by_tape track s) (finished_moves s)

-- where it is when a move was begun
abbrev pub told_of_start : Track → State → Result Cell Refusal → Command
told_of_start track s (Ok c) = the_command.Stored (held_by_tape track s) (finished_moves s)
told_of_start track s (Err refusal) = told_of_refusal refusal

abbrev pub after_start : Control → (begun : ℕ) → Result Cell Refusal → Control
after_start c begun (Ok cell) = started c begun
after_start c begun (Err refusal) = not_started c begun

-- the message that is to be sent
abbrev pub message_of_command : Command → Option (List ℕ)
message_of_command (the_command.Say bytes) = Some bytes
message_of_command (the_command.Tell bytes) = Some bytes.items
message_of_command command = None

-- what is told is sent, or a person is told why it isn't
abbrev pub IsSaidOrAlarm : Command → Result (List ℕ) Refusal → Type 0
IsSaidOrAlarm command (Ok said) = message_of_command command ≡ Some said
IsSaidOrAlarm command (Err refusal) = command ≡ told_of_refusal refusal

abbrev pub IsToldOrAlarm : Command → Result (List ℕ) TellFault → Type 0
IsToldOrAlarm command (Ok said) = message_of_command command ≡ Some said
IsToldOrAlarm command (Err fault) = command ≡ the_command.Alarm the_alarm.OutOfMemory

-- the end of a move is stored
abbrev pub FinishesMove : Timetable → ℕ → Track → Robot → Command → Robot → Type 0
FinishesMove tt i track old command new =
    (answer : Result Cell Refusal) × Does tt i track old.state (finishes answer) new.state
    × (command ≡ told_of_finish answer) × (new.control ≡ after_finish old.control answer)

-- the begin of one is
abbrev pub StartsMove : Timetable → ℕ → Track → Robot → Command → Robot → Type 0
StartsMove tt i track old command new =
    (answer : Result Cell Refusal) × Does tt i track old.state (starts answer) new.state
    × (command ≡ told_of_start track new.state answer)
    × (new.control ≡ after_start old.control (begun_moves new.state) answer)

-- The drive is let go from the tape's place on to the end of the move at hand, if one was begun,
-- and into so many cells behind it: as many as are free where the agent looks, at as many as the
-- drive may be told of, and as have no cell twice with those from the tape's place on.
pub record LetsGo (settings : Settings) (tt : Timetable) (i : ℕ) (track : Track) (old : Robot)
    (command : Command) (new : Robot) : Type 0 where
  pub last : ℕ
  pub is_last : IsFurthestNew (path track) (finished_moves old.state)
      (begun_moves old.state + most_ahead old.control settings.ahead) last
  pub count : ℕ
  pub does : Does tt i track old.state
      (looks (begun_moves old.state) (last - begun_moves old.state) count) new.state
  pub is_command
      : command
      ≡ the_command.Go (record {
        first = finished_moves old.state;
        last = begun_moves old.state + count;
      })
  pub control : new.control ≡ gone old.control (begun_moves old.state + count)

-- the others are told
abbrev pub TellsOthers : Version → Timetable → ℕ → Track → Robot → Command → Robot → Type 0
TellsOthers One tt i track old command new =
    (answer : Result (List ℕ) Refusal) × Does tt i track old.state (says answer) new.state
    × IsSaidOrAlarm command answer × (new.control ≡ told_others old.control)
TellsOthers Two tt i track old command new =
    (answer : Result (List ℕ) TellFault) × Does tt i track old.state (tells answer) new.state
    × IsToldOrAlarm command answer × (new.control ≡ told_others old.control)

-- What is done, by what is due.
abbrev pub DoesDue
    : Due → Settings → Timetable → ℕ → Track → Robot → Option Command → Robot → Type 0
DoesDue due.Nothing settings tt i track old command new = (command ≡ None) × (new ≡ old)
DoesDue due.Ask settings tt i track old command new =
    (command ≡ Some the_command.Ask) × (new ≡ with_control old (asked_drive old.control))
DoesDue due.Finish settings tt i track old command new =
    (done : Command) × (command ≡ Some done) × FinishesMove tt i track old done new
DoesDue due.Start settings tt i track old command new =
    (done : Command) × (command ≡ Some done) × StartsMove tt i track old done new
DoesDue due.Go settings tt i track old command new =
    (done : Command) × (command ≡ Some done) × LetsGo settings tt i track old done new
DoesDue due.Tell settings tt i track old command new =
    (done : Command) × (command ≡ Some done)
    × TellsOthers settings.version tt i track old done new

abbrev pub WorksOn
    : Settings → Timetable → ℕ → Track → Robot → Option Command → Robot → Type 0
WorksOn settings tt i track old command new =
    DoesDue (due_in old) settings tt i track old command new
