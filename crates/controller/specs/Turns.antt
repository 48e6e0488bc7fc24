-- Turns of robots: what has to happen to each of them so that a fleet comes on.
use Rattle.std.specs.Prelude.{◌≡◌, ℕ, ◌*◌, ◌≤◌, ◌⊎◌, Bool, true, false, ⊤, List}
use Rattle.std.specs.Prelude.{Option, None, Some}
use Rattle.std.specs.Prelude.{MatchBool, MatchOption}
use Rattle.std.specs.List.{AllByRecursion}
use Rattle.model.specs.Dependency.{need}
use Rattle.model.specs.Timetable.{Track, Timetable, moves, track_of}
use Rattle.agent.specs.Counters.{known_in}
use Rattle.agent.specs.States.{finished_moves, is_on_the_way, next_cell}
use Rattle.controller.specs.declared.command.Command.{Command}
use Rattle.controller.specs.declared.command.Command.TheVariants.{Alarm}
use Rattle.controller.specs.declared.controller.Settings.{Settings}
use Rattle.carrier_text.specs.declared.report.Report.TheVariants.{Stands}
use Rattle.controller.specs.Loops.{RobotEvent, reports, hears, ticks, stops, goes_on}
use Rattle.controller.specs.Loops.{HasComeTo, HasLedRobot, LeadsRobot, MayDrive}
use Rattle.controller.specs.Robots.{Robot}

abbrev pub is_alarm : Option Command → Bool
is_alarm (Some (Alarm alarm)) = true
is_alarm command = false

-- nobody stops the robot, and no person is told anything
abbrev pub GoesWell : RobotEvent → Type 0
GoesWell (reports report) = Unit {0}
GoesWell (hears bytes command) = is_alarm command ≡ false
GoesWell (ticks command) = is_alarm command ≡ false
GoesWell stops = ⊥
GoesWell (goes_on command) = is_alarm command ≡ false

-- the robot has listened, and nothing keeps it from beginning a move
pub record MayBegin (r : Robot) : Type 0 where
  pub may_drive : MayDrive r
  pub listened : r.control.listens ≡ 0
  pub not_stopped : r.control.is_stopped ≡ false

-- these lead the robot from one state to another, and all of them go well
pub record IsLedWell (settings : Settings) (tt : Timetable) (i : ℕ) (track : Track) (old : Robot)
    (happened : List RobotEvent) (new : Robot) : Type 0 where
  pub led : HasLedRobot settings tt i track old happened new
  pub well : AllByRecursion GoesWell happened

-- What comes to a robot that is on its way: its drive arrives. What comes to one that stands: a
-- tick, when its drive is in a place that is known, and the robot has heard of the one that its
-- next move waits for at least what that one had finished when the round began.
abbrev pub IsTurnOf
    : Timetable → ℕ → Track → (finished : ℕ → ℕ) → (old before : Robot) → RobotEvent → Type 0
IsTurnOf tt i track finished old before event =
    MatchBool (is_on_the_way old.state)
    (event ≡ reports (Stands (next_cell track old.state)))
    ((event ≡ ticks None) × ((place : ℕ) × (before.control.drive ≡ Some place))
    × MatchOption (need tt i track (finished_moves old.state)) ⊤
    (λ n. finished n.agent ≤ known_in before.state.heard n.agent))

-- A robot has a turn in a round: this comes to it, and right behind it the loop does what is due.
-- Before and behind that anything may happen that goes well.
pub record HasTurn (settings : Settings) (tt : Timetable) (i : ℕ) (track : Track)
    (finished : ℕ → ℕ) (old new : Robot) : Type 0 where
  pub history : List RobotEvent
  pub come : HasComeTo settings tt i track history old
  pub ready : MayBegin old
  pub earlier : List RobotEvent
  pub before : Robot
  pub led_before : IsLedWell settings tt i track old earlier before
  pub event : RobotEvent
  pub between : Robot
  pub comes : LeadsRobot settings tt i track before event between
  pub is_turn : IsTurnOf tt i track finished old before event
  pub command : Option Command
  pub after : Robot
  pub works : LeadsRobot settings tt i track between (goes_on command) after
  pub well : is_alarm command ≡ false
  pub later : List RobotEvent
  pub led_after : IsLedWell settings tt i track after later new

-- A round: each robot has arrived, or has a turn.
abbrev pub HaveTurns : (ℕ → Settings) → Timetable → (old new : ℕ → Robot) → Type 0
HaveTurns settings tt old new =
    (i : ℕ) (track : Track) → track_of tt i ≡ Some track
    → ((old i).state.records ≡ 2 * moves track)
    ⊎ HasTurn (settings i) tt i track (λ k. finished_moves (old k).state) (old i) (new i)
