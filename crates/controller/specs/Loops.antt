-- What happens to a robot from the moment in which its tape was opened, one thing after another.
use Rattle.std.specs.Prelude.{◌≡◌, ℕ, ◌+◌, ◌*◌, ◌<◌, ◌≤◌, ◌⊎◌, true, false, List, [], ◌∷◌}
use Rattle.std.specs.Prelude.{Option, None, Some, Result, slice_get}
use Rattle.model.specs.Timetable.{Track, Timetable, moves, path}
use Rattle.agent.specs.declared.refusal.HearFault.{HearFault}
use Rattle.agent.specs.States.{finished_moves, begun_moves, is_on_the_way}
use Rattle.fleet.specs.Ahead.{told_free}
use Rattle.fleet.specs.Deeds.{Deed, hears as hears_so}
use Rattle.fleet.specs.Fleets.{Log, bytes_of, IsHonest}
use Rattle.fleet.specs.OwnPlans.{Doings}
use Rattle.controller.specs.declared.command.Command.{Command}
use Rattle.controller.specs.declared.command.Command.TheVariants.{Go}
use Rattle.controller.specs.declared.controller.Settings.{Settings}
use Rattle.carrier_text.specs.declared.report.Report.{Report}
use Rattle.controller.specs.Controls.{opened, stopped}
use Rattle.controller.specs.declared.command.Way.{Way}
use Rattle.controller.specs.Places.{FitsAt, IsInPlace, IsFurthestNew, IsNew}
use Rattle.controller.specs.Robots.{Robot, with_control}
use Rattle.controller.specs.Steps.{TakesReport, TakesMessage, TakesTick, WorksOn, message_of_command}
use Rattle.controller.specs.Steps.{told_of_hearing}

-- what came from outside or what the loop did of itself, each with what it answered
pub data RobotEvent : Type 0 where
  reports : Report → RobotEvent
  hears : List ℕ → Option Command → RobotEvent
  ticks : Option Command → RobotEvent
  stops : RobotEvent
  goes_on : Option Command → RobotEvent

-- it leads the robot from one state to another
abbrev pub LeadsRobot : Settings → Timetable → ℕ → Track → Robot → RobotEvent → Robot → Type 0
LeadsRobot settings tt i track old (reports report) new = TakesReport track report old new
LeadsRobot settings tt i track old (hears bytes command) new =
    TakesMessage tt i track bytes old command new
LeadsRobot settings tt i track old (ticks command) new = TakesTick old command new
LeadsRobot settings tt i track old stops new = new ≡ with_control old (stopped old.control)
LeadsRobot settings tt i track old (goes_on command) new =
    WorksOn settings tt i track old command new

-- these do, one after another; the newest stands first
abbrev pub HasLedRobot : Settings → Timetable → ℕ → Track → Robot → List RobotEvent → Robot → Type 0
HasLedRobot settings tt i track first [] now = now ≡ first
HasLedRobot settings tt i track first (happening ∷ earlier) now =
    (before : Robot) × HasLedRobot settings tt i track first earlier before
    × LeadsRobot settings tt i track before happening now

-- its tape was just opened, and nothing is known of its drive
pub record IsLoopOpened (settings : Settings) (track : Track) (r : Robot) : Type 0 where
  pub listens : ℕ
  pub far : ℕ
  pub is_far : IsFurthestNew (path track) (finished_moves r.state)
      (begun_moves r.state + settings.ahead) far
  pub control : r.control ≡ opened far listens

-- all this led it from an opened tape to here
abbrev pub HasComeTo : Settings → Timetable → ℕ → Track → List RobotEvent → Robot → Type 0
HasComeTo settings tt i track happened now =
    (first : Robot) × (first.state.records ≤ 2 * moves track)
    × IsLoopOpened settings track first
    × HasLedRobot settings tt i track first happened now

-- ---- the drive

-- what it reported last
abbrev pub last_report : List RobotEvent → Option Report
last_report [] = None
last_report (reports report ∷ earlier) = Some report
last_report (_ ∷ earlier) = last_report earlier

-- What the loop knows of its drive: if it knows in which place the drive is, the last report fits
-- it, and no other place up to the furthest in which the drive may be.
pub record KnowsDrive (track : Track) (happened : List RobotEvent) (r : Robot) : Type 0 where
  pub fits : (place : ℕ) → r.control.drive ≡ Some place → (report : Report)
      × (last_report happened ≡ Some report)
      × FitsAt (path track) (finished_moves r.state) r.control.far report place
  pub alone : (report : Report) (one other : ℕ)
      → FitsAt (path track) (finished_moves r.state) r.control.far report one
      → FitsAt (path track) (finished_moves r.state) r.control.far report other → one ≡ other

-- it was reported last that the drive is in this place
abbrev pub IsReportedAt : Track → List RobotEvent → ℕ → Type 0
IsReportedAt track happened place =
    (report : Report) × (last_report happened ≡ Some report)
    × IsInPlace (path track) report place

-- ---- what the loop does of itself, behind what happened

-- its tape is its own, and each record could be stored
pub record MayDrive (r : Robot) : Type 0 where
  pub unbroken : r.state.broken ≡ false
  pub own_tape : r.control.is_stale ≡ false

-- The drive is let go along the path, from the tape's place up to the end of the last move that the
-- tape has as begun, and to places that are free behind that. It is in the first of them, or
-- further on. Each of them has another cell. The loop has listened, and keeps how far it let the
-- drive go. If it was stopped, it names no free place.
pub record IsDueToGo (track : Track) (happened : List RobotEvent) (before : Robot) (way : Way)
    (after : Robot) : Type 0 where
  pub may_drive : MayDrive before
  pub place : ℕ
  pub reported : IsReportedAt track happened place
  pub not_before : finished_moves before.state ≤ place
  pub listened : before.control.listens ≡ 0
  pub first : way.first ≡ finished_moves before.state
  pub stored : begun_moves before.state ≤ way.last
  pub stopped : before.control.is_stopped ≡ true → way.last ≡ begun_moves before.state
  pub new_cells : (k : ℕ) → way.first < k → k ≤ way.last → IsNew (path track) way.first k
  pub far : way.last ≤ after.control.far

-- a move was begun, and the drive has come to its end, or further
pub record IsDueToFinish (track : Track) (happened : List RobotEvent) (r : Robot) : Type 0 where
  pub may_drive : MayDrive r
  pub on_the_way : is_on_the_way r.state ≡ true
  pub place : ℕ
  pub reported : IsReportedAt track happened place
  pub behind : finished_moves r.state < place

-- None was begun, and the drive has begun one; or it is where one begins, and the loop has listened
-- and wasn't stopped.
pub record IsDueToStart (track : Track) (happened : List RobotEvent) (r : Robot) : Type 0 where
  pub may_drive : MayDrive r
  pub stands : is_on_the_way r.state ≡ false
  pub place : ℕ
  pub reported : IsReportedAt track happened place
  pub not_before : finished_moves r.state ≤ place
  pub allowed : (finished_moves r.state < place)
      ⊎ ((r.control.listens ≡ 0) × (r.control.is_stopped ≡ false))

-- ---- the agent

-- what the carrier is given to send
abbrev pub one_or_none : Option (List ℕ) → List (List ℕ)
one_or_none None = []
one_or_none (Some bytes) = bytes ∷ []

abbrev pub sent_by : Option Command → List (List ℕ)
sent_by None = []
sent_by (Some command) = one_or_none (message_of_command command)

-- up to which place the drive is let go on
abbrev pub let_by : Option Command → ℕ
let_by (Some (Go way)) = way.last
let_by _ = 0

-- The agent does this deed while the loop does something of itself: what it says is sent, it was
-- told of the way that the drive is let go, and it hears nothing.
pub record IsOwnDeed (command : Option Command) (deed : Deed) : Type 0 where
  pub says : bytes_of deed ≡ sent_by command
  pub looks : let_by command ≤ told_free deed
  pub hears_none : (said : List (List ℕ)) → IsHonest said deed

-- The agent does these deeds: one at the most. What it hears is what came from outside.
abbrev pub AreDeeds : RobotEvent → List Deed → Type 0
AreDeeds (hears bytes command) [] = Unit {0}
AreDeeds (hears bytes command) (deed ∷ []) =
    (answer : Result (ℕ × ℕ) HearFault) × (deed ≡ hears_so bytes answer)
    × (command ≡ told_of_hearing answer)
AreDeeds (goes_on command) [] = (sent_by command ≡ []) × (let_by command ≡ 0)
AreDeeds (goes_on command) (deed ∷ []) = IsOwnDeed command deed
AreDeeds happening deeds = deeds ≡ []

-- A message that the agent heard had been said before. What was dropped may come from anywhere.
abbrev pub WasSaidBefore : List (List ℕ) → RobotEvent → Type 0
WasSaidBefore said (hears bytes None) = (m : ℕ) × (slice_get said m ≡ Some bytes)
WasSaidBefore said happening = Unit {0}

-- the messages that are sent
abbrev pub sent_in : RobotEvent → List (List ℕ)
sent_in (goes_on command) = sent_by command
sent_in happening = []

-- ---- the fleet

-- what an agent did, behind what its fleet had done; the newest first
abbrev pub logged_behind : ℕ → List Deed → Log → Log
logged_behind i [] log = log
logged_behind i (deed ∷ deeds) log =
    logged_behind i deeds (record { agent = i; deed = deed } ∷ log)

abbrev pub done_behind : Timetable → ℕ → List Deed → Doings → Doings
done_behind by i [] doings = doings
done_behind by i (deed ∷ deeds) doings =
    done_behind by i deeds (record { agent = i; deed = deed; by = by } ∷ doings)
