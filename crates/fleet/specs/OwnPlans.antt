-- What a fleet did whose processes run by plans of their own, while the fleet goes over to a last
-- one.
use Rattle.std.specs.Prelude.{◌≡◌, ◌≢◌, ℕ, ◌+◌, ◌≤◌, ◌⊎◌, zero, suc}
use Rattle.std.specs.Prelude.{true, List, [], ◌∷◌, ◌++◌, map, Some, Err}
use Rattle.model.specs.Plan.{Plan, IsTimetableOf}
use Rattle.model.specs.Timetable.{Track, Timetable, moves, step_of, track_of}
use Rattle.agent.specs.declared.refusal.HearFault.TheVariants as hear_fault
use Rattle.agent.specs.declared.refusal.Refusal.TheVariants.{Broken, AtEnd, Waits, StoreFailed}
use Rattle.agent.specs.declared.refusal.TellFault.TheVariants as tell_fault
use Rattle.agent.specs.States.{State, begun_moves}
use Rattle.continuing.specs.Continuing.{AgreesUpTo}
use Rattle.fleet.specs.Deeds.{Deed, starts, finishes, says, tells}
use Rattle.fleet.specs.Deeds.{hears, looks, ends_starting, Does}
use Rattle.fleet.specs.Fleets.{Logged, Log, fresh, spoken, IsHonest}
use Rattle.fleet.specs.Unsaid.{IsUnsaid}

-- a deed, whose it is, and the timetable by which its process ran
pub record DoneBy : Type 0 where
  pub agent : ℕ
  pub deed : Deed
  pub by : Timetable

-- the newest first
abbrev pub Doings : Type 0
Doings = List DoneBy

-- the same without the timetables
abbrev pub logged : DoneBy → Logged
logged now = record { agent = now.agent; deed = now.deed }

abbrev pub log_of : Doings → Log
log_of doings = map logged doings

-- A deed led its agent on, and nothing changed of the others; the timetable of its process fits
-- whose it is, its track, and how many moves it has begun then. What is heard was said before.
pub record IsLedOn (Fits : Timetable → ℕ → Track → ℕ → Type 0) (said : List (List ℕ)) (now : DoneBy)
    (old new : ℕ → State) : Type 0 where
  pub track : Track
  pub is_track : track_of now.by now.agent ≡ Some track
  pub fits : Fits now.by now.agent track (begun_moves (new now.agent))
  pub honest : IsHonest said now.deed
  pub does : Does now.by now.agent track (old now.agent) now.deed (new now.agent)
  pub others : (k : ℕ) → k ≢ now.agent → new k ≡ old k

-- these deeds, the newest first, led a fleet on from where it stood when these messages had been
-- said
abbrev pub AreLedOn : (Timetable → ℕ → Track → ℕ → Type 0) → List (List ℕ) → (ℕ → State) → Doings
    → (ℕ → State) → Type 0
AreLedOn Fits said from [] states = (i : ℕ) → states i ≡ from i
AreLedOn Fits said from (now ∷ doings) states =
    (mid : ℕ → State) × AreLedOn Fits said from doings mid
    × IsLedOn Fits (said ++ spoken (log_of doings)) now mid states

-- A fleet did this, over tapes that were empty at first, and its agents are in these states.
abbrev pub IsFleetBy : (Timetable → ℕ → Track → ℕ → Type 0) → Doings → (ℕ → State) → Type 0
IsFleetBy Fits doings states = AreLedOn Fits [] (λ i. fresh) doings states

-- ---- which timetables fit

-- the time at which the last of a track's first moves, so many, has ended
abbrev pub end_of_moves : Track → ℕ → ℕ
end_of_moves track zero = 0
end_of_moves track (suc k) = step_of track k + 1

-- There are so many moves, and up to the end of the last of them everybody is, by the timetable,
-- where the last one has them.
pub record SharesMoves (last by : Timetable) (i : ℕ) (track : Track) (count : ℕ) : Type 0 where
  pub has : count ≤ moves track
  pub agrees : AgreesUpTo (end_of_moves track count) by last

-- the plan is one of these
abbrev pub IsPlanAmong : Plan → Plan → List Plan → Type 0
IsPlanAmong p plan [] = p ≡ plan
IsPlanAmong p plan (next ∷ plans) = (p ≡ plan) ⊎ IsPlanAmong p next plans

-- the timetable is that of one of the plans, which has so many moves
pub record IsOfChain (plan : Plan) (plans : List Plan) (by : Timetable) (i : ℕ) (track : Track)
    (count : ℕ) : Type 0 where
  pub has : count ≤ moves track
  pub own : Plan
  pub among : IsPlanAmong own plan plans
  pub is_its : IsTimetableOf own by

-- ---- what is left of it by the last plan

-- Refusals that hang on the end of a plan, and a start whose write failed, with what the agent
-- refuses until it is opened again; and what was refused and nobody had said. By another plan they
-- may be none; they moved nobody. How far the way is free hangs on the plan too.
abbrev pub MayBeLeftOut : List (List ℕ) → Deed → Type 0
MayBeLeftOut before (starts (Err AtEnd)) = Unit {0}
MayBeLeftOut before (starts (Err (Waits agent count))) = Unit {0}
MayBeLeftOut before (starts (Err StoreFailed)) = Unit {0}
MayBeLeftOut before (starts (Err Broken)) = Unit {0}
MayBeLeftOut before (finishes (Err Broken)) = Unit {0}
MayBeLeftOut before (says (Err refusal)) = Unit {0}
MayBeLeftOut before (tells (Err tell_fault.Broken)) = Unit {0}
MayBeLeftOut before (hears bytes (Err hear_fault.TooMany)) = Unit {0}
MayBeLeftOut before (hears bytes (Err hear_fault.Broken)) = Unit {0}
MayBeLeftOut before (looks begun most count) = Unit {0}
MayBeLeftOut before ends_starting = Unit {0}
MayBeLeftOut before deed = IsUnsaid before deed

-- the second log is the first without some of these
abbrev pub LeavesOut : Log → Log → Type 0
LeavesOut [] kept = kept ≡ []
LeavesOut (now ∷ log) kept =
    (MayBeLeftOut (spoken log) now.deed × LeavesOut log kept)
    ⊎ ((rest : Log) × (kept ≡ now ∷ rest) × LeavesOut log rest)

-- the state is the other one, or that one with a write that failed
abbrev pub StandsAs : State → State → Type 0
StandsAs s other = (s ≡ other) ⊎ (s ≡ record other { broken = true })
