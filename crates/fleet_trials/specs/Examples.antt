-- Small fleets, and what has to come out.
use Rattle.std.specs.Prelude.{◌≡◌, ℕ, ◌==◌, true, false, if◌then◌else◌, [], ◌∷◌, Ok, Err}
use Rattle.std.specs.List.{AllByRecursion}
use Rattle.grid.specs.declared.cell.Cell.{Cell}
use Rattle.model.specs.declared.held.Held.TheVariants.{At}
use Rattle.model.specs.Examples.{row, follower}
use Rattle.model.specs.declared.msg_fault.MsgFault.TheVariants.{BadLength}
use Rattle.model.specs.Messages.{Message as message, message_bytes, told_bytes}
use Rattle.model.specs.Timetable.{Track, Timetable}
use Rattle.agent.specs.States.{State}
use Rattle.agent.specs.declared.refusal.HearFault.TheVariants.{Message}
use Rattle.agent.specs.declared.refusal.Refusal.TheVariants.{AtEnd, Waits}
use Rattle.fleet.specs.Ahead.{most_free}
use Rattle.fleet.specs.Deeds.{Deed, opens, starts, says, tells, hears, looks, stops}
use Rattle.fleet.specs.Deeds.{ends_finishing}
use Rattle.fleet.specs.Fleets.{Logged, Log, deeds_of}
use Rattle.fleet.specs.OwnPlans.{DoneBy, Doings, SharesMoves}
use Rattle.fleet.specs.Rounds.{is_calm, AreLedFrom, HaveAllArrived}

abbrev in_cell : ℕ → ℕ → Cell
in_cell x y = record { x = x; y = y }

abbrev did : ℕ → Deed → Logged
did i deed = record { agent = i; deed = deed }

-- what the follower knows at last
abbrev pub told_at_last : message
told_at_last = record { sender = 1; entries = record { agent = 0; done = 1 } ∷ [] }

-- The leader of two that stand in a row moves on, and its process ends while it stores that it has
-- arrived, which the next one finds on the tape and says. The follower, which had to wait, refuses
-- some byte that comes from nobody, hears the leader, moves too, and tells all that it knows by
-- version 2. The newest first.
abbrev pub led : Log
led =
    did 1 (tells (Ok (told_bytes 7 told_at_last)))
    ∷ did 1 (starts (Ok (in_cell 1 0)))
    ∷ did 1 (hears (message_bytes 7 0 1) (Ok (0, 1)))
    ∷ did 1 (hears (0 ∷ []) (Err (Message BadLength)))
    ∷ did 1 (starts (Err (Waits 0 1)))
    ∷ did 1 (opens (At (in_cell 0 0)) 0)
    ∷ did 0 (says (Ok (message_bytes 7 0 1)))
    ∷ did 0 (opens (At (in_cell 2 0)) 1)
    ∷ did 0 ends_finishing
    ∷ did 0 (starts (Ok (in_cell 2 0)))
    ∷ did 0 (opens (At (in_cell 1 0)) 0)
    ∷ []

abbrev pub led_states : ℕ → State
led_states i =
    if i == 0 then record { records = 2; heard = []; broken = false }
    else record { records = 1; heard = record { agent = 0; done = 1 } ∷ []; broken = false }

-- the leader has arrived, and nobody has heard it
abbrev pub unheard_leader : ℕ → State
unheard_leader i =
    if i == 0 then record { records = 2; heard = []; broken = false }
    else record { records = 0; heard = []; broken = false }

-- what would be a round if the follower had heard of the leader
abbrev pub unheard_round : Log
unheard_round = did 1 (starts (Err (Waits 0 1))) ∷ []

-- nothing is stored in it, though the follower has not arrived
abbrev pub UnheardRound : Type 0
UnheardRound =
    AreLedFrom row unheard_leader unheard_round unheard_leader
    × ((i : ℕ) → AllByRecursion (λ deed. is_calm deed ≡ true) (deeds_of unheard_round i))
    × (deeds_of unheard_round 1 ≡ starts (Err (Waits 0 1)) ∷ [])
    × (HaveAllArrived row unheard_leader → ⊥)

-- ---- plans of their own

-- what is left of the plan of the two where it is cut at once
abbrev pub bare_row : Timetable
bare_row =
    record {
      number = 7;
      tracks = record { start = in_cell 1 0; later = [] } ∷ record {
        start = in_cell 0 0;
        later = [];
      } ∷ [];
    }

abbrev did_by : Timetable → ℕ → Deed → DoneBy
did_by table i deed = record { agent = i; deed = deed; by = table }

-- the follower still runs by the cut, where nobody has a move, while the leader begins to move by
-- the whole plan
abbrev pub extended : Doings
extended =
    did_by row 0 (starts (Ok (in_cell 2 0))) ∷ did_by row 0 (opens (At (in_cell 1 0)) 0) ∷ did_by
    bare_row 1 (starts (Err AtEnd)) ∷ did_by bare_row 1 (opens (At (in_cell 0 0)) 0) ∷ []

abbrev pub extended_states : ℕ → State
extended_states i = record { records = if i == 0 then 1 else 0; heard = []; broken = false }

-- the leader turns off to the south
abbrev pub turned_off : Track
turned_off = record { start = in_cell 1 0; later = in_cell 1 1 ∷ [] }

abbrev pub other_row : Timetable
other_row = record { number = 7; tracks = turned_off ∷ follower ∷ [] }

-- whoever moves so doesn't drive with those who go on by the plan of the two; who has begun nothing
-- may
abbrev pub OtherWays : Type 0
OtherWays =
    (SharesMoves row other_row 0 turned_off 1 → ⊥) × SharesMoves row other_row 0 turned_off 0

-- ---- drives that go ahead

-- what was told to be free before a drive stopped counts no longer, and what was told since does
abbrev pub StoppedDrive : Type 0
StoppedDrive =
    (most_free (looks 0 5 2 ∷ stops ∷ []) ≡ 0) × (most_free (stops ∷ looks 1 5 2 ∷ []) ≡ 3)
    × (most_free (looks 1 5 3 ∷ looks 1 5 0 ∷ []) ≡ 4)
