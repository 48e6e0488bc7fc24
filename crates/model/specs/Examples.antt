-- Small plans and runs, and what the definitions say of them.
use Rattle.std.specs.Prelude.{◌≡◌, ℕ, ◌*◌, true, false, List, [], ◌∷◌, Option, None, Some}
use Rattle.grid.specs.declared.cell.Cell.{Cell}
use Rattle.model.specs.declared.event.Event.{Event}
use Rattle.model.specs.declared.event.Event.TheVariants.{Start, Finish, Say, Deliver, Restart, Tear}
use Rattle.model.specs.declared.why.Why.TheVariants.{NoSuchAgent, NoSuchMessage, BadTear}
use Rattle.model.specs.declared.why.Why.TheVariants.{Broken, Waits, StoreFailed}
use Rattle.grid.specs.declared.terrain.Terrain.TheVariants.{Floor}
use Rattle.grid.specs.Map.{Grid}
use Rattle.model.specs.declared.act.Act.{Act}
use Rattle.model.specs.declared.act.Act.TheVariants.{N, E, S, W, Wait}
use Rattle.model.specs.declared.plan_fault.PlanFault.TheVariants.{BadStart, BadMove, Vertex, Swap}
use Rattle.model.specs.declared.held.Held.TheVariants.{At, Between}
use Rattle.model.specs.declared.reply.Reply.TheVariants as reply
use Rattle.model.specs.Timetable.{Track, Timetable, cell_at, moves_before, moves}
use Rattle.model.specs.Timetable.{path, step_of, IsConflictFree, IsSwapFree}
use Rattle.model.specs.Plan.{Course, Plan, HasPlanFault, IsValid, key_of}
use Rattle.model.specs.Plan.{IsBefore, IsLeastFault, longest_of, IsTrackOf, IsTimetableOf}
use Rattle.model.specs.Costs.{RestsFrom, IsCost, cost, EndsAtRest, AllEndAtRest, sum_of_costs}
use Rattle.model.specs.Costs.{makespan, Task, Fits, FitsFirst, SolvesAt}
use Rattle.model.specs.Dependency.{Need, Stand, stander, last_stand, moves_to, need, IsLastStand}
use Rattle.model.specs.Dependency.{IsNeed, IsVisit, HasEnded, MovesInto, following, IsRotation}
use Rattle.model.specs.declared.entry.Entry.{Entry}
use Rattle.model.specs.declared.version.Version.{Version}
use Rattle.model.specs.declared.version.Version.TheVariants.{One, Two}
use Rattle.model.specs.Messages.{told, own_message, whole_message, message_bytes}
use Rattle.model.specs.Messages.{IsMessage, AreRising, IsTold}
use Rattle.model.specs.History.{Answer, moving, arrived, said, heard, at}
use Rattle.model.specs.History.{between, armed, refused, History, armed_of, is_broken}
use Rattle.model.specs.History.{kept_starts, done, is_moving, messages, known}
use Rattle.model.specs.Replies.{answer_of}
use Rattle.model.specs.Rules.{answer, IsRun}
use Rattle.model.specs.Safety.{held, Holds, IsBetween, walk, IsBeginningOf, IsSafe}
use Rattle.model.specs.Completion.{history_after, IsCompletion, IsBlocked}

abbrev pub cell : ℕ → ℕ → Cell
cell x y = record { x = x; y = y }

-- the answers to events, one after another, after what has happened
abbrev answers_after : Version → Timetable → History → List Event → List Answer
answers_after version tt h [] = []
answers_after version tt h (e ∷ events) =
    answer version tt h e ∷ answers_after version tt
    (record { event = e; answer = answer version tt h e } ∷ h) events

abbrev answers : Version → Timetable → List Event → List Answer
answers version tt events = answers_after version tt [] events

-- ---- two agents in a row of three cells: the first goes from the middle to the east and stays,
-- the second follows into the middle

abbrev pub leader : Track
leader = record { start = cell 1 0; later = cell 2 0 ∷ [] }

abbrev pub follower : Track
follower = record { start = cell 0 0; later = cell 1 0 ∷ [] }

abbrev pub row : Timetable
row = record { number = 7; tracks = leader ∷ follower ∷ [] }

-- the message of an agent of plan 7 after so many moves
abbrev hello : ℕ → ℕ → List ℕ
hello agent done = 0x46 ∷ 1 ∷ 0 ∷ agent ∷ 0 ∷ 0 ∷ 0 ∷ 7 ∷ 0 ∷ 0 ∷ 0 ∷ done ∷ []

-- the message of version 2 of an agent of plan 7, with the bytes of one entry
abbrev whole_hello : ℕ → List ℕ → List ℕ
whole_hello agent entry = 0x46 ∷ 2 ∷ 0 ∷ agent ∷ 0 ∷ 0 ∷ 0 ∷ 7 ∷ 0 ∷ 1 ∷ entry

-- ---- one agent that goes east and back, and one that stands at the west

abbrev walker : Track
walker = record { start = cell 1 0; later = cell 2 0 ∷ cell 1 0 ∷ [] }

abbrev back : Timetable
back = record { number = 7; tracks = walker ∷ record { start = cell 0 0; later = [] } ∷ [] }

-- ---- one agent leaves a corner of a square, one stands, and one comes into that corner

abbrev corner : Timetable
corner = record {
  number = 7;
  tracks =
      record { start = cell 1 0; later = cell 1 1 ∷ [] } ∷ record { start = cell 0 1; later = [] }
      ∷ record { start = cell 0 0; later = cell 1 0 ∷ [] } ∷ [];
}

-- ---- four agents that turn round in a square

abbrev pub turning : Cell → Cell → Track
turning from to = record { start = from; later = to ∷ [] }

abbrev pub square : Timetable
square = record {
  number = 7;
  tracks =
      turning (cell 0 0) (cell 1 0) ∷ turning (cell 1 0) (cell 1 1) ∷ turning (cell 1 1)
      (cell 0 1) ∷ turning (cell 0 1) (cell 0 0) ∷ [];
}

-- ---- plans on a row of three passable cells, and what is wrong with them

abbrev pub ground_of_row : Grid
ground_of_row = record { width = 3; height = 1; terrain = Floor ∷ Floor ∷ Floor ∷ [] }

abbrev pub course : ℕ → List Act → Course
course x acts = record { start = cell x 0; acts = acts }

abbrev pub plan : List Course → Plan
plan courses = record { number = 7; courses = courses }

abbrev pub swapping : Plan
swapping = plan (course 0 (E ∷ []) ∷ course 1 (W ∷ []) ∷ [])

-- the first stays, and the second comes to it when the first has no act left
abbrev pub bumping : Plan
bumping = plan (course 0 [] ∷ course 2 (W ∷ W ∷ []) ∷ [])

abbrev pub crowding : Plan
crowding = plan (course 0 (E ∷ []) ∷ course 1 (W ∷ []) ∷ course 2 (W ∷ []) ∷ [])

abbrev pub leaving : Plan
leaving = plan (course 0 (W ∷ []) ∷ [])

abbrev pub outside : Plan
outside = plan (course 3 [] ∷ [])

-- the first waits at its end, and the second begins at once
abbrev pub following_plan : Plan
following_plan = plan (course 1 (E ∷ Wait ∷ []) ∷ course 0 (E ∷ []) ∷ [])

abbrev pub ground_of_square : Grid
ground_of_square = record { width = 2; height = 2; terrain = Floor ∷ Floor ∷ Floor ∷ Floor ∷ [] }

abbrev pub turning_plan : Plan
turning_plan =
    plan (record { start = cell 0 0; acts = E ∷ [] } ∷ record { start = cell 1 0; acts = S ∷ [] }
    ∷ record { start = cell 1 1; acts = W ∷ [] }
    ∷ record { start = cell 0 1; acts = N ∷ [] } ∷ [])

abbrev pub Faults : Type 0
Faults =
    -- each enters the cell that the other leaves, and they are never in one
    HasPlanFault ground_of_row swapping (Swap 0 1 0)
    × ((t : ℕ) (c : Cell) → HasPlanFault ground_of_row swapping (Vertex 0 1 t c) → ⊥)
    -- also past the end of the shorter course
    × HasPlanFault ground_of_row bumping (Vertex 0 1 2 (cell 0 0))
    -- a swap and a vertex conflict of one time: the vertex conflict is before the swap, whatever
    -- agents they are of
    × HasPlanFault ground_of_row crowding (Swap 0 1 0)
    × HasPlanFault ground_of_row crowding (Vertex 0 2 1 (cell 1 0))
    × IsBefore (key_of (Vertex 0 2 1 (cell 1 0))) (key_of (Swap 0 1 0))
    × HasPlanFault ground_of_row leaving (BadMove 0 0)
    × HasPlanFault ground_of_row outside (BadStart 0)
    -- an agent may enter the cell that another leaves
    × IsValid ground_of_row following_plan × IsTimetableOf following_plan row
    -- and four may turn round
    × IsValid ground_of_square turning_plan × IsTimetableOf turning_plan square

-- of two faults of one time, and one plan, the vertex conflict is the least, and no other is; its
-- time is no later than the last act's end
abbrev pub LeastFaults : Type 0
LeastFaults =
    IsLeastFault ground_of_row crowding (Vertex 0 2 1 (cell 1 0))
    × (IsLeastFault ground_of_row crowding (Swap 0 1 0) → ⊥)
    × (longest_of crowding.courses ≡ 1)

-- the leader's track with the wait at its end
abbrev pub resting_leader : Track
resting_leader = record { start = cell 1 0; later = cell 2 0 ∷ cell 2 0 ∷ [] }

-- a follower that waits first
abbrev pub late_follower : Track
late_follower = record { start = cell 0 0; later = cell 0 0 ∷ cell 1 0 ∷ [] }

abbrev pub Paths : Type 0
Paths =
    -- a wait is no cell of a path and no move, but takes a step
    (path late_follower ≡ cell 0 0 ∷ cell 1 0 ∷ []) × (step_of late_follower 0 ≡ 1)
    × (moves_before late_follower 1 ≡ 0)
    × (moves_before late_follower 2 ≡ 1) × (cell_at late_follower 1 ≡ cell 0 0)
    -- it stays in its last cell for ever
    × (cell_at late_follower 9 ≡ cell 1 0) × RestsFrom late_follower 2 × IsCost late_follower 2
    × (cost late_follower ≡ 2)
    -- where it comes to rest a track ends
    × EndsAtRest late_follower × (EndsAtRest resting_leader → ⊥) × AllEndAtRest row

-- two that exchange cells
abbrev pub exchange : Timetable
exchange =
    record {
      number = 7;
      tracks = turning (cell 0 0) (cell 1 0) ∷ turning (cell 1 0)
          (cell 0 0) ∷ [];
    }

abbrev pub Timetables : Type 0
Timetables =
    -- a wait at the end is left out, and one before a move isn't
    IsTrackOf (course 1 (E ∷ Wait ∷ [])) leader
    × (IsTrackOf (course 1 (E ∷ Wait ∷ [])) resting_leader → ⊥)
    × IsTrackOf (course 0 (Wait ∷ E ∷ [])) late_follower
    -- two that exchange cells are never in one
    × IsTimetableOf swapping exchange × IsConflictFree exchange × (IsSwapFree exchange → ⊥)

-- four agents that turn round are a rotation, and one that follows another is none
abbrev pub Rotations : Type 0
Rotations =
    IsRotation square 0 (0 ∷ 1 ∷ 2 ∷ 3 ∷ [])
    × ((step : ℕ) (agents : List ℕ) → IsRotation row step agents → ⊥)

-- ---- what is said of timetables and runs

abbrev nobody : Timetable
nobody = record { number = 7; tracks = [] }

abbrev pub Costs : Type 0
Costs =
    (sum_of_costs row ≡ 2) × (makespan row ≡ 1) × (sum_of_costs square ≡ 4) × (makespan square ≡ 1)
    × (sum_of_costs back ≡ 2) × (makespan back ≡ 2) × (sum_of_costs nobody ≡ 0)
    × (makespan nobody ≡ 0)

abbrev needs_nobody : Option Need
needs_nobody = None

abbrev needs : ℕ → ℕ → Option Need
needs agent count = Some (record { agent = agent; count = count })

abbrev no_agent : Option ℕ
no_agent = None

abbrev no_stand : Option Stand
no_stand = None

abbrev stands_there : ℕ → ℕ → Option Stand
stands_there agent time = Some (record { agent = agent; time = time })

abbrev task : Cell → Cell → Task
task start goal = record { width = 3; height = 1; start = start; goal = goal }

abbrev pub first_task : Task
first_task = task (cell 1 0) (cell 2 0)

abbrev pub second_task : Task
second_task = task (cell 0 0) (cell 1 0)

-- nobody in the row solves it
abbrev third_task : Task
third_task = task (cell 2 0) (cell 2 0)

-- the leader and the follower solve their tasks, not each other's, and not one alone
abbrev pub Tasks : Type 0
Tasks =
    Fits 3 1 row.tracks (first_task ∷ second_task ∷ [])
    × (Fits 3 1 row.tracks (second_task ∷ first_task ∷ []) → ⊥)
    × (Fits 3 1 row.tracks (first_task ∷ []) → ⊥)
    × (Fits 3 2 row.tracks (first_task ∷ second_task ∷ []) → ⊥)
    -- of more tasks they solve the first two, and are neither one agent nor three
    × FitsFirst 3 1 row.tracks (first_task ∷ second_task ∷ third_task ∷ []) 2
    × (FitsFirst 3 1 row.tracks (first_task ∷ second_task ∷ third_task ∷ []) 1 → ⊥)
    × (FitsFirst 3 1 row.tracks (first_task ∷ second_task ∷ third_task ∷ []) 3 → ⊥)
    -- one task is not two
    × (FitsFirst 3 1 row.tracks (first_task ∷ []) 2 → ⊥)
    × SolvesAt 3 1 row.tracks (first_task ∷ second_task ∷ []) 1
    × (SolvesAt 3 1 row.tracks (second_task ∷ first_task ∷ []) 1 → ⊥)

-- who comes into the middle of the row, the leader at the start and the follower at time 1
abbrev pub Visits : Type 0
Visits =
    IsVisit row 0 0 0 (cell 1 0) × IsVisit row 1 1 1 (cell 1 0) × IsVisit row 1 0 0 (cell 0 0)
    × IsVisit row 0 1 1 (cell 2 0)

-- who was last in a cell of the row: the leader in the middle, then the follower; nobody in the
-- east before the leader
abbrev pub LastStands : Type 0
LastStands =
    (stander row 0 (cell 1 0) ≡ Some 0) × (stander row 1 (cell 1 0) ≡ Some 1)
    × (stander row 1 (cell 0 0) ≡ no_agent)
    × (last_stand row (cell 1 0) 0 ≡ stands_there 0 0)
    × (last_stand row (cell 1 0) 3 ≡ stands_there 1 3)
    × (last_stand row (cell 0 0) 3 ≡ stands_there 1 0)
    × (last_stand row (cell 2 0) 0 ≡ no_stand) × (moves_to row 0 1 ≡ 1)
    × IsLastStand row (cell 1 0) 0 (stands_there 0 0) × IsLastStand row (cell 2 0) 0 no_stand
    -- so the follower's move needs the leader's
    × IsNeed row 1 follower 0 (needs 0 1)
    -- whose visit of the middle has ended when the follower's begins
    × HasEnded row 0 0 1 1 1 (cell 1 0) × MovesInto row 0 1 0
    -- the last of a rotation moves behind the first
    × (following (0 ∷ 1 ∷ 2 ∷ []) 1 ≡ Some 2) × (following (0 ∷ 1 ∷ 2 ∷ []) 2 ≡ Some 0)

abbrev pub Dependencies : Type 0
Dependencies =
    (moves leader ≡ 1) × (moves follower ≡ 1) × (moves walker ≡ 2)
    × (need row 0 leader 0 ≡ needs_nobody) × (need row 1 follower 0 ≡ needs 0 1)
    × (need back 0 walker 0 ≡ needs_nobody) × (need back 0 walker 1 ≡ needs_nobody)
    × (need square 0 (turning (cell 0 0) (cell 1 0)) 0 ≡ needs 1 1)
    × (need square 1 (turning (cell 1 0) (cell 1 1)) 0 ≡ needs 2 1)
    × (need square 2 (turning (cell 1 1) (cell 0 1)) 0 ≡ needs 3 1)
    × (need square 3 (turning (cell 0 1) (cell 0 0)) 0 ≡ needs 0 1)

abbrev pub Runs : Type 0
Runs =
    -- the follower waits until it has heard the leader, and also where the leader has finished and
    -- said nothing
    (answers One row (Start 1 ∷ Start 0 ∷ Finish 0 ∷ Start 1 ∷ Say 0 ∷ Deliver 1 0 ∷ Start
    1 ∷ Restart 1 ∷ Finish 1 ∷ [])
    ≡ refused (Waits 0 1) ∷ moving (cell 2 0) ∷ arrived (cell 2 0) ∷ refused (Waits 0 1) ∷ said 0
    (hello 0 1) ∷ heard 0 1 ∷ moving (cell 1 0)
    ∷ between (cell 0 0) (cell 1 0) 0 ∷ arrived (cell 1 0) ∷ [])
    -- an older message takes nothing back
    × (answers One back
    (Start 0 ∷ Finish 0 ∷ Say 0 ∷ Start 0 ∷ Finish 0 ∷ Say 0 ∷ Deliver 1 1 ∷ Deliver 1
    0 ∷ Deliver 1 0 ∷ [])
    ≡ moving (cell 2 0) ∷ arrived (cell 2 0) ∷ said 0 (hello 0 1) ∷ moving (cell 1 0) ∷ arrived
    (cell 1 0) ∷ said 1 (hello 0 2) ∷ heard 0 2 ∷ heard 0 2
    ∷ heard 0 2 ∷ [])
    -- a record of nine bytes counts as nothing, and one of ten as stored
    × (answers One row (Tear 0 9 ∷ Start 0 ∷ Start 0 ∷ Restart 0 ∷ Start 0 ∷ [])
    ≡ armed ∷ refused StoreFailed ∷ refused Broken ∷ at (cell 1 0) 0 ∷ moving (cell 2 0) ∷ [])
    × (answers One row (Tear 0 10 ∷ Start 0 ∷ Restart 0 ∷ [])
    ≡ armed ∷ refused StoreFailed ∷ between (cell 1 0) (cell 2 0) 0 ∷ [])
    -- what was not stored is not said, and a restart forgets what was heard
    × (answers One row (Start 0 ∷ Tear 0 9 ∷ Finish 0 ∷ Say 0 ∷ Restart 0 ∷ Say 0 ∷ [])
    ≡ moving (cell 2 0) ∷ armed ∷ refused StoreFailed ∷ refused Broken ∷ between (cell 1 0)
    (cell 2 0) 0 ∷ said 0 (hello 0 0) ∷ [])
    × (answers One row (Start 0 ∷ Tear 0 10 ∷ Finish 0 ∷ Say 0 ∷ Restart 0 ∷ Say 0 ∷ [])
    ≡ moving (cell 2 0) ∷ armed ∷ refused StoreFailed ∷ refused Broken ∷ at (cell 2 0) 1 ∷ said 0
    (hello 0 1) ∷ [])
    × (answers One row
    (Start 1 ∷ Start 0 ∷ Finish 0 ∷ Start 1 ∷ Say 0 ∷ Deliver 1 0 ∷ Tear 1 3 ∷ Start 1 ∷ Restart
    1 ∷ Start 1 ∷ [])
    ≡ refused (Waits 0 1) ∷ moving (cell 2 0) ∷ arrived (cell 2 0) ∷ refused (Waits 0 1) ∷ said 0
    (hello 0 1) ∷ heard 0 1
    ∷ armed ∷ refused StoreFailed ∷ at (cell 0 0) 0 ∷ refused (Waits 0 1) ∷ [])
    -- a message tells of its sender alone
    × (answers One corner
    (Start 0 ∷ Finish 0 ∷ Say 0 ∷ Deliver 1 0 ∷ Say 1 ∷ Deliver 2 1 ∷ Start 2 ∷ [])
    ≡ moving (cell 1 1) ∷ arrived (cell 1 1) ∷ said 0 (hello 0 1) ∷ heard 0 1 ∷ said 1
    (hello 1 0) ∷ heard 1 0 ∷ refused (Waits 0 1) ∷ [])
    × (answers One row
    (Start 0 ∷ Finish 0 ∷ Say 0 ∷ Deliver 1 0 ∷ Start 1 ∷ Finish 1 ∷ Say 1 ∷ Restart
    1 ∷ Say 1 ∷ [])
    ≡ moving (cell 2 0) ∷ arrived (cell 2 0) ∷ said 0 (hello 0 1) ∷ heard 0 1 ∷ moving
    (cell 1 0) ∷ arrived (cell 1 0) ∷ said 1 (hello 1 1)
    ∷ at (cell 1 0) 1 ∷ said 2 (hello 1 1) ∷ [])
    -- a message of version 2 tells of others too, so who hears it need not hear them
    × (answers Two corner
    (Start 0 ∷ Finish 0 ∷ Say 0 ∷ Deliver 1 0 ∷ Say 1 ∷ Deliver 2 1 ∷ Start 2 ∷ [])
    ≡ moving (cell 1 1) ∷ arrived (cell 1 1) ∷ said 0
    (whole_hello 0 (0 ∷ 0 ∷ 0 ∷ 0 ∷ 0 ∷ 1 ∷ [])) ∷ heard 0 1
    ∷ said 1 (whole_hello 1 (0 ∷ 0 ∷ 0 ∷ 0 ∷ 0 ∷ 1 ∷ [])) ∷ heard 1 0 ∷ moving (cell 1 0) ∷ [])
    -- what was heard before a restart is not told, and what is on the tape is
    × (answers Two row
    (Start 0 ∷ Finish 0 ∷ Say 0 ∷ Deliver 1 0 ∷ Start 1 ∷ Finish 1 ∷ Say 1 ∷ Restart
    1 ∷ Say 1 ∷ [])
    ≡ moving (cell 2 0) ∷ arrived (cell 2 0) ∷ said 0 (whole_hello 0 (0 ∷ 0 ∷ 0 ∷ 0 ∷ 0 ∷ 1 ∷ []))
    ∷ heard 0 1 ∷ moving (cell 1 0) ∷ arrived (cell 1 0)
    ∷ said 1 (0x46 ∷ 2 ∷ 0 ∷ 1 ∷ 0 ∷ 0 ∷ 0 ∷ 7 ∷ 0 ∷ 2 ∷ 0 ∷ 0 ∷ 0 ∷ 0 ∷ 0 ∷ 1 ∷ 0 ∷ 1 ∷ 0 ∷ 0
    ∷ 0 ∷ 1 ∷ [])
    ∷ at (cell 1 0) 1 ∷ said 2 (whole_hello 1 (0 ∷ 1 ∷ 0 ∷ 0 ∷ 0 ∷ 1 ∷ [])) ∷ [])
    -- and what others say of an agent is not what it says of itself
    × (answers Two row
    (Start 0 ∷ Finish 0 ∷ Say 0 ∷ Deliver 1 0 ∷ Say 1 ∷ Deliver 0 1 ∷ Say 0 ∷ Say 1 ∷ [])
    ≡ moving (cell 2 0) ∷ arrived (cell 2 0) ∷ said 0
    (whole_hello 0 (0 ∷ 0 ∷ 0 ∷ 0 ∷ 0 ∷ 1 ∷ [])) ∷ heard 0 1
    ∷ said 1 (whole_hello 1 (0 ∷ 0 ∷ 0 ∷ 0 ∷ 0 ∷ 1 ∷ [])) ∷ heard 1 0 ∷ said 2
    (whole_hello 0 (0 ∷ 0 ∷ 0 ∷ 0 ∷ 0 ∷ 1 ∷ []))
    ∷ said 3 (whole_hello 1 (0 ∷ 0 ∷ 0 ∷ 0 ∷ 0 ∷ 1 ∷ [])) ∷ [])
    -- nobody in a rotation ever begins
    × (answers One square (Start 0 ∷ Start 1 ∷ Start 2 ∷ Start 3 ∷ [])
    ≡ refused (Waits 1 1) ∷ refused (Waits 2 1) ∷ refused (Waits 3 1) ∷ refused (Waits 0 1) ∷ [])
    -- numbers that name nothing
    × (answers One nobody [] ≡ [])
    × (answers One row (Deliver 1 5 ∷ Tear 0 11 ∷ Start 9 ∷ [])
    ≡ refused NoSuchMessage ∷ refused BadTear ∷ refused NoSuchAgent ∷ [])

-- ---- what is said of messages, histories and safe runs

abbrev entry : ℕ → ℕ → Entry
entry agent done = record { agent = agent; done = done }

abbrev pub Messages : Type 0
Messages =
    -- of its sender, and of nobody else; of several numbers for one agent the greatest counts
    (told (own_message 1 3) 1 ≡ 3) × (told (own_message 1 3) 0 ≡ 0)
    × (told (record { sender = 0; entries = entry 1 5 ∷ entry 0 7 ∷ entry 1 2 ∷ [] }) 1 ≡ 5)
    × (message_bytes 9 0 1 ≡ 0x46 ∷ 1 ∷ 0 ∷ 0 ∷ 0 ∷ 0 ∷ 0 ∷ 9 ∷ 0 ∷ 0 ∷ 0 ∷ 1 ∷ [])
    × IsMessage 258 772 65536 (0x46 ∷ 1 ∷ 3 ∷ 4 ∷ 0 ∷ 0 ∷ 1 ∷ 2 ∷ 0 ∷ 1 ∷ 0 ∷ 0 ∷ [])
    -- version 2 tells of those with a number above 0, in order, of the sender by what it has done
    × (whole_message 4 2 5 (λ j. j * 3)
    ≡ record { sender = 2; entries = entry 1 3 ∷ entry 2 5 ∷ entry 3 9 ∷ [] })
    × (whole_message 2 0 0 (λ j. 9) ≡ record { sender = 0; entries = entry 1 9 ∷ [] })
    × IsTold 258 (record { sender = 772; entries = entry 1 65536 ∷ entry 256 2 ∷ [] })
    (0x46 ∷ 2 ∷ 3 ∷ 4 ∷ 0 ∷ 0 ∷ 1 ∷ 2 ∷ 0 ∷ 2 ∷ 0 ∷ 1 ∷ 0 ∷ 1 ∷ 0 ∷ 0 ∷ 1 ∷ 0 ∷ 0 ∷ 0 ∷ 0 ∷ 2 ∷ [])
    -- no agent comes twice, and no number is 0
    × (AreRising 0 (entry 1 2 ∷ entry 1 3 ∷ []) → ⊥) × (AreRising 0 (entry 1 0 ∷ []) → ⊥)

-- what has happened after these events, the newest first
abbrev run_of : List Event → History
run_of events = history_after One row [] events

-- where the leader has told the follower that it is gone, and both have spoken after that, at
-- version 2
abbrev both_told : History
both_told = history_after Two row [] (Start 0 ∷ Finish 0 ∷ Say 0 ∷ Deliver 1 0 ∷ Say 1 ∷ [])

abbrev tear_due : ℕ → Option ℕ
tear_due n = Some n

abbrev no_tear : Option ℕ
no_tear = None

abbrev pub Histories : Type 0
Histories =
    -- a tear is due until a write fails; then the agent is broken until it is opened again
    (armed_of (run_of (Tear 0 9 ∷ [])) 0 ≡ tear_due 9)
    × (armed_of (run_of (Tear 0 9 ∷ Start 0 ∷ [])) 0 ≡ no_tear)
    × (is_broken (run_of (Tear 0 9 ∷ Start 0 ∷ [])) 0 ≡ true)
    × (is_broken (run_of (Tear 0 9 ∷ Start 0 ∷ Restart 0 ∷ [])) 0 ≡ false)
    -- a record of nine bytes is none, and one of ten is one
    × (kept_starts (run_of (Tear 0 9 ∷ Start 0 ∷ [])) 0 ≡ 0)
    × (kept_starts (run_of (Tear 0 10 ∷ Start 0 ∷ [])) 0 ≡ 1)
    × (done (run_of (Start 0 ∷ [])) 0 ≡ 0) × (is_moving (run_of (Start 0 ∷ [])) 0 ≡ true)
    × (done (run_of (Start 0 ∷ Finish 0 ∷ [])) 0 ≡ 1)
    × (is_moving (run_of (Start 0 ∷ Finish 0 ∷ [])) 0 ≡ false)
    -- what was said stays said, and what was heard is forgotten at a restart
    × (messages One row (run_of (Say 0 ∷ Start 0 ∷ Finish 0 ∷ Say 0 ∷ []))
    ≡ own_message 0 0 ∷ own_message 0 1 ∷ [])
    × (known One row (run_of (Start 0 ∷ Finish 0 ∷ Say 0 ∷ [])) 1 0 ≡ 0)
    × (known One row (run_of (Start 0 ∷ Finish 0 ∷ Say 0 ∷ Deliver 1 0 ∷ [])) 1 0 ≡ 1)
    × (known One row (run_of (Start 0 ∷ Finish 0 ∷ Say 0 ∷ Deliver 1 0 ∷ Restart 1 ∷ [])) 1 0 ≡ 0)
    × (answer_of (reply.Heard 0 1) ≡ heard 0 1)
    -- at version 2 an agent says what it has heard of others too, and nothing of those of which it
    -- heard nothing
    × (messages Two row both_told
    ≡ record { sender = 0; entries = entry 0 1 ∷ [] } ∷ record {
      sender = 1;
      entries = entry 0 1 ∷ [];
    } ∷ [])
    × (known Two row both_told 1 0 ≡ 1) × (known Two row both_told 0 1 ≡ 0)

-- the follower is told to enter the middle while the leader is still there, as no rule would have
-- it
abbrev pub hasty : History
hasty = record { event = Start 1; answer = moving (cell 1 0) } ∷ []

abbrev pub Safety : Type 0
Safety =
    -- a moving agent holds both its cells
    (held leader [] 0 ≡ At (cell 1 0))
    × (held leader (run_of (Start 0 ∷ [])) 0 ≡ Between (cell 1 0) (cell 2 0))
    × (held leader (run_of (Start 0 ∷ Finish 0 ∷ [])) 0 ≡ At (cell 2 0))
    × Holds row (run_of (Start 0 ∷ [])) 0 (cell 1 0)
    × Holds row (run_of (Start 0 ∷ [])) 0 (cell 2 0)
    × IsBetween row (run_of (Start 0 ∷ [])) 0 (cell 1 0) (cell 2 0)
    -- the drive was told to enter a cell by the answer, or where that was lost by the answer to the
    -- restart, and then once
    × (walk leader (run_of (Start 0 ∷ [])) 0 ≡ path leader)
    × (walk leader (run_of (Tear 0 10 ∷ Start 0 ∷ [])) 0 ≡ cell 1 0 ∷ [])
    × (walk leader (run_of (Tear 0 10 ∷ Start 0 ∷ Restart 0 ∷ Restart 0 ∷ [])) 0 ≡ path leader)
    × IsBeginningOf (cell 1 0 ∷ []) (path leader)
    × (IsBeginningOf (cell 2 0 ∷ []) (path leader) → ⊥)
    × IsRun One row (run_of (Start 1 ∷ Start 0 ∷ []))
    -- where it enters too early it holds what another holds
    × Holds row hasty 0 (cell 1 0) × Holds row hasty 1 (cell 1 0) × (IsSafe row hasty → ⊥)
    × ((version : Version) → IsRun version row hasty → ⊥)

-- the leader goes and says so, and the follower follows
abbrev one_after_another : List Event
one_after_another = Start 0 ∷ Finish 0 ∷ Say 0 ∷ Deliver 1 0 ∷ Start 1 ∷ Finish 1 ∷ []

abbrev pub Completions : Type 0
Completions =
    IsCompletion One row [] one_after_another × IsCompletion Two row [] one_after_another
    -- a move that is under way is finished, and who is at the end needs nothing
    × IsCompletion One row (run_of (Start 0 ∷ Finish 0 ∷ Say 0 ∷ Deliver 1 0 ∷ Start 1 ∷ []))
    (Finish 1 ∷ []) × IsCompletion One nobody [] []
    -- a broken agent is opened anew, and so is one whose next write would fail
    × IsCompletion One row (run_of (Tear 0 9 ∷ Start 0 ∷ [])) (Restart 0 ∷ one_after_another)
    × IsCompletion One row (run_of (Tear 0 10 ∷ [])) (Restart 0 ∷ one_after_another)
    × (IsCompletion One row (run_of (Tear 0 10 ∷ [])) one_after_another → ⊥)
    -- nobody may be left on the way, and nothing may be refused
    × (IsCompletion One row [] [] → ⊥)
    × (IsCompletion One row [] (Start 0 ∷ Finish 0 ∷ Say 0 ∷ Deliver 1 0 ∷ Start 1 ∷ []) → ⊥)
    × (IsCompletion One row []
    (Start 0 ∷ Start 0 ∷ Finish 0 ∷ Say 0 ∷ Deliver 1 0 ∷ Start 1 ∷ Finish 1 ∷ []) → ⊥)
    -- a rotation is a block, and following is none
    × IsBlocked square [] × (IsBlocked row [] → ⊥)
