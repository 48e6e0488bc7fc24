-- What is left of a plan where all moves that were begun are made.
use Rattle.std.specs.Prelude.{ℕ, ◌-◌, ◌==◌, zero, suc, min, nat_lt}
use Rattle.std.specs.Prelude.{Bool, false, if◌then◌else◌, List, [], ◌∷◌, length}
use Rattle.std.specs.Prelude.{drop, Option, None, Some, option_map, unwrap_or}
use Rattle.continuing.specs.Adding.{changes_cell}
use Rattle.model.specs.declared.act.Act.{Act}
use Rattle.model.specs.declared.act.Act.TheVariants.{Wait}
use Rattle.model.specs.Plan.{Course, Plan, course_of}
use Rattle.model.specs.Rules.{path_cell}
use Rattle.model.specs.Timetable.{Track, Timetable, moves, step_of, track_of}
use Rattle.fleet_commands.specs.FoundTapes.{Found, begun_by}
use Rattle.fleet_commands.specs.Turns.{in_turn}

-- the agent is to be left out
abbrev pub is_left_out : Option ℕ → ℕ → Bool
is_left_out without i = unwrap_or (option_map (λ other. other == i) without) false

-- ---- from which step on

-- in which step the agent has its next move, if it has one
abbrev pub step_ahead : ℕ → Option Track → Option ℕ
step_ahead begun None = None
step_ahead begun (Some track) =
    if nat_lt begun (moves track) then Some (step_of track begun) else None

abbrev pub next_step : Timetable → List Found → Option ℕ → ℕ → Option ℕ
next_step tt found without i =
    if is_left_out without i then None else step_ahead (begun_by found i) (track_of tt i)

abbrev pub sooner_step : Option ℕ → Option ℕ → Option ℕ
sooner_step None other = other
sooner_step one None = one
sooner_step (Some one) (Some other) = Some (min one other)

-- the soonest of the first agents
abbrev pub soonest_of : (ℕ → Option ℕ) → ℕ → Option ℕ
soonest_of next zero = None
soonest_of next (suc n) = sooner_step (soonest_of next n) (next n)

-- the first step in which one of the agents has a move that it hasn't begun; 0 where none has one
abbrev pub first_step : Timetable → List Found → Option ℕ → ℕ
first_step tt found without =
    unwrap_or (soonest_of (next_step tt found without) (length tt.tracks)) 0

-- ---- what is done from there

-- where so many moves are made already, the agent waits in place of the next act
abbrev pub left_act : ℕ → Act → Act
left_act made act = if made == 0 then act else Wait

-- so many of them are then among the acts that follow
abbrev pub made_behind : ℕ → Act → ℕ
made_behind made act = if changes_cell act then made - 1 else made

-- the acts, where so many of the moves are made already
abbrev pub left_acts : ℕ → List Act → List Act
left_acts made [] = []
left_acts made (act ∷ acts) = left_act made act ∷ left_acts (made_behind made act) acts

-- from the cell to which the moves lead that are begun; nothing where no other is left
abbrev pub left_course : Track → (begun from : ℕ) → List Act → Course
left_course track begun from acts = record {
  start = path_cell track begun;
  acts = if nat_lt begun (moves track) then drop from (left_acts begun acts) else [];
}

abbrev pub left_courses_by : (begun from : ℕ) → Option Track → Option Course → List Course
left_courses_by begun from track None = []
left_courses_by begun from None (Some course) = []
left_courses_by begun from (Some track) (Some course) =
    left_course track begun from course.acts ∷ []

-- of an agent one, or none where it is left out
abbrev pub left_courses : Plan → Timetable → List Found → Option ℕ → ℕ → List Course
left_courses p tt found without i =
    if is_left_out without i then [] else left_courses_by (begun_by found i)
    (first_step tt found without) (track_of tt i) (course_of p i)

-- the plan of the agents that are not left out, in their order, under a number of its own
abbrev pub left_plan : Plan → Timetable → List Found → Option ℕ → ℕ → Plan
left_plan p tt found without number =
    record {
      number = number;
      courses = in_turn (left_courses p tt found without)
          (length tt.tracks);
    }
