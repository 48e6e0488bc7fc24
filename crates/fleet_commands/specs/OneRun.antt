-- What shows that tapes are not those of one run of a plan. In a run a move begins only when what
-- it waits for is finished, and no rotation begins.
use Rattle.std.specs.Prelude.{ℕ, zero, suc, ◌-◌, ◌&&◌, not, Bool, false}
use Rattle.std.specs.Prelude.{if◌then◌else◌, nat_le, nat_lt, List, Option, None, Some}
use Rattle.std.specs.List.{list_any}
use Rattle.model.specs.Dependency.{need}
use Rattle.model.specs.Timetable.{Track, Timetable, moves, step_of, track_of}
use Rattle.depgraph.specs.Rotations.{Turn}
use Rattle.fleet_commands.specs.FoundTapes.{Found, begun_by, finished_by, is_known}
use Rattle.fleet_commands.specs.LeftPlan.{is_left_out}
use Rattle.fleet_commands.specs.Standing.{kept_by_need}
use Rattle.fleet_commands.specs.declared.keeping.Keeping.{Keeping}
use Rattle.fleet_commands.specs.declared.keeping.Keeping.TheVariants.{Other}
use Rattle.fleet_commands.specs.declared.one_run.Unmet.{Unmet}

-- the tape of the agent counts: an agent is opened on it, and it is not left out
abbrev pub counts : Option ℕ → List Found → ℕ → Bool
counts without found i = not (is_left_out without i) && is_known found i

-- what keeps a move from its beginning, where the tape counts that says so
abbrev pub unmet_by : Option ℕ → List Found → Keeping → Option Unmet
unmet_by without found (Other agent count) =
    if counts without found agent then Some (record { agent = agent; count = count }) else None
unmet_by without found _ = None

abbrev pub first_some : Option Unmet → Option Unmet → Option Unmet
first_some None other = other
first_some (Some one) other = Some one

-- the first among those of so many moves
abbrev pub first_unmet : (ℕ → Option Unmet) → ℕ → Option Unmet
first_unmet unmet zero = None
first_unmet unmet (suc k) = first_some (first_unmet unmet k) (unmet k)

-- what the first of the moves waits for that the agent has begun too early, if its tape counts
abbrev pub unmet_in : Timetable → Option ℕ → List Found → ℕ → Option Track → Option Unmet
unmet_in tt without found i None = None
unmet_in tt without found i (Some track) =
    if counts without found i
    then first_unmet (λ k. unmet_by without found
    (kept_by_need (finished_by found) (need tt i track k))) (begun_by found i)
    else None

-- the last of so many moves of the agent is planned in this step, or later
abbrev pub has_reached : ℕ → Option Track → ℕ → Bool
has_reached step None begun = false
has_reached step (Some track) begun =
    nat_lt 0 begun && (nat_lt (begun - 1) (moves track) && nat_le step (step_of track (begun - 1)))

-- the agent has begun its move in the step, by a tape that counts
abbrev pub has_begun_in : Timetable → Option ℕ → List Found → (step i : ℕ) → Bool
has_begun_in tt without found step i =
    counts without found i && has_reached step (track_of tt i) (begun_by found i)

-- an agent of a rotation has begun its move in it
abbrev pub is_turn_begun : Timetable → Option ℕ → List Found → Turn → Bool
is_turn_begun tt without found turn = list_any (has_begun_in tt without found turn.step) turn.agents
