-- What keeps each agent by what all tapes have, and who keeps whom.
use Rattle.std.specs.Prelude.{ℕ, ◌-◌, ◌/◌, ◌%◌, ◌==◌, ◌&&◌, zero, suc}
use Rattle.std.specs.Prelude.{Bool, false, if◌then◌else◌, nat_lt, List, length, map, count_by}
use Rattle.std.specs.Prelude.{Option, None, Some, Ok, unwrap_or, slice_get, slice_index_or}
use Rattle.std.specs.List.{list_all, list_any, range_with_len}
use Rattle.model.specs.Dependency.{Need, need}
use Rattle.model.specs.Timetable.{Track, Timetable, moves, step_of, track_of}
use Rattle.depgraph.specs.Rotations.{Turn}
use Rattle.fleet_commands.specs.FoundTapes.{Found, begun_by, finished_by, is_known}
use Rattle.fleet_commands.specs.declared.keeping.Keeping.{Keeping}
use Rattle.fleet_commands.specs.declared.keeping.Keeping.TheVariants.{Unknown, OwnMove, OwnEnd}
use Rattle.fleet_commands.specs.declared.keeping.Keeping.TheVariants.{Nothing, Other}

abbrev pub kept_by_need : (ℕ → ℕ) → Option Need → Keeping
kept_by_need finished None = Nothing
kept_by_need finished (Some n) =
    if nat_lt (finished n.agent) n.count then Other n.agent n.count else Nothing

-- what keeps an agent from its next move, whose tape has so many records, by how many moves each
-- has finished
abbrev pub kept_at : Timetable → (ℕ → ℕ) → ℕ → Track → ℕ → Keeping
kept_at tt finished i track records =
    if records % 2 == 1 then OwnMove
    else (if nat_lt (records / 2) (moves track) then kept_by_need finished
    (need tt i track (records / 2))
    else OwnEnd)

abbrev pub kept_in : Timetable → List Found → ℕ → Option Track → Option Found → Keeping
kept_in tt found i (Some track) (Some (Ok records)) = kept_at tt (finished_by found) i track records
kept_in tt found i _ _ = Unknown

abbrev pub kept_now : Timetable → List Found → ℕ → Keeping
kept_now tt found i = kept_in tt found i (track_of tt i) (slice_get found i)

-- ---- who keeps whom

-- for whom an agent waits
abbrev pub waited_for : Keeping → Option ℕ
waited_for (Other agent count) = Some agent
waited_for _ = None

-- the same of each agent
abbrev pub waits_of : Timetable → List Found → List (Option ℕ)
waits_of tt found =
    map (λ i. waited_for (kept_now tt found i)) (range_with_len 0 (length tt.tracks))

-- a step leads from an agent to the one for which it waits, and from one that waits for nobody
-- nowhere else
abbrev pub step_from : List (Option ℕ) → ℕ → ℕ
step_from waits i = unwrap_or (slice_index_or waits i None) i

abbrev pub keeper_after : List (Option ℕ) → ℕ → ℕ → ℕ
keeper_after waits i zero = i
keeper_after waits i (suc n) = step_from waits (keeper_after waits i n)

-- to whom as many steps lead from each agent as there are agents: one that waits for nobody, or one
-- of those that wait in a circle
abbrev pub keepers_of : List (Option ℕ) → List ℕ
keepers_of waits = map (λ i. keeper_after waits i (length waits)) (range_with_len 0 (length waits))

-- how many others wait for an agent that waits for nobody, directly or not
abbrev pub kept_count : List ℕ → ℕ → ℕ
kept_count ends i = count_by (λ end. end == i) ends - 1

-- the next move of the agent is planned in this step
abbrev pub is_planned_in : ℕ → Option Track → ℕ → Bool
is_planned_in step None k = false
is_planned_in step (Some track) k = nat_lt k (moves track) && (step_of track k == step)

-- an agent is known to stand, and to have its move in this step before it
abbrev pub is_at_step : Timetable → List Found → (step i : ℕ) → Bool
is_at_step tt found step i =
    is_known found i && ((begun_by found i == finished_by found i) && is_planned_in step
    (track_of tt i) (finished_by found i))

-- the agents of a rotation are known to have all come to it, and none has begun its move in it
abbrev pub has_come : Timetable → List Found → Turn → Bool
has_come tt found turn = list_all (is_at_step tt found turn.step) turn.agents

-- how many agents wait in a rotation, or for it
abbrev pub stuck_count : List ℕ → Turn → ℕ
stuck_count ends turn = count_by (λ end. list_any (λ i. i == end) turn.agents) ends
