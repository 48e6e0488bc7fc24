-- The cells of all agents, time by time, as the code goes through them.
use Rattle.std.specs.Prelude.{◌≡◌, ℕ, ◌+◌, ◌≤◌, zero, suc, List, []}
use Rattle.std.specs.Prelude.{◌∷◌, length, map, Option, Some, Result, slice_get}
use Rattle.grid.specs.declared.cell.Cell.{Cell}
use Rattle.text_io.specs.declared.counted.Counted.{Counted}
use Rattle.model.specs.Plan.{Course, Plan, position_of, position_at}
use Rattle.model.specs.Timetable.{cell_at}
use Rattle.plan_text.specs.Limits.{most_acts}
use Rattle.checker.specs.Code.Tracks.{track_along, StaysInRange}
use Rattle.ending.specs.Ending.{End}
use Rattle.plan_commands.specs.PlanQueries.{ShowsRows, EndsByPath}
use Rattle.plan_commands.specs.PathText.{count_of_times}
use Rattle.plan_commands.specs.declared.path_fault.PathFault.{PathFault}

-- the cells of all agents at a time
abbrev pub row_at : List Course → ℕ → List Cell
row_at courses t = map (λ course. cell_at (track_along course) t) courses

-- those of so many times, from one on
abbrev pub rows_from : List Course → (time count : ℕ) → List (List Cell)
rows_from courses t zero = []
rows_from courses t (suc count) = row_at courses t ∷ rows_from courses (t + 1) count

abbrev pub rows_of_courses : List Course → List (List Cell)
rows_of_courses courses = rows_from courses 0 (count_of_times courses)

-- the agent's cells are in range, and are where its acts lead, which are no more than a plan may
-- have
pub record IsWalked (course : Course) : Type 0 where
  pub in_range : StaysInRange course.start course.acts
  pub places : (t : ℕ) → position_of (cell_at (track_along course) t) ≡ position_at course t
  pub few : length course.acts ≤ most_acts

abbrev pub AllWalked : List Course → Type 0
AllWalked courses = (i : ℕ) (course : Course) → slice_get courses i ≡ Some course → IsWalked course

-- there is no agent with the number that is asked for
abbrev pub IsNoAgent : Plan → Option ℕ → Type 0
IsNoAgent p agent = (i : ℕ) × (agent ≡ Some i) × (length p.courses ≤ i)

-- what is asked for of the plan was shown
pub record EndsByRows
    {W : Type 0} (contents : W → Option (List ℕ)) (p : Plan) (agent : Option ℕ)
    (old new : Counted W) (end : End) : Type 0 where
  pub answer : Result (List (List Cell)) PathFault
  pub shows : ShowsRows p agent answer
  pub ends : EndsByPath contents old new end answer
