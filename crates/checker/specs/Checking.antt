-- What a checked plan is, and what a checker answers.
use Rattle.std.specs.Prelude.{◌≡◌, ℕ, ◌+◌, ◌<◌, ◌≤◌, List, [], ◌∷◌, length, ⊤}
use Rattle.std.specs.List.{AllByRecursion}
use Rattle.grid.specs.declared.cell.Cell.{Cell}
use Rattle.grid.specs.Map.{Grid, IsSize}
use Rattle.model.specs.declared.plan_fault.PlanFault.{PlanFault}
use Rattle.model.specs.declared.plan_fault.PlanFault.TheVariants.{BadStart, BadMove, Vertex}
use Rattle.model.specs.declared.plan_fault.PlanFault.TheVariants.{Swap, OutOfMemory}
use Rattle.model.specs.Costs.{AllEndAtRest}
use Rattle.model.specs.Plan.{Plan, IsValid, IsLeastFault, IsTimetableOf}
use Rattle.model.specs.Timetable.{Track, Timetable, Stands, IsConflictFree, IsSwapFree}
use Rattle.plan_text.specs.Limits.{most_agents, most_acts, most_acts_in_all}

-- a plan that was found valid, as its timetable, and the size of the map that it was checked on
pub record Checked : Type 0 where
  pub width : ℕ
  pub height : ℕ
  pub timetable : Timetable

-- how many steps the tracks have together
abbrev pub steps_in : List Track → ℕ
steps_in [] = 0
steps_in (track ∷ tracks) = length track.later + steps_in tracks

-- What every checked plan keeps: each cell is one of the map, nobody is ever in a cell with
-- another, no two exchange cells, each track ends where its agent comes to rest, and the limits of
-- a plan.
pub record IsChecked (c : Checked) : Type 0 where
  pub size : IsSize c.width c.height
  pub on_map : (i t : ℕ) (cell : Cell) → Stands c.timetable i t cell → (cell.x < c.width)
      × (cell.y < c.height)
  pub conflict_free : IsConflictFree c.timetable
  pub swap_free : IsSwapFree c.timetable
  pub at_rest : AllEndAtRest c.timetable
  pub agent_limit : length c.timetable.tracks ≤ most_agents
  pub step_limit : AllByRecursion (λ track. length track.later ≤ most_acts) c.timetable.tracks
  pub all_steps_limit : steps_in c.timetable.tracks ≤ most_acts_in_all

-- the plan is valid on the map, and this is its timetable, and the map's size
pub record IsCheckOf (m : Grid) (p : Plan) (c : Checked) : Type 0 where
  pub valid : IsValid m p
  pub timetable : IsTimetableOf p c.timetable
  pub width : c.width ≡ m.width
  pub height : c.height ≡ m.height

-- the fault is the least of all that the plan has on the map; of want of memory nothing is said
abbrev pub IsRefusedFor : Grid → Plan → PlanFault → Type 0
IsRefusedFor m p (BadStart i) = IsLeastFault m p (BadStart i)
IsRefusedFor m p (BadMove i step) = IsLeastFault m p (BadMove i step)
IsRefusedFor m p (Vertex i j time cell) = IsLeastFault m p (Vertex i j time cell)
IsRefusedFor m p (Swap i j step) = IsLeastFault m p (Swap i j step)
IsRefusedFor m p OutOfMemory = ⊤

-- the cells of a track, one for each time up to that at which its agent comes to rest
abbrev pub cells_of : Track → List Cell
cells_of track = track.start ∷ track.later
