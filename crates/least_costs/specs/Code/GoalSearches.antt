-- How far a search from a goal toward a start has come.
use Rattle.std.specs.Prelude.{◌≡◌, ℕ, ◌+◌, ◌<◌, ◌≤◌, ◌⊎◌, List, Some, slice_get}
use Rattle.grid.specs.declared.cell.Cell.{Cell}
use Rattle.grid.specs.Map.{Grid, IsStraightStep}
use Rattle.least_costs.specs.declared.goal_search.GoalSearch.{GoalSearch}
use Rattle.least_costs.specs.declared.goal_search.Waiting.{Waiting}
use Rattle.least_costs.specs.declared.marks.Marks.{Marks}
use Rattle.least_costs.specs.Code.Marks.{mark_at}
use Rattle.least_costs.specs.Code.Places.{between}

-- the cell waits, with so many steps to the goal
abbrev pub IsAmongThem : List Waiting → Cell → ℕ → Type 0
IsAmongThem list c n = (i : ℕ) × (slice_get list i ≡ Some (record { cell = c; steps = n }))

-- all that wait are on ways through them that take so many steps
abbrev pub AreThrough : List Waiting → Cell → ℕ → Type 0
AreThrough list start through =
    (i : ℕ) (w : Waiting) → slice_get list i ≡ Some w → w.steps + between w.cell start ≡ through

-- from each cell from which a step leads to this one, a way is known that takes it
abbrev pub HasSpread : Grid → Marks → Cell → Type 0
HasSpread m marks u = (v : Cell) → IsStraightStep m v u → mark_at marks v ≤ mark_at marks u + 1

-- what a search knows
pub record IsSpread (m : Grid) (goal start : Cell) (marks : Marks) (next later : List Waiting)
    (through : ℕ) : Type 0 where
  pub at_goal : mark_at marks goal ≡ 0
  -- each cell to which the search has come has spread to those beside it, or waits
  pub spreads : (c : Cell) → mark_at marks c < 4294967295
      → HasSpread m marks c ⊎ IsAmongThem next c (mark_at marks c)
      ⊎ IsAmongThem later c (mark_at marks c)
  pub first : AreThrough next start through
  pub second : AreThrough later start (through + 2)
  pub limit : through ≤ 4294967295

abbrev pub IsGoalSearch : Grid → GoalSearch → Type 0
IsGoalSearch m s = IsSpread m s.goal s.start s.marks s.next.items s.later.items s.through

abbrev pub IsPending : GoalSearch → Cell → ℕ → Type 0
IsPending s c n = IsAmongThem s.next.items c n ⊎ IsAmongThem s.later.items c n

-- neither the ends have changed nor how far the search has come, and what is next waits on where it
-- stands
pub record AreBeyond (old new : GoalSearch) : Type 0 where
  pub goal : new.goal ≡ old.goal
  pub start : new.start ≡ old.start
  pub through : new.through ≡ old.through
  pub next : (i : ℕ) (w : Waiting) → slice_get old.next.items i ≡ Some w
      → slice_get new.next.items i ≡ Some w

-- no mark has grown, and those up to a number are as they were
pub record LowersMarks (steps : ℕ) (old new : Marks) : Type 0 where
  pub less : (c : Cell) → mark_at new c ≤ mark_at old c
  pub same : (c : Cell) → mark_at old c ≤ steps → mark_at new c ≡ mark_at old c
