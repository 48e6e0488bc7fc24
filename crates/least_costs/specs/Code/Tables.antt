-- How many steps a cell is from a goal, at least.
use Rattle.std.specs.Prelude.{◌≡◌, ℕ, ◌+◌, ◌≤◌}
use Rattle.grid.specs.declared.cell.Cell.{Cell}
use Rattle.model.specs.Costs.{cost}
use Rattle.model.specs.Timetable.{Track, cell_at}
use Rattle.optimality.specs.Walkers.{IsAgentWalk}
use Rattle.least_costs.specs.GoalView.{GoalView}

-- each walk to the goal that is in the cell before it has come there has so many steps to go
abbrev pub IsEstimate : GoalView → Cell → ℕ → Type 0
IsEstimate g c n =
    (start : Cell) (track : Track) (t : ℕ)
    → IsAgentWalk g.map (record { start = start; goal = g.goal }) track
    → t ≤ cost track → cell_at track t ≡ c → t + n ≤ cost track
