use Rattle.std.proofs.Common.{◌≡◌, ◌+◌, ℕ, drop}
use Rattle.model.specs.Timetable.{cell_after}
use Rattle.checker.specs.Code.Tracks.{cells_along}
use Rattle.checker.proofs.cells.cell_after.Given as goal

-- from this cell on, the others acts lead where all acts lead from the start
abbrev pub invariant-loop-step : goal.invariant-loop-step
invariant-loop-step l = (t : ℕ)
    → cell_after l.cell (cells_along l.cell (drop l.step l.acts)) t ≡ cell_after l.fn.start (cells_along l.fn.start l.acts) (l.step + t)
