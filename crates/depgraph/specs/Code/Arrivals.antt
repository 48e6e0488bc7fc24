-- When an agent comes into the cells of its path.
use Rattle.std.specs.Prelude.{ℕ, ◌+◌, Bool, true, not, if◌then◌else◌}
use Rattle.std.specs.Prelude.{List, [], ◌∷◌, Option, None, Some}
use Rattle.grid.specs.declared.cell.Cell.{Cell}
use Rattle.model.specs.Timetable.{same_cell}

-- the cell isn't the one in which the agent is already
abbrev pub is_new : Option Cell → Cell → Bool
is_new None c = true
is_new (Some d) c = not (same_cell d c)

-- of the cells that an agent goes on to, one for each time, those that it enters
abbrev pub entered : Option Cell → List Cell → List Cell
entered here [] = []
entered here (c ∷ cells) =
    if is_new here c then c ∷ entered (Some c) cells else entered (Some c) cells

-- and when, if it is in the next of them at this time
abbrev pub entry_times : Option Cell → List Cell → ℕ → List ℕ
entry_times here [] t = []
entry_times here (c ∷ cells) t =
    if is_new here c then t ∷ entry_times (Some c) cells (t + 1) else entry_times
    (Some c) cells (t + 1)
