-- How far two cells are apart.
use Rattle.std.specs.Prelude.{ℕ, ◌+◌, ◌-◌}
use Rattle.grid.specs.declared.cell.Cell.{Cell}

-- how many steps lead from the one cell to the other where no cell is blocked
abbrev pub between : Cell → Cell → ℕ
between u v = ((u.x - v.x) + (v.x - u.x)) + ((u.y - v.y) + (v.y - u.y))
