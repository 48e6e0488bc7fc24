-- What a walk takes at least.
use Rattle.std.specs.Prelude.{ℕ, ◌+◌, ◌*◌, Bool, true, false}
use Rattle.std.specs.Int.{abs_diff}
use Rattle.grid.specs.declared.cell.Cell.{Cell}
use Rattle.walks.specs.Code.Distances.{distance}

-- the number of a walk on a map without obstacles, with diagonal steps or of straight ones alone
abbrev pub least_number : Bool → Cell → Cell → ℕ
least_number true goal c = distance goal c.x c.y
least_number false goal c = (abs_diff goal.x c.x + abs_diff goal.y c.y) * 6625109
