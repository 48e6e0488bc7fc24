-- How far apart two cells are on a map without obstacles, as a number of which a straight step is
-- 6625109 and a diagonal one 2744210 more.
use Rattle.std.specs.Prelude.{ℕ, ◌+◌, ◌-◌, ◌*◌, ◌^◌, max, Option, None, Some}
use Rattle.std.specs.Int.{abs_diff}
use Rattle.grid.specs.declared.cell.Cell.{Cell}
use Rattle.walks.specs.declared.beyond.Beyond.{Beyond}

-- of so many columns and rows: as many diagonal steps as the fewer of both, and the rest straight
abbrev pub octile : (columns rows : ℕ) → ℕ
octile columns rows = max (columns * 6625109 + rows * 2744210) (columns * 2744210 + rows * 6625109)

abbrev pub distance : Cell → (x y : ℕ) → ℕ
distance goal x y = octile (abs_diff goal.x x) (abs_diff goal.y y)

-- a number less the distance to a goal, if there is one, but no less than that of no step
abbrev pub number_toward : Option Cell → ℕ → (x y : ℕ) → ℕ
number_toward None n x y = n
number_toward (Some goal) n x y = max (n - distance goal x y) 6625109

-- the number of a cell that a search didn't settle
abbrev pub beyond_number : Option Beyond → (x y : ℕ) → ℕ
beyond_number None x y = 2 ^ 62
beyond_number (Some b) x y = number_toward b.goal b.number x y
