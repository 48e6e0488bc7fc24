-- A step changes the distance to a goal by no more than its length.
use Rattle.std.proofs.Common.{◌≡◌, ℕ, ◌+◌, ◌*◌, ◌≤◌, inl, inr, arith}
use Rattle.std.specs.Prelude.{◌⊎◌}
use Rattle.std.specs.Int.{abs_diff}
use Rattle.grid.specs.declared.cell.Cell.{Cell}
use Rattle.walks.specs.Code.Distances.{octile, distance}

-- a straight or a diagonal step may lead from one cell to the other
abbrev pub AreBeside : (step x y i j : ℕ) → Type 0
AreBeside step x y i j =
    ((step ≡ 6625109) × (abs_diff x i + abs_diff y j ≤ 1))
    ⊎ ((step ≡ 9369319) × (abs_diff x i ≤ 1) × (abs_diff y j ≤ 1))

pub step_bounds : (step x y i j : ℕ) → AreBeside step x y i j
    → (abs_diff x i * 6625109 + abs_diff y j * 2744210 ≤ step)
    × (abs_diff x i * 2744210 + abs_diff y j * 6625109 ≤ step)
step_bounds step x y i j (inl h) =
    let e = h.0 in let f = h.1 in (omega (arith, e, f), omega (arith, e, f))
step_bounds step x y i j (inr h) =
    let e = h.0 in let f = h.1 in let g = h.2 in
    (omega (arith, e, f, g), omega (arith, e, f, g))

pub octile_nearer : (a b c d p q step : ℕ) → a ≤ c + p → b ≤ d + q
    → p * 6625109 + q * 2744210 ≤ step → p * 2744210 + q * 6625109 ≤ step
    → octile a b ≤ octile c d + step
octile_nearer a b c d p q step columns rows first second =
    let left : a * 6625109 + b * 2744210 ≤ c * 6625109 + d * 2744210 + step =
    omega (arith, columns, rows, first) in
    let right : a * 2744210 + b * 6625109 ≤ c * 2744210 + d * 6625109 + step =
    omega (arith, columns, rows, second) in
    omega (arith, left, right)

pub apart_step : (g x i : ℕ) → abs_diff g x ≤ abs_diff g i + abs_diff x i
apart_step g x i = omega arith

pub apart_back : (g x i : ℕ) → abs_diff g i ≤ abs_diff g x + abs_diff x i
apart_back g x i = omega arith

pub distance_step : (goal : Cell) (step x y i j : ℕ) → AreBeside step x y i j
    → distance goal x y ≤ distance goal i j + step
distance_step goal step x y i j beside =
    let most = step_bounds step x y i j beside in
    octile_nearer (abs_diff goal.x x) (abs_diff goal.y y) (abs_diff goal.x i) (abs_diff goal.y j)
    (abs_diff x i) (abs_diff y j) step
    (apart_step goal.x x i) (apart_step goal.y y j) most.0 most.1

pub distance_back : (goal : Cell) (step x y i j : ℕ) → AreBeside step x y i j
    → distance goal i j ≤ distance goal x y + step
distance_back goal step x y i j beside =
    let most = step_bounds step x y i j beside in
    octile_nearer (abs_diff goal.x i) (abs_diff goal.y j) (abs_diff goal.x x) (abs_diff goal.y y)
    (abs_diff x i) (abs_diff y j) step
    (apart_back goal.x x i) (apart_back goal.y y j) most.0 most.1
