-- How far two cells are apart, and how far a walk comes.
use Rattle.std.proofs.Common.{◌≡◌, ◌∙◌, ℕ, zero, suc, ◌+◌, ◌-◌, ◌≤◌, inl, inr, arith, sym, ap, subst}
use Rattle.grid.specs.declared.cell.Cell.{Cell}
use Rattle.grid.specs.Map.{AreNext, Grid, ShareSide}
use Rattle.model.specs.Timetable.{Track, cell_at}
use Rattle.optimality.specs.declared.constraint.Ends.{Ends}
use Rattle.optimality.specs.Walkers.{IsAgentWalk, MayFollow}
use Rattle.least_costs.specs.Code.Places.{between}

-- numbers next to each other are as far from a third, but for one
next_apart : (a b c : ℕ) → AreNext a b → (a - c) + (c - a) ≤ (b - c) + (c - b) + 1
next_apart a b c (inl e) = omega (arith, e)
next_apart a b c (inr e) = omega (arith, e)

-- cells that share a side are as far from a third, but for one
pub side_apart : (u v c : Cell) → ShareSide u v → between u c ≤ between v c + 1
side_apart u v c (inl column) =
    let one = next_apart u.y v.y c.y column.1 in
    let same : (u.x - c.x) + (c.x - u.x) ≡ (v.x - c.x) + (c.x - v.x) = ap (λ x. (x - c.x) + (c.x - x)) column.0 in
    omega (arith, one, same)
side_apart u v c (inr row) =
    let one = next_apart u.x v.x c.x row.1 in
    let same : (u.y - c.y) + (c.y - u.y) ≡ (v.y - c.y) + (c.y - v.y) = ap (λ y. (y - c.y) + (c.y - y)) row.0 in
    omega (arith, one, same)

-- a step leads no nearer to a cell than by one
pub follow_apart : (m : Grid) (u v c : Cell) → MayFollow m u v → between u c ≤ between v c + 1
follow_apart m u v c (inl same) = subst (λ d. between d c ≤ between v c + 1) same (omega arith)
follow_apart m u v c (inr step) = side_apart u v c step.side

same_apart : (c : Cell) → between c c ≤ 0
same_apart c = omega arith

-- a walk comes no further than by one a step
pub walk_apart : (m : Grid) (ends : Ends) (track : Track) → IsAgentWalk m ends track → (d t : ℕ) (c : Cell) → cell_at track (t + d) ≡ c → between (cell_at track t) c ≤ d
walk_apart m ends track walk zero t c there =
    let here : t + 0 ≡ t = omega arith in
    subst (λ u. between u c ≤ 0) (sym there ∙ ap (cell_at track) here) (same_apart c)
walk_apart m ends track walk (suc d) t c there =
    let on : t + 1 + d ≡ t + suc d = omega arith in
    let rest = walk_apart m ends track walk d (t + 1) c (ap (cell_at track) on ∙ there) in
    let step = follow_apart m (cell_at track t) (cell_at track (t + 1)) c (walk.steps t) in
    omega (arith, rest, step)
