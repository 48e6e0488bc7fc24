use Rattle.std.proofs.Common.{◌≡◌, ℕ, ◌-◌, ◌<◌, ◌≤◌, length}
use Rattle.model.specs.Timetable.{cell_at}
use Rattle.optimality.specs.Walkers.{along}
use Rattle.least_costs.proofs.walk.cost_of.Given as goal

abbrev pub invariant-loop-at : goal.invariant-loop-at
invariant-loop-at l =
    (l.rest < l.at) × (l.rest ≤ length l.walk)
    × ((k : ℕ) → l.rest ≤ k → k < l.at → cell_at (along l.walk) k ≡ cell_at (along l.walk) l.rest)
    × (0 < l.rest → cell_at (along l.walk) (l.rest - 1) ≡ cell_at (along l.walk) l.rest → ⊥)
