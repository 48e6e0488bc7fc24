use Rattle.std.proofs.Common.{◌≡◌, ℕ, ◌<◌, Some}
use Rattle.std.specs.Prelude.{slice_get}
use Rattle.optimality.specs.declared.constraint.Constraint.{Constraint}
use Rattle.optimality.specs.Constraints.{Meets}
use Rattle.optimality.specs.Walkers.{along}
use Rattle.least_costs.proofs.walk.meets_all.Given as goal

abbrev pub invariant-loop-constraint : goal.invariant-loop-constraint
invariant-loop-constraint l = (k : ℕ) (c : Constraint) → k < l.constraint-index → slice_get l.asked k ≡ Some c → Meets (along l.walk) c
