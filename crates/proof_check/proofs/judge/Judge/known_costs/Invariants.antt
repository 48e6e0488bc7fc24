use Rattle.std.proofs.Common.{◌≡◌, ℕ, length, Some}
use Rattle.std.specs.Prelude.{slice_get}
use Rattle.grid.specs.Map.{Grid}
use Rattle.optimality.specs.declared.constraint.Ends.{Ends}
use Rattle.optimality.specs.Constraints.{constraints_of}
use Rattle.optimality.specs.Walkers.{CostsAtLeast}
use Rattle.proof_check.specs.Code.Trails.{IsTrail}
use Rattle.proof_check.proofs.judge.Judge.known_costs.Given as goal

abbrev pub invariant-loop-agent : goal.invariant-loop-agent
invariant-loop-agent l = record {
  count : length l.numbers.items ≡ l.agent;
  known : (m : Grid) → IsTrail m l.self.ends.items l.self.trail.demands.items l.self.trail.kept.items
      → (k n : ℕ) → slice_get l.numbers.items k ≡ Some n → (own : Ends) → slice_get l.self.ends.items k ≡ Some own
      → CostsAtLeast m own (constraints_of l.self.trail.demands.items k) n;
}
