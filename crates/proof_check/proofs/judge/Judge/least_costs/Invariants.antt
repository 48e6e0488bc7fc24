use Rattle.std.proofs.Common.{◌≡◌, ◌<◌, ℕ, length, Some}
use Rattle.std.specs.Prelude.{slice_get}
use Rattle.grid.specs.Map.{Grid}
use Rattle.optimality.specs.declared.constraint.Ends.{Ends}
use Rattle.optimality.specs.Constraints.{constraints_of}
use Rattle.optimality.specs.Walkers.{CostsAtLeast, IsLeastCost}
use Rattle.proof_check.specs.Code.Trails.{AreTables, IsTrail}
use Rattle.proof_check.proofs.judge.Judge.least_costs.Given as goal

abbrev pub invariant-loop-agent : goal.invariant-loop-agent
invariant-loop-agent l = record {
  ends : l.self.ends ≡ l.initial.self.ends;
  tables : l.self.tables.items ≡ l.initial.self.tables.items;
  trail : l.self.trail ≡ l.initial.self.trail;
  count : length l.numbers.items ≡ l.agent;
  found : (m : Grid) → AreTables m l.initial.self.ends.items l.initial.self.tables.items
      → IsTrail m l.initial.self.ends.items l.initial.self.trail.demands.items l.initial.self.trail.kept.items → (k n : ℕ) → slice_get l.numbers.items k ≡ Some n
      → (own : Ends) → slice_get l.initial.self.ends.items k ≡ Some own
      → CostsAtLeast m own (constraints_of l.initial.self.trail.demands.items k) n
      × (n < l.bound → IsLeastCost m own (constraints_of l.initial.self.trail.demands.items k) n);
}
