use Rattle.std.proofs.Common.{◌≡◌, List, length}
use Rattle.grid.specs.Map.{Grid}
use Rattle.optimality.specs.declared.constraint.Ends.{Ends}
use Rattle.proof_check.specs.Code.Trails.{IsTrail}
use Rattle.proof_check.proofs.trail.Trail.forget.Given as goal

abbrev pub invariant-found : goal.invariant-found
invariant-found l = record {
  demands : l.self.demands ≡ l.initial.self.demands;
  kept : (m : Grid) (ends : List Ends) → IsTrail m ends l.initial.self.demands.items l.initial.self.kept.items
      → IsTrail m ends l.initial.self.demands.items l.self.kept.items;
}

abbrev pub decreases-found : goal.decreases-found
decreases-found l = length l.self.kept.items
