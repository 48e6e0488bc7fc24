use Rattle.std.proofs.Common.{◌≡◌}
use Rattle.grid.specs.Map.{Grid}
use Rattle.proof_check.specs.Code.Trails.{AreTables, IsTrail}
use Rattle.proof_check.proofs.judge.Judge.look_anew.Given as goal

abbrev pub invariant-loop-agent : goal.invariant-loop-agent
invariant-loop-agent l = record {
  ends : l.self.ends ≡ l.initial.self.ends;
  tables : l.self.tables.items ≡ l.initial.self.tables.items;
  demands : l.self.trail.demands ≡ l.initial.self.trail.demands;
  trail : (m : Grid) → AreTables m l.initial.self.ends.items l.initial.self.tables.items
      → IsTrail m l.initial.self.ends.items l.initial.self.trail.demands.items l.initial.self.trail.kept.items
      → IsTrail m l.initial.self.ends.items l.self.trail.demands.items l.self.trail.kept.items;
}
