use Rattle.std.proofs.Common.{List, subst}
use Rattle.text_io.specs.Counted.{counted_inner}
use Rattle.optimality.specs.declared.constraint.Ends.{Ends}
use Rattle.proof_check.specs.Leaf.{ShowsLeaf}
use Rattle.proof_commands.proofs.leaf_again.read_leaf.Goals as goal

pub returns-in-Ok-leaf_at : goal.returns-in-Ok-leaf_at
returns-in-Ok-leaf_at g c = (
  c.in-Ok.on_map.map,
  c.in-Ok.on_map.plan,
  c.in-Ok.ensures,
  subst (λ (e : List Ends). ShowsLeaf c.in-Ok.on_map.map e c.args.number (g.F.Read.remaining (counted_inner c.args.proof.now))
      (g.F.Read.remaining (counted_inner c.leaf_at.new.reader)) c.in-Ok-leaf_at.leaf) c.in-Ok-ends_of_agents.ensures
      c.in-Ok-leaf_at.ensures,
)
