-- A path has few cells.
use Rattle.std.proofs.Common.{arith}
use Rattle.depgraph.specs.Laws.AgentParts.{few-cells}
use Rattle.depgraph.proofs.NumberLemmas.{length-cells_by}
use Rattle.depgraph.proofs.part.OwnPart.of.Goals as goal

pub numbered_anew-requires-clause-few : goal.numbered_anew-requires-clause-few
numbered_anew-requires-clause-few c =
    let few = few-cells _ c.part.invariant.of_graph in
    let long = length-cells_by c.part.inside.names.now c.part.inside.numbers.now in
    omega (arith, few, long)
