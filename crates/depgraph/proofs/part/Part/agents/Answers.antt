-- Each agent has a number of moves, and a graph has few agents.
use Rattle.std.proofs.Common.{length, arith, sym, ap, ◌∙◌}
use Rattle.depgraph.specs.Laws.AgentParts.{few-agents}
use Rattle.depgraph.proofs.ShareLemmas.{length-counts}
use Rattle.depgraph.proofs.part.Part.agents.Goals as goal

pub overflow_cast-result : goal.overflow_cast-result
overflow_cast-result c =
    let few = few-agents _ c.self.invariant.of_graph in
    let long = length-counts c.self.inside.ends.now in
    omega (arith, few, long)

pub returns-clause-agents : goal.returns-clause-agents
returns-clause-agents c = sym (length-counts c.self.inside.ends.now) ∙ ap (λ p. length p.moves) c.self.view_is
