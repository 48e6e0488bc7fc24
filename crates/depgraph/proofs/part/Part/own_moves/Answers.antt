-- A plan's agents make few moves.
use Rattle.std.proofs.Common.{sym, ◌∙◌}
use Rattle.depgraph.specs.Laws.AgentParts.{told-most}
use Rattle.depgraph.proofs.part.Part.own_moves.Goals as goal

pub returns-clause-few : goal.returns-clause-few
returns-clause-few c = told-most _ _ c.unwrap.result c.moves.ensures.within (sym c.unwrap.ensures ∙ c.moves.ensures.moves)
