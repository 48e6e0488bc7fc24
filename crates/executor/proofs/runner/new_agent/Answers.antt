-- An agent opens an empty tape with room for all its moves.
use Rattle.std.proofs.Common.{◌≡◌, None, subst, sym, ◌∙◌, arith, rules}
use Rattle.std.specs.Prelude.{MatchOption}
use Rattle.model.specs.Timetable.{track_of}
use Rattle.agent.specs.Opening.{IsOpened, IsRefused}
use Rattle.depgraph.specs.Laws.AgentParts.{graphed-most}
use Rattle.depgraph.specs.AgentParts.{IsPartOf}
use Rattle.agent.specs.CountedTape.{counted_state, counted_reads}
use Rattle.executor.proofs.runner.new_agent.Goals as goal

pub new-tape-requires : goal.new-tape-requires
new-tape-requires c = (let most = graphed-most _ _ c.unwrap-moves.result c.moves.ensures.within (sym c.unwrap-moves.ensures ∙ c.moves.ensures.moves) in omega (arith, most))

pub unreachable-requires : goal.unreachable-requires
unreachable-requires c =
    let is = subst (λ o. MatchOption o (track_of c.args.graph.now c.args.id ≡ None) (λ p. IsPartOf c.args.graph.now p × (p.agent ≡ c.args.id))) c.unwrap-part.ensures c.part.ensures in
    let refused = subst (λ i. IsRefused counted_state counted_reads c.args.graph.now i c.new-tape.result c.in-Err.field-0.1 c.in-Err.field-0.0) is.1 (c.in-Err.ensures.refused c.args.graph.now is.0) in
    search rules

pub returns : goal.returns
returns c =
    let is = subst (λ o. MatchOption o (track_of c.args.graph.now c.args.id ≡ None) (λ p. IsPartOf c.args.graph.now p × (p.agent ≡ c.args.id))) c.unwrap-part.ensures c.part.ensures in
    let opened = subst (λ i. IsOpened counted_state counted_reads c.args.graph.now i c.new-tape.result c.in-Ok.agent) is.1 (c.in-Ok.ensures.opened c.args.graph.now is.0) in
    search rules
