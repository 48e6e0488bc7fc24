-- The agent's path has one cell more than moves.
use Rattle.std.proofs.Common.{◌-◌, slice_index_or, Some, arith, sym, ap, ◌∙◌}
use Rattle.std.specs.Prelude.{slice_get}
use Rattle.depgraph.specs.Code.Shares.{count_in}
use Rattle.depgraph.specs.Laws.AgentParts.{told-most}
use Rattle.depgraph.proofs.ShareLemmas.{count-told, no-count}
use Rattle.depgraph.proofs.part.Part.moves.Goals as goal

pub overflow_cast-result : goal.overflow_cast-result
overflow_cast-result c =
    let ends = c.self.inside.ends.now in
    let most = told-most _ c.args.agent (count_in ends c.args.agent) c.self.invariant.of_graph (sym (count-told ends c.args.agent c.if-agent-self.true)) in
    let begin = c.begin_in.ensures in
    omega (arith, most, begin)

pub returns-then-agent-self-clause-moves : goal.returns-then-agent-self-clause-moves
returns-then-agent-self-clause-moves c =
    let ends = c.self.inside.ends.now in
    ap (λ b. Some (slice_index_or ends c.args.agent 0 - b - 1)) c.begin_in.ensures ∙ sym (count-told ends c.args.agent c.if-agent-self.true) ∙ ap (λ p. slice_get p.moves c.args.agent) c.self.view_is

pub returns-else-agent-self-clause-moves : goal.returns-else-agent-self-clause-moves
returns-else-agent-self-clause-moves c =
    let ends = c.self.inside.ends.now in
    let past = c.if-agent-self.false in
    sym (no-count ends c.args.agent (omega (arith, past))) ∙ ap (λ p. slice_get p.moves c.args.agent) c.self.view_is
