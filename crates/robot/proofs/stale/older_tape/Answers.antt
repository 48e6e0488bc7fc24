-- The part is the agent's.
use Rattle.std.proofs.Common.{sym, ap, subst}
use Rattle.std.specs.Prelude.{MatchOption}
use Rattle.agent.specs.Agents.{state_of}
use Rattle.depgraph.specs.AgentParts.{IsPartOf}
use Rattle.robot.specs.Code.Telling.{IsMoreIn, IsNoMoreIn}
use Rattle.robot.proofs.StaleLemmas.{older-word}
use Rattle.robot.proofs.stale.older_tape.Goals as goal

pub returns : goal.returns
returns g c tt is =
    let a = c.args.agent.now in
    let bytes = c.args.message.now in
    let own = c.requires in
    let word = c.stale_word.ensures tt (subst (IsPartOf tt) (sym own) is) in
    let by_agent = subst (λ i. MatchOption c.stale_word.result (IsNoMoreIn tt i c.done.result bytes) (IsMoreIn tt i c.done.result bytes)) (ap (λ p. p.agent) own) word in
    let by_done = subst (λ n. MatchOption c.stale_word.result (IsNoMoreIn tt a.part.agent n bytes) (IsMoreIn tt a.part.agent n bytes)) c.done.ensures.finished_moves by_agent in
    older-word tt a.part.agent (state_of g.T.Tape.state a) bytes c.stale_word.result (sym c.if-is_broken.ensures) by_done
