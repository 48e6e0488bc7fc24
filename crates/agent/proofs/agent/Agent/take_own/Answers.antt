use Rattle.std.proofs.Common.{Ok, sym, ap, subst, ◌∙◌}
use Rattle.std.specs.Prelude.{slice_get, unwrap_or}
use Rattle.model.specs.Messages.{own_message}
use Rattle.agent.specs.Code.Taking.{TakesTelling}
use Rattle.agent.proofs.TakingLemmas.{own-raises, own-passes, taken}
use Rattle.agent.proofs.agent.Agent.take_own.Goals as goal
use Rattle.depgraph.specs.AgentParts.{IsPartOf}
use Rattle.depgraph.specs.Laws.AgentParts.{moves-told}

pub returns : goal.returns
returns g c tt is =
    let sets = c.in_ok-kept.ensures.raised in
    let own = subst (λ a. IsPartOf tt a.part) (sym c.self.view_is) is in
    let none = own-passes tt c.args.finished.plan c.args.finished.from c.args.finished.done c.in-Some.moves (c.if-finished-number.false ∙ c.number.ensures.number ∙ own.number)
    (c.in-Some.ensures.moves ∙ ap (slice_get c.self.inside.part.moves) c.from.ensures ∙ moves-told tt c.self.inside.part own c.args.finished.from) c.if-finished-moves.false in
    subst (λ a. TakesTelling g.T.Tape.state tt a
    (record { part = c.self.inside.part; tape = c.self.inside.tape; heard = c.raise.new.self; broken = c.self.inside.broken })
    (record { plan = c.args.finished.plan; message = own_message c.args.finished.from c.args.finished.done }) (Ok (c.args.finished.from, c.in_ok-kept.kept))) c.self.view_is
    (taken g.T.Tape.state tt _ c.raise.new.self (record { plan = c.args.finished.plan; message = own_message c.args.finished.from c.args.finished.done }) none c.in_ok-kept.kept
    (c.in_ok-kept.ensures.kept ∙ sym (ap (λ o. unwrap_or o 0) sets.this_agent)) (own-raises _ _ _ _ sets))
