use Rattle.std.proofs.Common.{sym, ap, subst, ◌∙◌}
use Rattle.agent.specs.Code.Taking.{TakesTelling}
use Rattle.agent.specs.Reading.{telling_of, IsReadAs}
use Rattle.agent.specs.Tellings.{IsInRange}
use Rattle.agent.proofs.TakingLemmas.{hears-told, same-telling}
use Rattle.agent.proofs.agent.Agent.hear.Goals as goal

pub returns-in-Ok-Two-clause-hears : goal.returns-in-Ok-Two-clause-hears
returns-in-Ok-Two-clause-hears g c tt is =
    let told = c.in-Ok-Two.told in
    let reads = subst (λ m. IsReadAs m c.args.bytes.now) c.in-Ok-Two.field-0-is c.in-Ok-Two.ensures.reads in
    let in_range = subst (λ m. IsInRange (telling_of m)) c.in-Ok-Two.field-0-is c.in-Ok-Two.ensures.in_range in
    hears-told g.T.Tape.state tt c.args.self.now c.take_all.new.self c.args.bytes.now told c.take_all.result (sym (ap (λ a. a.broken) c.self.view_is) ∙ c.if-self.false) in_range reads
    (subst (λ t. TakesTelling g.T.Tape.state tt c.args.self.now c.take_all.new.self t c.take_all.result) (same-telling told _ _ _ c.plan.ensures c.from.ensures c.entries.ensures.entries)
    (c.take_all.ensures tt is))
