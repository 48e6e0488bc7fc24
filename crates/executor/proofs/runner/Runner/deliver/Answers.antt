use Rattle.std.proofs.Common.{arith}
use Rattle.model.specs.declared.event.Event.TheVariants.{Deliver}
use Rattle.executor.proofs.GoesLemmas.{no-agent}
use Rattle.executor.proofs.DeliverLemmas.{no-message-on}
use Rattle.executor.proofs.runner.Runner.deliver.Goals as goal

pub returns-then-agent-len-clause-heard : goal.returns-then-agent-len-clause-heard
returns-then-agent-len-clause-heard c h stands =
    no-agent c.args.self.now h (Deliver c.args.agent c.args.message) stands (let past = c.if-agent-len.true in let count = c.len.ensures in let same = c.self.view_is in rw (← same)
    (omega (arith, past, count)))

pub returns-then-message-count-clause-heard : goal.returns-then-message-count-clause-heard
returns-then-message-count-clause-heard c h stands =
    no-message-on c.args.self.now h stands c.args.agent (let past = c.if-agent-len.false in let count = c.len.ensures in let same = c.self.view_is in rw (← same) (omega (arith, past, count)))
    c.args.message (let past = c.if-message-count.true in let count = c.count.ensures.count in let same = c.self.view_is in rw (← same) (omega (arith, past, count)))
