use Rattle.std.proofs.Common.{arith}
use Rattle.model.specs.declared.event.Event.TheVariants.{Say}
use Rattle.executor.proofs.GoesLemmas.{no-agent}
use Rattle.executor.proofs.runner.Runner.say.Goals as goal

pub returns-then-agent-len-clause-said : goal.returns-then-agent-len-clause-said
returns-then-agent-len-clause-said c h stands =
    no-agent c.args.self.now h (Say c.args.agent) stands (let past = c.if-agent-len.true in let count = c.len.ensures in let same = c.self.view_is in rw (← same) (omega (arith, past, count)))
