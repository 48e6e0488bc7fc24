use Rattle.agent.proofs.record.says_due.Goals as goal

pub returns-then-same : goal.returns-then-same
returns-then-same c = (λ yes. (c.same.ensures.0 c.if-same.true, c.same-then-same.ensures.0 yes), λ says. c.same-then-same.ensures.1 says.1)
