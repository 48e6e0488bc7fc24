use Rattle.std.proofs.Common.{arith}
use Rattle.scenario.proofs.TrimLemmas.{without_return-front, without_return-whole}
use Rattle.scenario.proofs.fields.without_return.Goals as goal

pub returns-then-last-eq13 : goal.returns-then-last-eq13
returns-then-last-eq13 c = without_return-front c.args.line.now (omega arith) c.if-last-eq13.true

pub returns-else-last-eq13 : goal.returns-else-last-eq13
returns-else-last-eq13 c = without_return-whole c.args.line.now (omega arith) c.if-last-eq13.false
