use Rattle.std.proofs.Common.{length, ap, arith}
use Rattle.agent.proofs.message.Told.count.Goals as goal

pub overflow_cast-result : goal.overflow_cast-result
overflow_cast-result c =
    let few = c.entries.ensures.whole.in_range.count in
    let same = ap length c.entries.ensures.entries in
    let count = c.count.ensures in
    omega (arith, few, same, count)
