use Rattle.std.proofs.Common.{arith}
use Rattle.agent.specs.CountedTape.{length-counted_bytes}
use Rattle.agent.proofs.counted_tape.CountedTapeTape.len.Goals as goal

pub returns : goal.returns
returns c =
    let t = c.args.self.now in
    let part = t.part in
    let all = length-counted_bytes t.plan t.agent t.records t.torn (omega (arith, part)) in
    omega (arith, all)
