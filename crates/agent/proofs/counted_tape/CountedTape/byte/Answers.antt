use Rattle.std.proofs.Common.{◌%◌, get_or, sym, ap, ◌∙◌, arith}
use Rattle.agent.specs.CountedTape.{length-counted_bytes}
use Rattle.agent.proofs.CountedLemmas.{byte_of_record}
use Rattle.agent.proofs.counted_tape.CountedTape.byte.Goals as goal

pub due_record-requires : goal.due_record-requires
due_record-requires c =
    let t = c.args.self.now in
    let part = t.part in
    let all = length-counted_bytes t.plan t.agent t.records t.torn (omega (arith, part)) in
    let fits = t.in_room in
    let limit = t.limit in
    let there = c.requires in
    omega (arith, all, fits, limit, there)

pub returns : goal.returns
returns c =
    let t = c.args.self.now in
    let at = c.args.at in
    let part = t.part in
    let all = length-counted_bytes t.plan t.agent t.records t.torn (omega (arith, part)) in
    let there = c.requires in
    ap (λ r. get_or r (at % 10) 0) c.due_record.ensures ∙ sym (byte_of_record t.plan t.agent t.records t.torn at part (omega (arith, all, there)))
