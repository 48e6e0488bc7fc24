use Rattle.std.proofs.Common.{rules, sym, arith}
use Rattle.agent.specs.CountedTape.{length-counted_bytes}
use Rattle.agent.proofs.CountedLemmas.{kept}
use Rattle.agent.proofs.counted_tape.CountedTape.refuse.Goals as goal

pub returns-clause-contents : goal.returns-clause-contents
returns-clause-contents c =
    let t = c.args.self.now in
    let part = t.part in
    let all = length-counted_bytes t.plan t.agent t.records t.torn (omega (arith, part)) in
    let within = c.requires.within in
    let past = c.requires.past in
    sym (kept t.plan t.agent t.records t.torn c.args.at part (omega (arith, all, within)) (omega (arith, all, past)))

pub returns-clause-failed : goal.returns-clause-failed
returns-clause-failed c = (let counted = c.saturating_add-self.ensures in search (rules, counted))
