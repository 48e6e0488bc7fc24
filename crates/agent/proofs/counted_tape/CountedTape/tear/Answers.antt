use Rattle.std.proofs.Common.{◌+◌, ◌/◌, ◌%◌, ap, ◌∙◌}
use Rattle.agent.specs.CountedTape.{counted_bytes}
use Rattle.agent.proofs.CountedLemmas.{torn_behind}
use Rattle.agent.proofs.counted_tape.CountedTape.tear.Goals as goal

pub returns-clause-contents : goal.returns-clause-contents
returns-clause-contents c =
    let t = c.args.self.now in
    ap (λ k. counted_bytes t.plan t.agent (t.records + k / 10) (c.args.stored % 10)) c.from.ensures ∙ torn_behind t.plan t.agent t.records t.torn c.args.stored c.requires.most
