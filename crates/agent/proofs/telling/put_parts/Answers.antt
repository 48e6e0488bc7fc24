use Rattle.std.proofs.Common.{ap, ◌∙◌, ◌++◌}
use Rattle.agent.specs.Code.Told.{told_entries}
use Rattle.std.proofs.lemmas.Result.{on_ok_weaker}
use Rattle.agent.proofs.PutLemmas.{put_parts}
use Rattle.agent.proofs.telling.put_parts.Goals as goal

pub returns-clause-put : goal.returns-clause-put
returns-clause-put c =
    on_ok_weaker c.put_counters-3.result (put_parts c.args.entries.now.items c.put_counters.new.entries.items c.put_counters-2.new.entries.items c.put_counters-3.new.entries.items c.args.own
    c.args.below.now c.args.above.now
    (c.in_ok-put_counters.ensures.put ∙ ap (λ l. l ++ told_entries c.args.below.now) c.reserve.ensures.items) c.in_ok-put_counters-2.ensures.put) c.put_counters-3.ensures.put
