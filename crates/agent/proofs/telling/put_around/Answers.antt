use Rattle.std.proofs.lemmas.Result.{on_ok_weaker}
use Rattle.agent.proofs.TellLemmas.{puts_around}
use Rattle.agent.proofs.telling.put_around.Goals as goal

pub returns : goal.returns
returns c =
    on_ok_weaker c.put_known-3.result
    (λ puts_above. puts_around c.args.bytes.now.items c.put_known.new.bytes.items c.put_known-2.new.bytes.items c.put_known-3.new.bytes.items c.args.own c.args.below.now c.args.above.now
    c.in_ok-put_known.ensures c.in_ok-put_known-2.ensures puts_above)
    c.put_known-3.ensures
