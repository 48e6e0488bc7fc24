use Rattle.std.proofs.Common.{refl}
use Rattle.agent.proofs.CountedLemmas.{stored_behind, stored}
use Rattle.agent.proofs.counted_tape.CountedTapeTape.write_at.Goals as goal

pub returns-in-None : goal.returns-in-None
returns-in-None c =
    let t = c.args.self.now in
    let due = c.is_due.ensures.0 c.if-not-is_due.false in
    stored t _ c.args.at c.args.bytes.now due.0 due.1 c.in-None.is (stored_behind t.plan t.agent t.records t.torn) c.in-None.is refl refl (record { plan_is = refl; agent_is = refl })
