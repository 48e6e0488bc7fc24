-- The line is that of the fault.
use Rattle.check_commands.proofs.EndingLemmas.{refused_by_line}
use Rattle.check_commands.proofs.verdicts.refuse.Goals as goal

pub returns-in_default-None : goal.returns-in_default-None
returns-in_default-None g c =
    let rejected = c.args.rejected.now in
    rw c.in_default-None.is-1 (refused_by_line g.W.Write.contents c.args.terms.now.json c.args.map.now rejected.plan rejected.fault _ _ _ c.in_default-None.not-OutOfMemory-0 c.reject.ensures)
