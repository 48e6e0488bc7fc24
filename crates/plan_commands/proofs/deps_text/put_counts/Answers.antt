-- Four words with their numbers, and then the LF.
use Rattle.std.specs.Prelude.{codes}
use Rattle.std.proofs.lemmas.Result.{err_from_is_err_and}
use Rattle.plan_commands.proofs.DepsPuts.{said, counts-parts, first-broken, second-broken, third-broken, fourth-broken, line-put, line-broken}
use Rattle.plan_commands.proofs.deps_text.put_counts.Goals as goal

pub returns-in_err-put_number-clause-err : goal.returns-in_err-put_number-clause-err
returns-in_err-put_number-clause-err g c =
    let p = err_from_is_err_and c.from_residual.result c.from_residual.ensures.1 in
    let n = c.args.counts.now in
    rw p.1 (first-broken g.W.Write.contents (said (codes "agents ") c.args.agents) (said (codes " moves ") n.moves) (said (codes " needs ") n.needs) (said (codes " rotations ") c.args.rotations) _
    (counts-parts c.args.agents n.moves n.needs c.args.rotations) _ _ c.in_err-put_number.ensures.err)

pub returns-in_err-put_number-2-clause-err : goal.returns-in_err-put_number-2-clause-err
returns-in_err-put_number-2-clause-err g c =
    let p = err_from_is_err_and c.from_residual-in_err-put_number-2.result c.from_residual-in_err-put_number-2.ensures.1 in
    let n = c.args.counts.now in
    rw p.1 (second-broken g.W.Write.contents (said (codes "agents ") c.args.agents) (said (codes " moves ") n.moves) (said (codes " needs ") n.needs) (said (codes " rotations ") c.args.rotations) _
    (counts-parts c.args.agents n.moves n.needs c.args.rotations) _ _ _ c.in_ok-put_number.ensures.ok c.in_err-put_number-2.ensures.err)

pub returns-in_err-put_number-3-clause-err : goal.returns-in_err-put_number-3-clause-err
returns-in_err-put_number-3-clause-err g c =
    let p = err_from_is_err_and c.from_residual-in_err-put_number-3.result c.from_residual-in_err-put_number-3.ensures.1 in
    let n = c.args.counts.now in
    rw p.1 (third-broken g.W.Write.contents (said (codes "agents ") c.args.agents) (said (codes " moves ") n.moves) (said (codes " needs ") n.needs) (said (codes " rotations ") c.args.rotations) _
    (counts-parts c.args.agents n.moves n.needs c.args.rotations) _ _ _ _ c.in_ok-put_number.ensures.ok c.in_ok-put_number-2.ensures.ok c.in_err-put_number-3.ensures.err)

pub returns-in_err-put_number-4-clause-err : goal.returns-in_err-put_number-4-clause-err
returns-in_err-put_number-4-clause-err g c =
    let p = err_from_is_err_and c.from_residual-in_err-put_number-4.result c.from_residual-in_err-put_number-4.ensures.1 in
    let n = c.args.counts.now in
    rw p.1 (fourth-broken g.W.Write.contents (said (codes "agents ") c.args.agents) (said (codes " moves ") n.moves) (said (codes " needs ") n.needs) (said (codes " rotations ") c.args.rotations) _
    (counts-parts c.args.agents n.moves n.needs c.args.rotations) _ _ _ _ _ c.in_ok-put_number.ensures.ok c.in_ok-put_number-2.ensures.ok c.in_ok-put_number-3.ensures.ok
    c.in_err-put_number-4.ensures.err)

pub returns-clause-ok : goal.returns-clause-ok
returns-clause-ok g c =
    let n = c.args.counts.now in
    line-put g.W.Write.contents (said (codes "agents ") c.args.agents) (said (codes " moves ") n.moves) (said (codes " needs ") n.needs) (said (codes " rotations ") c.args.rotations) _
    (counts-parts c.args.agents n.moves n.needs c.args.rotations) _ _ _ _ _ _ c.put_byte.result c.in_ok-put_number.ensures.ok c.in_ok-put_number-2.ensures.ok c.in_ok-put_number-3.ensures.ok
    c.in_ok-put_number-4.ensures.ok c.put_byte.ensures.ok

pub returns-clause-err : goal.returns-clause-err
returns-clause-err g c =
    let n = c.args.counts.now in
    line-broken g.W.Write.contents (said (codes "agents ") c.args.agents) (said (codes " moves ") n.moves) (said (codes " needs ") n.needs) (said (codes " rotations ") c.args.rotations) _
    (counts-parts c.args.agents n.moves n.needs c.args.rotations) _ _ _ _ _ _ c.put_byte.result c.in_ok-put_number.ensures.ok c.in_ok-put_number-2.ensures.ok c.in_ok-put_number-3.ensures.ok
    c.in_ok-put_number-4.ensures.ok c.put_byte.ensures.err
