-- Each turn puts the first of the faults that are left.
use Rattle.std.proofs.Common.{◌+◌, drop, map, subst, refl}
use Rattle.std.proofs.lemmas.List.{at_drop_more}
use Rattle.std.proofs.lemmas.Result.{err_from_is_err_and}
use Rattle.text_io.specs.Sink.{Leaves}
use Rattle.text_io.specs.Laws.Putting.{Leaves-less, Leaves-broken}
use Rattle.check_commands.specs.Code.Listing.{others_text}
use Rattle.check_commands.specs.FaultsText.{of_plan}
use Rattle.check_commands.proofs.faults_text.put_others.Goals as goal

pub returns-in_err-put_other-clause-err : goal.returns-in_err-put_other-clause-err
returns-in_err-put_other-clause-err g c =
    let p = err_from_is_err_and c.from_residual.result c.from_residual.ensures.1 in
    let at = c.loop-fault.fault-index in
    let left = others_text c.args.json (map of_plan (drop (at + 1) c.args.faults.now)) in
    let next = subst (Leaves g.W.Write.contents _ _ _)
    (at_drop_more (λ l. others_text c.args.json (map of_plan l)) c.args.faults.now at _ c.loop-fault-test.true) c.loop-fault.invariant in
    rw p.1 (Leaves-broken g.W.Write.contents _ _ _ _ _ left _ next refl c.in_err-put_other.ensures.err)

pub loop-fault-preserved : goal.loop-fault-preserved
loop-fault-preserved g c =
    let at = c.loop-fault.fault-index in
    let left = others_text c.args.json (map of_plan (drop (at + 1) c.args.faults.now)) in
    let next = subst (Leaves g.W.Write.contents _ _ _)
    (at_drop_more (λ l. others_text c.args.json (map of_plan l)) c.args.faults.now at _ c.loop-fault-test.true) c.loop-fault.invariant in
    Leaves-less g.W.Write.contents _ _ _ _ _ left _ next refl c.in_ok-put_other.ensures.ok
