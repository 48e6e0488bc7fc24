-- Each turn puts the first of the lines that are left.
use Rattle.std.proofs.Common.{◌+◌, drop, subst, refl}
use Rattle.std.specs.List.{flat_map}
use Rattle.std.proofs.lemmas.List.{at_drop_more}
use Rattle.std.proofs.lemmas.Result.{err_from_is_err_and}
use Rattle.text_io.specs.Sink.{Leaves}
use Rattle.text_io.specs.Laws.Putting.{Leaves-less, Leaves-broken}
use Rattle.fleet_commands.specs.StatusText.{status_line}
use Rattle.fleet_commands.proofs.status_line.put_all.Goals as goal

pub returns-in_err-put_line-clause-err : goal.returns-in_err-put_line-clause-err
returns-in_err-put_line-clause-err g c =
    let p = err_from_is_err_and c.from_residual.result c.from_residual.ensures.1 in
    let at = c.loop-line.line-index in
    let left = flat_map (status_line c.args.json) (drop (at + 1) c.args.lines.now) in
    let next = subst (Leaves g.W.Write.contents _ _ _) (at_drop_more (flat_map (status_line c.args.json)) c.args.lines.now at _ c.loop-line-test.true) c.loop-line.invariant in
    rw p.1 (Leaves-broken g.W.Write.contents _ _ _ _ _ left _ next refl c.in_err-put_line.ensures.err)

pub loop-line-preserved : goal.loop-line-preserved
loop-line-preserved g c =
    let at = c.loop-line.line-index in
    let left = flat_map (status_line c.args.json) (drop (at + 1) c.args.lines.now) in
    let next = subst (Leaves g.W.Write.contents _ _ _) (at_drop_more (flat_map (status_line c.args.json)) c.args.lines.now at _ c.loop-line-test.true) c.loop-line.invariant in
    Leaves-less g.W.Write.contents _ _ _ _ _ left _ next refl c.in_ok-put_line.ensures.ok
