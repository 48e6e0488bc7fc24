-- Each turn puts the first of the lines that are left.
use Rattle.std.proofs.Common.{◌+◌, [], ◌∷◌, ◌++◌, drop, map, ap, subst}
use Rattle.std.proofs.lemmas.List.{at_drop_more}
use Rattle.std.proofs.lemmas.Result.{err_from_is_err_and}
use Rattle.text_io.specs.Text.{line_feed, ended}
use Rattle.scenario.specs.Query.{row_line}
use Rattle.text_io.specs.Sink.{Leaves}
use Rattle.text_io.specs.Laws.Putting.{Leaves-less, Leaves-broken}
use Rattle.scenario.proofs.scen_writer.put_rows.Goals as goal

pub returns-in_err-put_row-clause-err : goal.returns-in_err-put_row-clause-err
returns-in_err-put_row-clause-err g c =
    let p = err_from_is_err_and c.from_residual.result c.from_residual.ensures.1 in
    let row = c.row-item.result in
    let left = ended (map row_line (drop (c.loop-row.row-index + 1) c.args.rows.now)) in
    let next = subst (Leaves g.W.Write.contents _ _ _)
    (at_drop_more (λ qs. ended (map row_line qs)) c.args.rows.now c.loop-row.row-index row c.loop-row-test.true) c.loop-row.invariant in
    rw p.1 (Leaves-broken g.W.Write.contents _ _ _ _ _ left _ next (ap (λ q. row_line q ++ line_feed ∷ []) c.row-item.is) c.in_err-put_row.ensures.err)

pub loop-row-preserved : goal.loop-row-preserved
loop-row-preserved g c =
    let row = c.row-item.result in
    let left = ended (map row_line (drop (c.loop-row.row-index + 1) c.args.rows.now)) in
    let next = subst (Leaves g.W.Write.contents _ _ _)
    (at_drop_more (λ qs. ended (map row_line qs)) c.args.rows.now c.loop-row.row-index row c.loop-row-test.true) c.loop-row.invariant in
    Leaves-less g.W.Write.contents _ _ _ _ _ left _ next (ap (λ q. row_line q ++ line_feed ∷ []) c.row-item.is) c.in_ok-put_row.ensures.ok
