-- Each turn puts the first of the cells that are left.
use Rattle.std.proofs.Common.{◌+◌, drop, subst, refl}
use Rattle.std.proofs.lemmas.Result.{err_from_is_err_and}
use Rattle.text_io.specs.Sink.{Leaves}
use Rattle.text_io.specs.Laws.Putting.{Leaves-less, Leaves-broken}
use Rattle.text_io.specs.Text.{spaced_numbers}
use Rattle.plan_commands.specs.PathText.{numbers_of}
use Rattle.plan_commands.proofs.RowLemmas.{cells_next}
use Rattle.plan_commands.proofs.cell_text.put_far_cells.Goals as goal

pub returns-in_err-put_far_cell-clause-err : goal.returns-in_err-put_far_cell-clause-err
returns-in_err-put_far_cell-clause-err g c =
    let p = err_from_is_err_and c.from_residual.result c.from_residual.ensures.1 in
    let at = c.loop-cell.cell-index in
    let left = spaced_numbers (numbers_of (drop (at + 1) c.args.cells.now)) in
    let next = subst (Leaves g.W.Write.contents _ _ _) (cells_next c.args.cells.now at c.loop-cell-test.true) c.loop-cell.invariant in
    rw p.1 (Leaves-broken g.W.Write.contents _ _ _ _ _ left _ next refl c.in_err-put_far_cell.ensures.err)

pub loop-cell-preserved : goal.loop-cell-preserved
loop-cell-preserved g c =
    let at = c.loop-cell.cell-index in
    let left = spaced_numbers (numbers_of (drop (at + 1) c.args.cells.now)) in
    let next = subst (Leaves g.W.Write.contents _ _ _) (cells_next c.args.cells.now at c.loop-cell-test.true) c.loop-cell.invariant in
    Leaves-less g.W.Write.contents _ _ _ _ _ left _ next refl c.in_ok-put_far_cell.ensures.ok
