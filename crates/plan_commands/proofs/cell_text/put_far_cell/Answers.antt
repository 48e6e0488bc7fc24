-- The column, and then the row.
use Rattle.std.proofs.Common.{[], ◌∷◌, ◌++◌, append-nil, refl, sym}
use Rattle.std.specs.Prelude.{codes, decimal}
use Rattle.std.proofs.lemmas.Result.{err_from_is_err_and}
use Rattle.text_io.specs.Text.{spaced_numbers}
use Rattle.text_io.specs.Laws.Putting.{Leaves-all, Leaves-less, Leaves-broken, Puts-last, Breaks-last}
use Rattle.plan_commands.proofs.cell_text.put_far_cell.Goals as goal

pub returns-in_err-put_number_after-clause-err : goal.returns-in_err-put_number_after-clause-err
returns-in_err-put_number_after-clause-err g c =
    let p = err_from_is_err_and c.from_residual.result c.from_residual.ensures.1 in
    let first = codes " " ++ decimal c.args.cell.x in
    let left = spaced_numbers (c.args.cell.y ∷ []) in
    let all = Leaves-all g.W.Write.contents _ _ (first ++ left) refl in
    rw p.1 (Leaves-broken g.W.Write.contents _ _ _ _ first left _ all refl c.in_err-put_number_after.ensures.err)

pub returns-clause-ok : goal.returns-clause-ok
returns-clause-ok g c =
    let first = codes " " ++ decimal c.args.cell.x in
    let left = spaced_numbers (c.args.cell.y ∷ []) in
    let all = Leaves-all g.W.Write.contents _ _ (first ++ left) refl in
    let less = Leaves-less g.W.Write.contents _ _ _ _ first left _ all refl c.in_ok-put_number_after.ensures.ok in
    Puts-last g.W.Write.contents _ _ _ _ left _ c.put_number_after-2.result less (sym (append-nil (codes " " ++ decimal c.args.cell.y))) c.put_number_after-2.ensures.ok

pub returns-clause-err : goal.returns-clause-err
returns-clause-err g c =
    let first = codes " " ++ decimal c.args.cell.x in
    let left = spaced_numbers (c.args.cell.y ∷ []) in
    let all = Leaves-all g.W.Write.contents _ _ (first ++ left) refl in
    let less = Leaves-less g.W.Write.contents _ _ _ _ first left _ all refl c.in_ok-put_number_after.ensures.ok in
    Breaks-last g.W.Write.contents _ _ _ _ left _ c.put_number_after-2.result less (sym (append-nil (codes " " ++ decimal c.args.cell.y))) c.put_number_after-2.ensures.err
