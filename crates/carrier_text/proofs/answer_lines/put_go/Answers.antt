-- Each turn puts the first of the cells that are left.
use Rattle.std.proofs.Common.{◌+◌, ◌≤◌, [], ◌∷◌, length, drop, refl, ap, codes, subst, arith}
use Rattle.std.proofs.lemmas.List.{drop_all}
use Rattle.std.proofs.lemmas.Result.{err_from_is_err_and}
use Rattle.text_io.specs.Sink.{Leaves}
use Rattle.text_io.specs.Text.{line_feed}
use Rattle.text_io.specs.Laws.Putting.{Leaves-less, Leaves-broken, Puts-last, Breaks-last, Breaks-text}
use Rattle.carrier_text.proofs.WayLemmas.{way_left, next_cell}
use Rattle.carrier_text.proofs.answer_lines.put_go.Goals as goal

pub returns-in_err-put-clause-err : goal.returns-in_err-put-clause-err
returns-in_err-put-clause-err g c =
    let p = err_from_is_err_and c.from_residual.result c.from_residual.ensures.1 in
    rw p.1 (Breaks-text g.W.Write.contents _ _ (codes "go") (way_left c.args.cells.now) _ refl c.in_err-put.ensures.err)

pub returns-in_err-put_numbers-clause-err : goal.returns-in_err-put_numbers-clause-err
returns-in_err-put_numbers-clause-err g c =
    let p = err_from_is_err_and c.from_residual-in_err-put_numbers.result c.from_residual-in_err-put_numbers.ensures.1 in
    let i = c.loop-cell.cell-index in
    let next = subst (Leaves g.W.Write.contents _ _ _) (next_cell c.args.cells.now i _ c.loop-cell-test.true) c.loop-cell.invariant in
    let breaks = rw (c.from.ensures, c.from-in-loop-cell.ensures) at c.in_err-put_numbers.ensures.err in
    rw p.1 (Leaves-broken g.W.Write.contents _ _ _ _ _ (way_left (drop (i + 1) c.args.cells.now)) _ next refl breaks)

pub loop-cell-preserved : goal.loop-cell-preserved
loop-cell-preserved g c =
    let i = c.loop-cell.cell-index in
    let next = subst (Leaves g.W.Write.contents _ _ _) (next_cell c.args.cells.now i _ c.loop-cell-test.true) c.loop-cell.invariant in
    let puts = rw (c.from.ensures, c.from-in-loop-cell.ensures) at c.in_ok-put_numbers.ensures.ok in
    Leaves-less g.W.Write.contents _ _ _ _ _ (way_left (drop (i + 1) c.args.cells.now)) _ next refl puts

pub returns-clause-ok : goal.returns-clause-ok
returns-clause-ok g c =
    let past : length c.args.cells.now ≤ c.loop-cell.cell-index = omega arith in
    let none = ap way_left (drop_all c.loop-cell.cell-index c.args.cells.now past) in
    Puts-last g.W.Write.contents _ _ _ _ (line_feed ∷ []) _ c.put-2.result (subst (Leaves g.W.Write.contents _ _ _) none c.loop-cell.invariant) refl c.put-2.ensures.ok

pub returns-clause-err : goal.returns-clause-err
returns-clause-err g c =
    let past : length c.args.cells.now ≤ c.loop-cell.cell-index = omega arith in
    let none = ap way_left (drop_all c.loop-cell.cell-index c.args.cells.now past) in
    Breaks-last g.W.Write.contents _ _ _ _ (line_feed ∷ []) _ c.put-2.result (subst (Leaves g.W.Write.contents _ _ _) none c.loop-cell.invariant) refl c.put-2.ensures.err
