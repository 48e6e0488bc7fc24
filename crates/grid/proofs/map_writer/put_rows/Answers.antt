-- Each turn puts the first of the rows that are left.
use Rattle.std.proofs.Common.{◌≡◌, ◌+◌, ◌-◌, ◌*◌, [], ◌∷◌, ◌++◌, length, take, drop, sym, ap, ◌∙◌, arith, append_assoc}
use Rattle.std.proofs.lemmas.Result.{err_from_is_err_and}
use Rattle.text_io.specs.Text.{line_feed, ended}
use Rattle.grid.specs.MapText.{rows_of}
use Rattle.text_io.specs.Laws.Putting.{Puts-same, Puts-trans, Breaks-text-after}
use Rattle.grid.proofs.RowLemmas.{rows_of-next, length-drop_row}
use Rattle.grid.proofs.map_writer.put_rows.Goals as goal

pub loop-row-init : goal.loop-row-init
loop-row-init g c =
    let all : c.args.height - 0 ≡ c.args.height = omega arith in
    ([], Puts-same g.W.Write.contents _, ap (λ n. ended (rows_of n c.args.width c.args.characters.now)) all, c.requires ∙ ap (λ n. c.args.width * n) (sym all))

pub returns-in_err-put_line-clause-err : goal.returns-in_err-put_line-clause-err
returns-in_err-put_line-clause-err g c =
    let p = err_from_is_err_and c.from_residual.result c.from_residual.ensures.1 in
    let inv = c.loop-row.invariant in
    let line = c.split_at.result.0.now ++ line_feed ∷ [] in
    let others = rows_of (c.args.height - (c.loop-row._row + 1)) c.args.width (drop c.args.width c.loop-row.rest.now) in
    let next = rows_of-next c.args.height c.args.width c.loop-row._row c.loop-row.rest.now c.loop-row-test.true in
    let front : line ++ ended others ≡ ended (rows_of (c.args.height - c.loop-row._row) c.args.width c.loop-row.rest.now)
    = ap (λ l. (l ++ line_feed ∷ []) ++ ended others) c.split_at.ensures.front ∙ ap ended (sym next) in
    rw p.1 (Breaks-text-after g.W.Write.contents _ _ _ inv.0 line (ended others) _
    (append_assoc inv.0 line (ended others) ∙ ap (λ l. inv.0 ++ l) front ∙ inv.2) inv.1 c.in_err-put_line.ensures.err)

pub loop-row-preserved : goal.loop-row-preserved
loop-row-preserved g c =
    let inv = c.loop-row.invariant in
    let line = c.split_at.result.0.now ++ line_feed ∷ [] in
    let after = c.split_at.result.1.now in
    let others = rows_of (c.args.height - (c.loop-row._row + 1)) c.args.width after in
    let next = rows_of-next c.args.height c.args.width c.loop-row._row c.loop-row.rest.now c.loop-row-test.true in
    let front : line ++ ended others ≡ ended (rows_of (c.args.height - c.loop-row._row) c.args.width c.loop-row.rest.now)
    = ap (λ l. (l ++ line_feed ∷ []) ++ ended others) c.split_at.ensures.front
    ∙ ap (λ l. ended (take c.args.width c.loop-row.rest.now ∷ rows_of (c.args.height - (c.loop-row._row + 1)) c.args.width l)) c.split_at.ensures.back
    ∙ ap ended (sym next) in (
      inv.0 ++ line,
      Puts-trans g.W.Write.contents _ _ _ inv.0 line inv.1 c.in_ok-put_line.ensures.ok,
      append_assoc inv.0 line (ended others) ∙ ap (λ l. inv.0 ++ l) front ∙ inv.2,
      ap length c.split_at.ensures.back ∙ length-drop_row c.args.height c.args.width c.loop-row._row c.loop-row.rest.now c.loop-row-test.true inv.3,
    )
