-- Each row is put behind those before it.
use Rattle.std.proofs.Common.{◌∙◌, Ok, Err, arith, subst}
use Rattle.std.proofs.lemmas.List.{length-take}
use Rattle.std.proofs.lemmas.Result.{err_from_is_err_and}
use Rattle.text_commands.specs.Code.Judging.{Judgement, PutsRow}
use Rattle.text_commands.proofs.RowsLemmas.{lines_length, put_next_row, rows_stopped, shows_more}
use Rattle.text_commands.proofs.rows_command.put_lines.Goals as goal

pub put_next-requires : goal.put_next-requires
put_next-requires g c =
    let put = c.loop-row.invariant.put in
    let lines = lines_length _ _ _ put.lines put.are_lines in
    let rows = put.is_tally.rows in
    let count = length-take c.loop-row.row-index c.args.rows.now in
    omega (arith, lines, rows, count)

pub returns-in_err-tally-clause-puts : goal.returns-in_err-tally-clause-puts
returns-in_err-tally-clause-puts g c =
    let p = err_from_is_err_and c.from_residual.result c.from_residual.ensures.1 in
    let i = c.loop-row.row-index in
    let row = subst (λ (j : Judgement). PutsRow g.W.Write.contents j c.row-item.result c.loop-row.number c.loop-row.tally c.loop-row.sink c.put_next.new.sink (Err c.in_err-tally.field-0.0))
    c.loop-row.invariant.same c.in_err-tally.ensures.puts in
    rw (p.1, p.2) (rows_stopped g.W.Write.contents c.args.judge.now c.args.rows.now _ _ i c.row-item.result _ _ _ _ _ c.loop-row.invariant.put c.loop-row-test.true c.row-item.is
    c.loop-row.invariant.number row)

pub loop-row-preserved : goal.loop-row-preserved
loop-row-preserved g c =
    let i = c.loop-row.row-index in
    let number = c.loop-row.invariant.number in
    let row = subst (λ (j : Judgement). PutsRow g.W.Write.contents j c.row-item.result c.loop-row.number c.loop-row.tally c.loop-row.sink c.put_next.new.sink (Ok c.in_ok-tally.tally))
    c.loop-row.invariant.same c.in_ok-tally.ensures.puts in
    record {
      same = c.put_next.ensures.same ∙ c.loop-row.invariant.same;
      number = omega (arith, number);
      put = put_next_row g.W.Write.contents c.args.judge.now c.args.rows.now _ _ i c.row-item.result _ _ _ _ _ c.loop-row.invariant.put c.loop-row-test.true c.row-item.is number row;
      shows = shows_more g.E.Write.contents _ _ _ _ c.loop-row.invariant.shows c.show_progress-in-loop-row.ensures;
    }
