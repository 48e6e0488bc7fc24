-- Each turn puts the line of a time and takes the agents on, and the end hands on what is held back.
use Rattle.std.proofs.Common.{◌≡◌, ◌+◌, ◌-◌, [], ◌∷◌, ◌++◌, ap, arith, refl, subst, ◌∙◌}
use Rattle.std.proofs.lemmas.Result.{err_from_is_err_and}
use Rattle.text_io.specs.Text.{line_feed, ended}
use Rattle.text_io.specs.Sink.{Leaves}
use Rattle.text_io.specs.Laws.Putting.{Leaves-all, Leaves-less, Leaves-broken, Puts-last, Breaks-last}
use Rattle.plan_commands.specs.PathText.{count_of_times, path_line, path_lines}
use Rattle.plan_commands.specs.Code.Rows.{row_at, rows_from}
use Rattle.plan_commands.proofs.RowLemmas.{count_few, rows_next, rows_over, start_row}
use Rattle.plan_commands.proofs.path_text.put_rows.Goals as goal

pub loop-time-init : goal.loop-time-init
loop-time-init g c =
    let courses = c.args.courses.now in
    let all : count_of_times courses - 0 ≡ count_of_times courses = omega arith in
    record {
      left = Leaves-all g.W.Write.contents _ _ _ (ap (λ n. ended (path_lines 0 (rows_from courses 0 n))) all);
      cells = c.requires.starts ∙ start_row courses;
      stretches = c.requires.stretches;
    }

pub returns-in_err-put_row-clause-err : goal.returns-in_err-put_row-clause-err
returns-in_err-put_row-clause-err g c =
    let p = err_from_is_err_and c.from_residual.result c.from_residual.ensures.1 in
    let courses = c.args.courses.now in
    let time = c.loop-time.time in
    let end = c.count_of_times-time-end.ensures in
    let less = c.loop-time-test.true in
    let line = path_line time (row_at courses time) ++ line_feed ∷ [] in
    let left = ended (path_lines (time + 1) (rows_from courses (time + 1) (count_of_times courses - (time + 1)))) in
    let next = subst (Leaves g.W.Write.contents _ _ _) (rows_next courses time (count_of_times courses) (omega (arith, less, end))) c.loop-time.invariant.left in
    rw p.1 (Leaves-broken g.W.Write.contents _ _ _ _ line left _ next (ap (λ cells. path_line time cells ++ line_feed ∷ []) c.loop-time.invariant.cells) c.in_err-put_row.ensures.err)

pub go_on-requires-clause-step : goal.go_on-requires-clause-step
go_on-requires-clause-step g c =
    let few = count_few c.args.courses.now c.requires.walked in
    let end = c.count_of_times-time-end.ensures in
    let less = c.loop-time-test.true in
    omega (arith, few, end, less)

pub loop-time-preserved : goal.loop-time-preserved
loop-time-preserved g c =
    let courses = c.args.courses.now in
    let time = c.loop-time.time in
    let end = c.count_of_times-time-end.ensures in
    let less = c.loop-time-test.true in
    let line = path_line time (row_at courses time) ++ line_feed ∷ [] in
    let left = ended (path_lines (time + 1) (rows_from courses (time + 1) (count_of_times courses - (time + 1)))) in
    let next = subst (Leaves g.W.Write.contents _ _ _) (rows_next courses time (count_of_times courses) (omega (arith, less, end))) c.loop-time.invariant.left in
    record {
      left = Leaves-less g.W.Write.contents _ _ _ _ line left _ next (ap (λ cells. path_line time cells ++ line_feed ∷ []) c.loop-time.invariant.cells) c.in_ok-put_row.ensures.ok;
      cells = c.go_on.ensures.cells;
      stretches = c.go_on.ensures.stretches;
    }

pub returns-clause-ok : goal.returns-clause-ok
returns-clause-ok g c =
    let courses = c.args.courses.now in
    let end = c.count_of_times-time-end.ensures in
    let over = c.loop-time-test.false in
    let all = subst (Leaves g.W.Write.contents _ _ _) (rows_over courses c.loop-time.time (count_of_times courses) (omega (arith, over, end))) c.loop-time.invariant.left in
    Puts-last g.W.Write.contents _ _ _ _ [] _ c.hand_on.result all refl c.hand_on.ensures.ok

pub returns-clause-err : goal.returns-clause-err
returns-clause-err g c =
    let courses = c.args.courses.now in
    let end = c.count_of_times-time-end.ensures in
    let over = c.loop-time-test.false in
    let all = subst (Leaves g.W.Write.contents _ _ _) (rows_over courses c.loop-time.time (count_of_times courses) (omega (arith, over, end))) c.loop-time.invariant.left in
    Breaks-last g.W.Write.contents _ _ _ _ [] _ c.hand_on.result all refl c.hand_on.ensures.err
