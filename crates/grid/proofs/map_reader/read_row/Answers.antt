-- The characters of a row, a run at a time, and then its end.
use Rattle.std.proofs.Common.{◌≡◌, ◌+◌, ◌≤◌, [], ◌++◌, length, refl, sym, ap, subst, ◌∙◌, arith, append_assoc, append-nil, length-append}
use Rattle.std.specs.Prelude.{◌&&◌}
use Rattle.std.specs.List.{list_all}
use Rattle.std.proofs.lemmas.List.Folds.{list_all-append}
use Rattle.std.proofs.lemmas.Result.{err_from_is_err_and}
use Rattle.grid.specs.Terrain.{is_terrain}
use Rattle.text_io.specs.Source.{Takes}
use Rattle.text_io.specs.Laws.Taking.{Takes-same, Takes-trans, Takes-then_none}
use Rattle.grid.proofs.RowTaken.{length_zero, number_is, row_ended, row_at_end, row_failed, row_long, row_stop, refused_after}
use Rattle.grid.proofs.map_reader.read_row.Goals as goal

pub loop-count-init : goal.loop-count-init
loop-count-init g c = ([], Takes-same g.R.Read.remaining _, refl, omega arith, refl, sym (append-nil c.args.characters.now.items))

pub returns-in_err-run : goal.returns-in_err-run
returns-in_err-run g c =
    let p = err_from_is_err_and c.from_residual.result c.from_residual.ensures.1 in
    rw (p.1, p.2) (λ rows skipped e. refused_after g.R.Read.remaining _ _ _ c.loop-count.invariant.0 rows skipped c.in_err-run.field-0.0 c.args.width c.loop-count.invariant.1 c.in_err-run.ensures)

pub returns-then-run-eq0 : goal.returns-then-run-eq0
returns-then-run-eq0 g c = λ rows skipped e.
    let inv = c.loop-count.invariant in
    let run = c.in_ok-run.ensures in
    let zero_run = c.if-run-eq0.true in
    let none : length run.1 ≡ 0 = run.2 ∙ zero_run in
    let taken = Takes-then_none g.R.Read.remaining _ _ _ inv.0 inv.1 (subst (Takes g.R.Read.remaining _ _) (length_zero run.1 none) run.5) in
    row_stop g.R.Read.remaining _ _ _ inv.0 taken inv.4 c.args.width rows c.loop-count.count skipped c.args.number c.row_fault.result inv.2 c.loop-count-test.true
    (number_is c.args.number skipped e) (run.6 zero_run) c.row_fault.ensures

pub loop-count-preserved : goal.loop-count-preserved
loop-count-preserved g c =
    let inv = c.loop-count.invariant in
    let run = c.in_ok-run.ensures in
    let most = run.0 in
    let below = c.loop-count-test.true in
    let fits : c.loop-count.count + c.in_ok-run.run' ≤ c.args.width = omega arith in (
      inv.0 ++ run.1,
      Takes-trans g.R.Read.remaining _ _ _ inv.0 run.1 inv.1 run.5,
      length-append inv.0 run.1 ∙ ap (λ n. n + length run.1) inv.2 ∙ ap (λ n. c.loop-count.count + n) run.2,
      fits,
      list_all-append is_terrain inv.0 run.1 ∙ ap (λ t. t && list_all is_terrain run.1) inv.4 ∙ run.3,
      run.4 ∙ ap (λ l. l ++ run.1) inv.5 ∙ append_assoc c.args.characters.now.items inv.0 run.1,
    )

pub returns-in-Line : goal.returns-in-Line
returns-in-Line g c =
    let inv = c.loop-count.invariant in
    let same = inv.2 in
    let most = inv.3 in
    let all = c.loop-count-test.false in
    let count : length inv.0 ≡ c.args.width = omega arith in
    (inv.0, inv.5, row_ended g.R.Read.remaining _ _ _ inv.0 inv.1 inv.4 c.args.width count c.in-Line.ensures)

pub returns-in-Input : goal.returns-in-Input
returns-in-Input g c =
    let inv = c.loop-count.invariant in
    let same = inv.2 in
    let most = inv.3 in
    let all = c.loop-count-test.false in
    let count : length inv.0 ≡ c.args.width = omega arith in
    (inv.0, inv.5, row_at_end g.R.Read.remaining _ _ _ inv.0 inv.1 inv.4 c.args.width count c.requires c.in-Input.ensures)

pub returns-in-Other : goal.returns-in-Other
returns-in-Other g c = λ rows skipped e.
    let inv = c.loop-count.invariant in
    let same = inv.2 in
    let most = inv.3 in
    let all = c.loop-count-test.false in
    let count : length inv.0 ≡ c.args.width = omega arith in
    row_long g.R.Read.remaining _ _ _ inv.0 inv.1 inv.4 c.args.width rows skipped c.args.number count (number_is c.args.number skipped e) c.in-Other.ensures

pub returns-in-Failure : goal.returns-in-Failure
returns-in-Failure g c = λ rows skipped e.
    let inv = c.loop-count.invariant in
    let same = inv.2 in
    let most = inv.3 in
    let count : length inv.0 ≤ c.args.width = omega arith in
    row_failed g.R.Read.remaining _ _ _ inv.0 inv.1 inv.4 c.args.width rows count c.in-Failure.ensures
