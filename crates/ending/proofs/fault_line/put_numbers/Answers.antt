-- Each turn puts the first of the numbers that are left.
use Rattle.std.proofs.Common.{◌+◌, drop, subst, refl}
use Rattle.std.proofs.lemmas.List.{at_drop_more}
use Rattle.std.proofs.lemmas.Result.{err_from_is_err_and}
use Rattle.text_io.specs.Text.{spaced_numbers}
use Rattle.text_io.specs.Sink.{Leaves}
use Rattle.text_io.specs.Laws.Putting.{Leaves-less, Leaves-broken}
use Rattle.ending.proofs.fault_line.put_numbers.Goals as goal

pub returns-in_err-put_number_after-clause-err : goal.returns-in_err-put_number_after-clause-err
returns-in_err-put_number_after-clause-err g c =
    let p = err_from_is_err_and c.from_residual.result c.from_residual.ensures.1 in
    let at = c.loop-number.number-index in
    let left = spaced_numbers (drop (at + 1) c.args.numbers.now) in
    let next = subst (Leaves g.E.Write.contents _ _ _) (at_drop_more spaced_numbers c.args.numbers.now at 0 c.loop-number-test.true) c.loop-number.invariant in
    rw p.1 (Leaves-broken g.E.Write.contents _ _ _ _ _ left _ next refl c.in_err-put_number_after.ensures.err)

pub loop-number-preserved : goal.loop-number-preserved
loop-number-preserved g c =
    let at = c.loop-number.number-index in
    let left = spaced_numbers (drop (at + 1) c.args.numbers.now) in
    let next = subst (Leaves g.E.Write.contents _ _ _) (at_drop_more spaced_numbers c.args.numbers.now at 0 c.loop-number-test.true) c.loop-number.invariant in
    Leaves-less g.E.Write.contents _ _ _ _ _ left _ next refl c.in_ok-put_number_after.ensures.ok
