-- The word with its numbers, and then the LF.
use Rattle.std.proofs.lemmas.Result.{err_from_is_err_and}
use Rattle.plan_commands.specs.CellVisitsText.{visit_line}
use Rattle.plan_commands.proofs.DepsPuts.{visit-parts, words-broken, words-put, feed-broken}
use Rattle.plan_commands.proofs.visits_text.put_visit.Goals as goal

pub returns-in_err-put_numbers-clause-err : goal.returns-in_err-put_numbers-clause-err
returns-in_err-put_numbers-clause-err g c =
    let p = err_from_is_err_and c.from_residual.result c.from_residual.ensures.1 in
    rw p.1 (words-broken g.W.Write.contents (visit_line c.args.visit) _ (visit-parts c.args.visit) _ _ c.in_err-put_numbers.ensures.err)

pub returns-clause-ok : goal.returns-clause-ok
returns-clause-ok g c =
    words-put g.W.Write.contents (visit_line c.args.visit) _ (visit-parts c.args.visit) _ _ _ c.put_byte.result c.in_ok-put_numbers.ensures.ok c.put_byte.ensures.ok

pub returns-clause-err : goal.returns-clause-err
returns-clause-err g c =
    feed-broken g.W.Write.contents (visit_line c.args.visit) _ (visit-parts c.args.visit) _ _ _ c.put_byte.result c.in_ok-put_numbers.ensures.ok c.put_byte.ensures.err
