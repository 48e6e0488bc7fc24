-- The word with its numbers, and then the LF.
use Rattle.std.proofs.lemmas.Result.{err_from_is_err_and}
use Rattle.model.specs.Dependency.{Need}
use Rattle.plan_commands.specs.DepsText.{need_line}
use Rattle.plan_commands.proofs.DepsPuts.{need-parts, words-broken, words-put, feed-broken}
use Rattle.plan_commands.proofs.deps_text.put_need.Goals as goal

pub returns-in_err-put_numbers-clause-err : goal.returns-in_err-put_numbers-clause-err
returns-in_err-put_numbers-clause-err g c =
    let p = err_from_is_err_and c.from_residual.result c.from_residual.ensures.1 in
    let n = c.in-Some in
    let need : Need = record { agent = n.other; count = n.count } in
    rw (p.1, n.is) (words-broken g.W.Write.contents (need_line c.args.agent c.args.k need) _ (need-parts c.args.agent c.args.k need) _ _ c.in_err-put_numbers.ensures.err)

pub returns-clause-ok : goal.returns-clause-ok
returns-clause-ok g c =
    let n = c.in-Some in
    let need : Need = record { agent = n.other; count = n.count } in
    rw n.is (words-put g.W.Write.contents (need_line c.args.agent c.args.k need) _ (need-parts c.args.agent c.args.k need) _ _ _ c.put_byte.result c.in_ok-put_numbers.ensures.ok
    c.put_byte.ensures.ok)

pub returns-clause-err : goal.returns-clause-err
returns-clause-err g c =
    let n = c.in-Some in
    let need : Need = record { agent = n.other; count = n.count } in
    rw n.is (feed-broken g.W.Write.contents (need_line c.args.agent c.args.k need) _ (need-parts c.args.agent c.args.k need) _ _ _ c.put_byte.result c.in_ok-put_numbers.ensures.ok
    c.put_byte.ensures.err)
