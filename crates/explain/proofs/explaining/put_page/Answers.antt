-- The page, and then what is held back.
use Rattle.std.proofs.Common.{[]}
use Rattle.explain.proofs.GoingOn.{goes_on, goes_on_twice}
use Rattle.explain.proofs.explaining.put_page.Goals as goal

pub returns-clause-goes_on : goal.returns-clause-goes_on
returns-clause-goes_on g c =
    let first = c.in_ok-put.ensures.ok in
    let last = goes_on g.E.Write.contents _ _ [] c.hand_on.result c.hand_on.ensures.ok c.hand_on.ensures.err in
    goes_on_twice _ _ _ (first.sent, first.appended) last
