-- Each turn puts the first of the lines that are left, and the end hands on what is held back.
use Rattle.std.proofs.Common.{◌+◌, ◌≤◌, [], drop, length, refl, subst, arith}
use Rattle.std.proofs.lemmas.List.{at_drop_more, at_drop_all}
use Rattle.std.proofs.lemmas.Result.{err_from_is_err_and}
use Rattle.model.specs.declared.visit.Visit.{Visit}
use Rattle.text_io.specs.Sink.{Leaves}
use Rattle.text_io.specs.Laws.Putting.{Leaves-less, Leaves-broken, Puts-last, Breaks-last}
use Rattle.plan_commands.specs.CellVisitsText.{visits_text}
use Rattle.plan_commands.proofs.visits_text.put_visits.Goals as goal

abbrev no_visit : Visit
no_visit = record { agent = 0; index = 0; time = 0 }

pub returns-in_err-put_visit-clause-err : goal.returns-in_err-put_visit-clause-err
returns-in_err-put_visit-clause-err g c =
    let p = err_from_is_err_and c.from_residual.result c.from_residual.ensures.1 in
    let at = c.loop-visit.visit-index in
    let left = visits_text (drop (at + 1) c.args.visits.now) in
    let next = subst (Leaves g.W.Write.contents _ _ _) (at_drop_more visits_text c.args.visits.now at no_visit c.loop-visit-test.true) c.loop-visit.invariant in
    rw p.1 (Leaves-broken g.W.Write.contents _ _ _ _ _ left _ next refl c.in_err-put_visit.ensures.err)

pub loop-visit-preserved : goal.loop-visit-preserved
loop-visit-preserved g c =
    let at = c.loop-visit.visit-index in
    let left = visits_text (drop (at + 1) c.args.visits.now) in
    let next = subst (Leaves g.W.Write.contents _ _ _) (at_drop_more visits_text c.args.visits.now at no_visit c.loop-visit-test.true) c.loop-visit.invariant in
    Leaves-less g.W.Write.contents _ _ _ _ _ left _ next refl c.in_ok-put_visit.ensures.ok

pub returns-clause-ok : goal.returns-clause-ok
returns-clause-ok g c =
    let at = c.loop-visit.visit-index in
    let over = c.loop-visit-test.false in
    let past : length c.args.visits.now ≤ at = omega (arith, over) in
    let all = subst (Leaves g.W.Write.contents _ _ _) (at_drop_all visits_text c.args.visits.now at past) c.loop-visit.invariant in
    Puts-last g.W.Write.contents _ _ _ _ [] _ c.hand_on.result all refl c.hand_on.ensures.ok

pub returns-clause-err : goal.returns-clause-err
returns-clause-err g c =
    let at = c.loop-visit.visit-index in
    let over = c.loop-visit-test.false in
    let past : length c.args.visits.now ≤ at = omega (arith, over) in
    let all = subst (Leaves g.W.Write.contents _ _ _) (at_drop_all visits_text c.args.visits.now at past) c.loop-visit.invariant in
    Breaks-last g.W.Write.contents _ _ _ _ [] _ c.hand_on.result all refl c.hand_on.ensures.err
