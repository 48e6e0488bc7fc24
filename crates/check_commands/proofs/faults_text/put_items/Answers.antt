-- The first, and then the others.
use Rattle.std.proofs.Common.{◌++◌, ap, map, refl, sym}
use Rattle.std.proofs.lemmas.Result.{err_from_is_err_and}
use Rattle.text_io.specs.Laws.Putting.{Leaves-all, Leaves-less, Leaves-broken, Puts-last, Breaks-last}
use Rattle.check_commands.specs.Code.Listing.{items_text, others_text, told_text}
use Rattle.check_commands.specs.FaultsText.{of_plan}
use Rattle.check_commands.proofs.faults_text.put_items.Goals as goal

pub returns-in_err-put_told-clause-err : goal.returns-in_err-put_told-clause-err
returns-in_err-put_told-clause-err g c =
    let p = err_from_is_err_and c.from_residual.result c.from_residual.ensures.1 in
    let first = told_text c.args.json (of_plan c.in-Some.first.now) in
    let others = others_text c.args.json (map of_plan c.in-Some.others.now) in
    let all = Leaves-all g.W.Write.contents _ _ (first ++ others) (sym (ap (λ faults. items_text c.args.json (map of_plan faults)) c.in-Some.ensures.cases.0)) in
    rw p.1 (Leaves-broken g.W.Write.contents _ _ _ _ first others _ all refl c.in_err-put_told.ensures.err)

pub returns-clause-ok : goal.returns-clause-ok
returns-clause-ok g c =
    let first = told_text c.args.json (of_plan c.in-Some.first.now) in
    let others = others_text c.args.json (map of_plan c.in-Some.others.now) in
    let all = Leaves-all g.W.Write.contents _ _ (first ++ others) (sym (ap (λ faults. items_text c.args.json (map of_plan faults)) c.in-Some.ensures.cases.0)) in
    let less = Leaves-less g.W.Write.contents _ _ _ _ first others _ all refl c.in_ok-put_told.ensures.ok in
    Puts-last g.W.Write.contents _ _ _ _ others _ c.put_others.result less refl c.put_others.ensures.ok

pub returns-clause-err : goal.returns-clause-err
returns-clause-err g c =
    let first = told_text c.args.json (of_plan c.in-Some.first.now) in
    let others = others_text c.args.json (map of_plan c.in-Some.others.now) in
    let all = Leaves-all g.W.Write.contents _ _ (first ++ others) (sym (ap (λ faults. items_text c.args.json (map of_plan faults)) c.in-Some.ensures.cases.0)) in
    let less = Leaves-less g.W.Write.contents _ _ _ _ first others _ all refl c.in_ok-put_told.ensures.ok in
    Breaks-last g.W.Write.contents _ _ _ _ others _ c.put_others.result less refl c.put_others.ensures.err
