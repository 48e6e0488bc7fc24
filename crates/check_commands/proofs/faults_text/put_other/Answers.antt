-- What separates, and then the fault.
use Rattle.std.proofs.Common.{[], ◌∷◌, ◌++◌, refl}
use Rattle.std.specs.Prelude.{if◌then◌else◌}
use Rattle.std.proofs.lemmas.Result.{err_from_is_err_and}
use Rattle.text_io.specs.Laws.Putting.{Leaves-all, Leaves-less, Leaves-broken, Puts-last, Breaks-last}
use Rattle.check_commands.specs.Code.Listing.{told_text}
use Rattle.check_commands.specs.FaultsText.{comma, of_plan}
use Rattle.check_commands.proofs.FaultsLemmas.{other-parts}
use Rattle.check_commands.proofs.faults_text.put_other.Goals as goal

pub returns-in_err-put-clause-err : goal.returns-in_err-put-clause-err
returns-in_err-put-clause-err g c =
    let p = err_from_is_err_and c.from_residual.result c.from_residual.ensures.1 in
    let before = if c.args.json then comma ∷ [] else [] in
    let fault = told_text c.args.json (of_plan c.args.fault) in
    let all = Leaves-all g.W.Write.contents _ _ (before ++ fault) (other-parts c.args.json (of_plan c.args.fault)) in
    rw p.1 (Leaves-broken g.W.Write.contents _ _ _ _ before fault _ all c.separator.ensures c.in_err-put.ensures.err)

pub returns-clause-ok : goal.returns-clause-ok
returns-clause-ok g c =
    let before = if c.args.json then comma ∷ [] else [] in
    let fault = told_text c.args.json (of_plan c.args.fault) in
    let all = Leaves-all g.W.Write.contents _ _ (before ++ fault) (other-parts c.args.json (of_plan c.args.fault)) in
    let less = Leaves-less g.W.Write.contents _ _ _ _ before fault _ all c.separator.ensures c.in_ok-put.ensures.ok in
    Puts-last g.W.Write.contents _ _ _ _ fault _ c.put_told.result less refl c.put_told.ensures.ok

pub returns-clause-err : goal.returns-clause-err
returns-clause-err g c =
    let before = if c.args.json then comma ∷ [] else [] in
    let fault = told_text c.args.json (of_plan c.args.fault) in
    let all = Leaves-all g.W.Write.contents _ _ (before ++ fault) (other-parts c.args.json (of_plan c.args.fault)) in
    let less = Leaves-less g.W.Write.contents _ _ _ _ before fault _ all c.separator.ensures c.in_ok-put.ensures.ok in
    Breaks-last g.W.Write.contents _ _ _ _ fault _ c.put_told.result less refl c.put_told.ensures.err
