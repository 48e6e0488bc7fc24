-- The first, and then the others.
use Rattle.std.proofs.Common.{◌++◌, ap, refl, sym}
use Rattle.std.specs.Prelude.{decimal}
use Rattle.std.proofs.lemmas.Result.{err_from_is_err_and}
use Rattle.text_io.specs.Text.{separated}
use Rattle.text_io.specs.Laws.Putting.{Leaves-all, Leaves-less, Leaves-broken, Puts-last, Breaks-last}
use Rattle.check_commands.specs.FaultsText.{comma, listed_numbers}
use Rattle.ending.specs.Laws.Pieces.{says}
use Rattle.check_commands.proofs.ToldLemmas.{number-piece}
use Rattle.check_commands.proofs.told.put_listed.Goals as goal

pub returns-in_err-put_pieces-clause-err : goal.returns-in_err-put_pieces-clause-err
returns-in_err-put_pieces-clause-err g c =
    let p = err_from_is_err_and c.from_residual.result c.from_residual.ensures.1 in
    let first = decimal c.in-Some.first.now in
    let others = separated comma c.in-Some.others.now in
    let all = Leaves-all g.W.Write.contents _ _ (first ++ others) (sym (ap listed_numbers c.in-Some.ensures.cases.0)) in
    let is = number-piece c.new.result _ (says c.new.result _ _ _ c.new.ensures c.from.ensures) in
    rw p.1 (Leaves-broken g.W.Write.contents _ _ _ _ first others _ all is c.in_err-put_pieces.ensures.err)

pub returns-clause-ok : goal.returns-clause-ok
returns-clause-ok g c =
    let first = decimal c.in-Some.first.now in
    let others = separated comma c.in-Some.others.now in
    let all = Leaves-all g.W.Write.contents _ _ (first ++ others) (sym (ap listed_numbers c.in-Some.ensures.cases.0)) in
    let is = number-piece c.new.result _ (says c.new.result _ _ _ c.new.ensures c.from.ensures) in
    let less = Leaves-less g.W.Write.contents _ _ _ _ first others _ all is c.in_ok-put_pieces.ensures.ok in
    Puts-last g.W.Write.contents _ _ _ _ others _ c.put_agents.result less refl c.put_agents.ensures.ok

pub returns-clause-err : goal.returns-clause-err
returns-clause-err g c =
    let first = decimal c.in-Some.first.now in
    let others = separated comma c.in-Some.others.now in
    let all = Leaves-all g.W.Write.contents _ _ (first ++ others) (sym (ap listed_numbers c.in-Some.ensures.cases.0)) in
    let is = number-piece c.new.result _ (says c.new.result _ _ _ c.new.ensures c.from.ensures) in
    let less = Leaves-less g.W.Write.contents _ _ _ _ first others _ all is c.in_ok-put_pieces.ensures.ok in
    Breaks-last g.W.Write.contents _ _ _ _ others _ c.put_agents.result less refl c.put_agents.ensures.err
