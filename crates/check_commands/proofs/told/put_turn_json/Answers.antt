-- The step, the agents, and then the end.
use Rattle.std.proofs.Common.{◌++◌, ap, refl}
use Rattle.std.specs.Prelude.{codes}
use Rattle.std.proofs.lemmas.Result.{err_from_is_err_and}
use Rattle.text_io.specs.Laws.Putting.{Leaves-all, Leaves-less, Leaves-broken, Puts-last, Breaks-last}
use Rattle.depgraph.specs.Rotations.{turn_of}
use Rattle.check_commands.specs.FaultsText.{listed_numbers}
use Rattle.ending.specs.Laws.Pieces.{says}
use Rattle.check_commands.proofs.ToldLemmas.{head-pieces, object-parts, object_head}
use Rattle.check_commands.proofs.told.put_turn_json.Goals as goal

pub returns-in_err-put_ended-clause-err : goal.returns-in_err-put_ended-clause-err
returns-in_err-put_ended-clause-err g c =
    let p = err_from_is_err_and c.from_residual.result c.from_residual.ensures.1 in
    let turn = turn_of c.args.rotation.now in
    let agents = listed_numbers turn.agents in
    let all = Leaves-all g.W.Write.contents _ _ (object_head turn.step ++ (agents ++ codes "]}")) (object-parts turn) in
    let is = head-pieces c.new-step.result turn.step (says c.new-step.result _ _ _ c.new-step.ensures c.from.ensures) in
    rw p.1 (Leaves-broken g.W.Write.contents _ _ _ _ (object_head turn.step) (agents ++ codes "]}") _ all is c.in_err-put_ended.ensures.err)

pub returns-in_err-put_listed-clause-err : goal.returns-in_err-put_listed-clause-err
returns-in_err-put_listed-clause-err g c =
    let p = err_from_is_err_and c.from_residual-in_err-put_listed.result c.from_residual-in_err-put_listed.ensures.1 in
    let turn = turn_of c.args.rotation.now in
    let agents = listed_numbers turn.agents in
    let all = Leaves-all g.W.Write.contents _ _ (object_head turn.step ++ (agents ++ codes "]}")) (object-parts turn) in
    let is = head-pieces c.new-step.result turn.step (says c.new-step.result _ _ _ c.new-step.ensures c.from.ensures) in
    let head = Leaves-less g.W.Write.contents _ _ _ _ (object_head turn.step) (agents ++ codes "]}") _ all is c.in_ok-put_ended.ensures.ok in
    rw p.1 (Leaves-broken g.W.Write.contents _ _ _ _ agents (codes "]}") _ head (ap listed_numbers c.deref.ensures.value) c.in_err-put_listed.ensures.err)

pub returns-clause-ok : goal.returns-clause-ok
returns-clause-ok g c =
    let turn = turn_of c.args.rotation.now in
    let agents = listed_numbers turn.agents in
    let all = Leaves-all g.W.Write.contents _ _ (object_head turn.step ++ (agents ++ codes "]}")) (object-parts turn) in
    let is = head-pieces c.new-step.result turn.step (says c.new-step.result _ _ _ c.new-step.ensures c.from.ensures) in
    let head = Leaves-less g.W.Write.contents _ _ _ _ (object_head turn.step) (agents ++ codes "]}") _ all is c.in_ok-put_ended.ensures.ok in
    let listed = Leaves-less g.W.Write.contents _ _ _ _ agents (codes "]}") _ head (ap listed_numbers c.deref.ensures.value) c.in_ok-put_listed.ensures.ok in
    Puts-last g.W.Write.contents _ _ _ _ (codes "]}") _ c.put.result listed refl c.put.ensures.ok

pub returns-clause-err : goal.returns-clause-err
returns-clause-err g c =
    let turn = turn_of c.args.rotation.now in
    let agents = listed_numbers turn.agents in
    let all = Leaves-all g.W.Write.contents _ _ (object_head turn.step ++ (agents ++ codes "]}")) (object-parts turn) in
    let is = head-pieces c.new-step.result turn.step (says c.new-step.result _ _ _ c.new-step.ensures c.from.ensures) in
    let head = Leaves-less g.W.Write.contents _ _ _ _ (object_head turn.step) (agents ++ codes "]}") _ all is c.in_ok-put_ended.ensures.ok in
    let listed = Leaves-less g.W.Write.contents _ _ _ _ agents (codes "]}") _ head (ap listed_numbers c.deref.ensures.value) c.in_ok-put_listed.ensures.ok in
    Breaks-last g.W.Write.contents _ _ _ _ (codes "]}") _ c.put.result listed refl c.put.ensures.err
