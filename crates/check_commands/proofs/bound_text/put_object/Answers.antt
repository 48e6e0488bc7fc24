-- The comma, and then the object.
use Rattle.std.proofs.Common.{◌++◌, refl}
use Rattle.std.proofs.lemmas.Result.{err_from_is_err_and}
use Rattle.text_io.specs.Laws.Putting.{Leaves-all, Leaves-less, Leaves-broken, Puts-last, Breaks-last}
use Rattle.check_commands.specs.BoundCommand.{agent_bound_json}
use Rattle.check_commands.specs.Code.Bounds.{comma_if}
use Rattle.check_commands.proofs.BoundLemmas.{object-pieces}
use Rattle.ending.specs.Laws.Pieces.{says}
use Rattle.check_commands.proofs.bound_text.put_object.Goals as goal

pub returns-in_err-put-clause-err : goal.returns-in_err-put-clause-err
returns-in_err-put-clause-err g c =
    let p = err_from_is_err_and c.from_residual.result c.from_residual.ensures.1 in
    let object = agent_bound_json (c.args.cost, c.args.bound) in
    let all = Leaves-all g.W.Write.contents _ _ (comma_if c.args.follows ++ object) refl in
    rw p.1 (Leaves-broken g.W.Write.contents _ _ _ _ (comma_if c.args.follows) object _ all c.separator.ensures c.in_err-put.ensures.err)

pub returns-clause-ok : goal.returns-clause-ok
returns-clause-ok g c =
    let object = agent_bound_json (c.args.cost, c.args.bound) in
    let all = Leaves-all g.W.Write.contents _ _ (comma_if c.args.follows ++ object) refl in
    let less = Leaves-less g.W.Write.contents _ _ _ _ (comma_if c.args.follows) object _ all c.separator.ensures c.in_ok-put.ensures.ok in
    let cost = says c.new.result _ _ _ c.new.ensures c.from.ensures in
    let bound = says c.new-2.result _ _ _ c.new-2.ensures c.from-2.ensures in
    let is = object-pieces (c.args.cost, c.args.bound) c.new.result c.new-2.result cost bound in
    Puts-last g.W.Write.contents _ _ _ _ object _ c.put_ended.result less is c.put_ended.ensures.ok

pub returns-clause-err : goal.returns-clause-err
returns-clause-err g c =
    let object = agent_bound_json (c.args.cost, c.args.bound) in
    let all = Leaves-all g.W.Write.contents _ _ (comma_if c.args.follows ++ object) refl in
    let less = Leaves-less g.W.Write.contents _ _ _ _ (comma_if c.args.follows) object _ all c.separator.ensures c.in_ok-put.ensures.ok in
    let cost = says c.new.result _ _ _ c.new.ensures c.from.ensures in
    let bound = says c.new-2.result _ _ _ c.new-2.ensures c.from-2.ensures in
    let is = object-pieces (c.args.cost, c.args.bound) c.new.result c.new-2.result cost bound in
    Breaks-last g.W.Write.contents _ _ _ _ object _ c.put_ended.result less is c.put_ended.ensures.err
