-- The head, the step, the agents, and then the end.
use Rattle.std.proofs.Common.{◌∷◌, ◌++◌, ap, refl}
use Rattle.std.specs.Prelude.{decimal}
use Rattle.std.proofs.lemmas.Result.{err_from_is_err_and}
use Rattle.text_io.specs.Text.{space, separated}
use Rattle.text_io.specs.Laws.Putting.{Leaves-all, Leaves-less, Leaves-broken, Puts-last, Breaks-last}
use Rattle.check_commands.proofs.ToldLemmas.{turn-parts}
use Rattle.check_commands.proofs.told.put_turn.Goals as goal

pub returns-in_err-put-clause-err : goal.returns-in_err-put-clause-err
returns-in_err-put-clause-err g c =
    let p = err_from_is_err_and c.from_residual.result c.from_residual.ensures.1 in
    let r = c.args.rotation.now in
    let end = c.args.end.now in
    let agents = separated space r.agents.items in
    let head = c.args.head.now in
    let all = Leaves-all g.W.Write.contents _ _ (head ++ ((space ∷ decimal r.step) ++ (agents ++ end))) (turn-parts head r.step r.agents.items end) in
    rw p.1 (Leaves-broken g.W.Write.contents _ _ _ _ head ((space ∷ decimal r.step) ++ (agents ++ end)) _ all refl c.in_err-put.ensures.err)

pub returns-in_err-put_number_after-clause-err : goal.returns-in_err-put_number_after-clause-err
returns-in_err-put_number_after-clause-err g c =
    let p = err_from_is_err_and c.from_residual-in_err-put_number_after.result c.from_residual-in_err-put_number_after.ensures.1 in
    let r = c.args.rotation.now in
    let end = c.args.end.now in
    let agents = separated space r.agents.items in
    let head = c.args.head.now in
    let all = Leaves-all g.W.Write.contents _ _ (head ++ ((space ∷ decimal r.step) ++ (agents ++ end))) (turn-parts head r.step r.agents.items end) in
    let step = Leaves-less g.W.Write.contents _ _ _ _ head ((space ∷ decimal r.step) ++ (agents ++ end)) _ all refl c.in_ok-put.ensures.ok in
    rw p.1 (Leaves-broken g.W.Write.contents _ _ _ _ (space ∷ decimal r.step) (agents ++ end) _ step (ap (λ n. space ∷ decimal n) c.from.ensures) c.in_err-put_number_after.ensures.err)

pub returns-in_err-put_agents-clause-err : goal.returns-in_err-put_agents-clause-err
returns-in_err-put_agents-clause-err g c =
    let p = err_from_is_err_and c.from_residual-in_err-put_agents.result c.from_residual-in_err-put_agents.ensures.1 in
    let r = c.args.rotation.now in
    let end = c.args.end.now in
    let agents = separated space r.agents.items in
    let head = c.args.head.now in
    let all = Leaves-all g.W.Write.contents _ _ (head ++ ((space ∷ decimal r.step) ++ (agents ++ end))) (turn-parts head r.step r.agents.items end) in
    let step = Leaves-less g.W.Write.contents _ _ _ _ head ((space ∷ decimal r.step) ++ (agents ++ end)) _ all refl c.in_ok-put.ensures.ok in
    let others = Leaves-less g.W.Write.contents _ _ _ _ (space ∷ decimal r.step) (agents ++ end) _ step (ap (λ n. space ∷ decimal n) c.from.ensures) c.in_ok-put_number_after.ensures.ok in
    rw p.1 (Leaves-broken g.W.Write.contents _ _ _ _ agents end _ others (ap (separated space) c.deref.ensures.value) c.in_err-put_agents.ensures.err)

pub returns-clause-ok : goal.returns-clause-ok
returns-clause-ok g c =
    let r = c.args.rotation.now in
    let end = c.args.end.now in
    let agents = separated space r.agents.items in
    let head = c.args.head.now in
    let all = Leaves-all g.W.Write.contents _ _ (head ++ ((space ∷ decimal r.step) ++ (agents ++ end))) (turn-parts head r.step r.agents.items end) in
    let step = Leaves-less g.W.Write.contents _ _ _ _ head ((space ∷ decimal r.step) ++ (agents ++ end)) _ all refl c.in_ok-put.ensures.ok in
    let others = Leaves-less g.W.Write.contents _ _ _ _ (space ∷ decimal r.step) (agents ++ end) _ step (ap (λ n. space ∷ decimal n) c.from.ensures) c.in_ok-put_number_after.ensures.ok in
    let last = Leaves-less g.W.Write.contents _ _ _ _ agents end _ others (ap (separated space) c.deref.ensures.value) c.in_ok-put_agents.ensures.ok in
    Puts-last g.W.Write.contents _ _ _ _ end _ c.put-2.result last refl c.put-2.ensures.ok

pub returns-clause-err : goal.returns-clause-err
returns-clause-err g c =
    let r = c.args.rotation.now in
    let end = c.args.end.now in
    let agents = separated space r.agents.items in
    let head = c.args.head.now in
    let all = Leaves-all g.W.Write.contents _ _ (head ++ ((space ∷ decimal r.step) ++ (agents ++ end))) (turn-parts head r.step r.agents.items end) in
    let step = Leaves-less g.W.Write.contents _ _ _ _ head ((space ∷ decimal r.step) ++ (agents ++ end)) _ all refl c.in_ok-put.ensures.ok in
    let others = Leaves-less g.W.Write.contents _ _ _ _ (space ∷ decimal r.step) (agents ++ end) _ step (ap (λ n. space ∷ decimal n) c.from.ensures) c.in_ok-put_number_after.ensures.ok in
    let last = Leaves-less g.W.Write.contents _ _ _ _ agents end _ others (ap (separated space) c.deref.ensures.value) c.in_ok-put_agents.ensures.ok in
    Breaks-last g.W.Write.contents _ _ _ _ end _ c.put-2.result last refl c.put-2.ensures.err
