-- The word and the step, the agents, and then the LF.
use Rattle.std.proofs.Common.{[], ◌∷◌, ◌++◌, refl}
use Rattle.std.specs.Prelude.{codes}
use Rattle.std.proofs.lemmas.Result.{err_from_is_err_and}
use Rattle.text_io.specs.Text.{line_feed, spaced_numbers}
use Rattle.text_io.specs.Laws.Putting.{Leaves-all, Leaves-less, Leaves-broken, Puts-last, Breaks-last}
use Rattle.plan_commands.proofs.DepsPuts.{said, rotation-parts}
use Rattle.plan_commands.proofs.deps_text.put_rotation.Goals as goal

pub returns-in_err-put_number-clause-err : goal.returns-in_err-put_number-clause-err
returns-in_err-put_number-clause-err g c =
    let p = err_from_is_err_and c.from_residual.result c.from_residual.ensures.1 in
    let first = said (codes "rotation ") c.args.step in
    let left = spaced_numbers c.args.agents.now ++ line_feed ∷ [] in
    let all = Leaves-all g.W.Write.contents _ _ (first ++ left) (rotation-parts (record { step = c.args.step; agents = c.args.agents.now })) in
    rw p.1 (Leaves-broken g.W.Write.contents _ _ _ _ first left _ all refl c.in_err-put_number.ensures.err)

pub returns-in_err-put_agents-clause-err : goal.returns-in_err-put_agents-clause-err
returns-in_err-put_agents-clause-err g c =
    let p = err_from_is_err_and c.from_residual-in_err-put_agents.result c.from_residual-in_err-put_agents.ensures.1 in
    let first = said (codes "rotation ") c.args.step in
    let left = spaced_numbers c.args.agents.now ++ line_feed ∷ [] in
    let all = Leaves-all g.W.Write.contents _ _ (first ++ left) (rotation-parts (record { step = c.args.step; agents = c.args.agents.now })) in
    let less = Leaves-less g.W.Write.contents _ _ _ _ first left _ all refl c.in_ok-put_number.ensures.ok in
    rw p.1 (Leaves-broken g.W.Write.contents _ _ _ _ (spaced_numbers c.args.agents.now) (line_feed ∷ []) _ less refl c.in_err-put_agents.ensures.err)

pub returns-clause-ok : goal.returns-clause-ok
returns-clause-ok g c =
    let first = said (codes "rotation ") c.args.step in
    let left = spaced_numbers c.args.agents.now ++ line_feed ∷ [] in
    let all = Leaves-all g.W.Write.contents _ _ (first ++ left) (rotation-parts (record { step = c.args.step; agents = c.args.agents.now })) in
    let less = Leaves-less g.W.Write.contents _ _ _ _ first left _ all refl c.in_ok-put_number.ensures.ok in
    let last = Leaves-less g.W.Write.contents _ _ _ _ (spaced_numbers c.args.agents.now) (line_feed ∷ []) _ less refl c.in_ok-put_agents.ensures.ok in
    Puts-last g.W.Write.contents _ _ _ _ (line_feed ∷ []) _ c.put_byte.result last refl c.put_byte.ensures.ok

pub returns-clause-err : goal.returns-clause-err
returns-clause-err g c =
    let first = said (codes "rotation ") c.args.step in
    let left = spaced_numbers c.args.agents.now ++ line_feed ∷ [] in
    let all = Leaves-all g.W.Write.contents _ _ (first ++ left) (rotation-parts (record { step = c.args.step; agents = c.args.agents.now })) in
    let less = Leaves-less g.W.Write.contents _ _ _ _ first left _ all refl c.in_ok-put_number.ensures.ok in
    let last = Leaves-less g.W.Write.contents _ _ _ _ (spaced_numbers c.args.agents.now) (line_feed ∷ []) _ less refl c.in_ok-put_agents.ensures.ok in
    Breaks-last g.W.Write.contents _ _ _ _ (line_feed ∷ []) _ c.put_byte.result last refl c.put_byte.ensures.err
