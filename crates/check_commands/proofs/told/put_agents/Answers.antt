-- Each turn puts the first of the agents that are left.
use Rattle.std.proofs.Common.{◌+◌, ◌∷◌, drop, get_or, subst, ap}
use Rattle.std.specs.Prelude.{decimal}
use Rattle.std.proofs.lemmas.List.{at_drop_more}
use Rattle.std.proofs.lemmas.Result.{err_from_is_err_and}
use Rattle.text_io.specs.Sink.{Leaves}
use Rattle.text_io.specs.Laws.Putting.{Leaves-less, Leaves-broken}
use Rattle.text_io.specs.Text.{separated}
use Rattle.check_commands.proofs.told.put_agents.Goals as goal

pub returns-in_err-put_number_after-clause-err : goal.returns-in_err-put_number_after-clause-err
returns-in_err-put_number_after-clause-err g c =
    let p = err_from_is_err_and c.from_residual.result c.from_residual.ensures.1 in
    let at = c.loop-agent.agent-index in
    let put = separated c.args.separator in
    let first = c.args.separator ∷ decimal (get_or c.args.agents.now at 0) in
    let left = put (drop (at + 1) c.args.agents.now) in
    let next = subst (Leaves g.W.Write.contents _ _ _) (at_drop_more put c.args.agents.now at 0 c.loop-agent-test.true) c.loop-agent.invariant in
    rw p.1 (Leaves-broken g.W.Write.contents _ _ _ _ first left _ next (ap (λ n. c.args.separator ∷ decimal n) c.from.ensures) c.in_err-put_number_after.ensures.err)

pub loop-agent-preserved : goal.loop-agent-preserved
loop-agent-preserved g c =
    let at = c.loop-agent.agent-index in
    let put = separated c.args.separator in
    let first = c.args.separator ∷ decimal (get_or c.args.agents.now at 0) in
    let left = put (drop (at + 1) c.args.agents.now) in
    let next = subst (Leaves g.W.Write.contents _ _ _) (at_drop_more put c.args.agents.now at 0 c.loop-agent-test.true) c.loop-agent.invariant in
    Leaves-less g.W.Write.contents _ _ _ _ first left _ next (ap (λ n. c.args.separator ∷ decimal n) c.from.ensures) c.in_ok-put_number_after.ensures.ok
