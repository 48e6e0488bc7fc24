-- Each turn puts what the first of the moves that are left has.
use Rattle.std.proofs.Common.{◌+◌, ◌<◌, None, drop, length, get_or, ap, ◌∙◌, subst, arith}
use Rattle.std.specs.Prelude.{option_map}
use Rattle.std.proofs.lemmas.Result.{err_from_is_err_and}
use Rattle.text_io.specs.Text.{ended}
use Rattle.text_io.specs.Sink.{Leaves}
use Rattle.text_io.specs.Laws.Putting.{Leaves-less, Leaves-broken}
use Rattle.depgraph.specs.Routes.{asked}
use Rattle.plan_commands.specs.DepsText.{need_lines}
use Rattle.plan_commands.specs.Code.Dependencies.{need_text}
use Rattle.plan_commands.proofs.DepsLemmas.{needs-next, need-is}
use Rattle.plan_commands.proofs.deps_text.put_needs.Goals as goal

pub returns-in_err-put_need-clause-err : goal.returns-in_err-put_need-clause-err
returns-in_err-put_need-clause-err g c =
    let p = err_from_is_err_and c.from_residual.result c.from_residual.ensures.1 in
    let k = c.loop-k.k in
    let needs = c.args.part.now.needs in
    let within : k < length needs = omega arith in
    let left = ended (need_lines c.args.agent (k + 1) (drop (k + 1) needs)) in
    let next = subst (Leaves g.W.Write.contents _ _ _) (needs-next c.args.agent k needs within) c.loop-k.invariant in
    rw p.1 (Leaves-broken g.W.Write.contents _ _ _ _ (need_text c.args.agent k (option_map asked (get_or needs k None))) left _ next
    (ap (need_text c.args.agent k) (c.need.ensures.need ∙ need-is c.args.part.now.needs k within)) c.in_err-put_need.ensures.err)

pub loop-k-preserved : goal.loop-k-preserved
loop-k-preserved g c =
    let k = c.loop-k.k in
    let needs = c.args.part.now.needs in
    let within : k < length needs = omega arith in
    let left = ended (need_lines c.args.agent (k + 1) (drop (k + 1) needs)) in
    let next = subst (Leaves g.W.Write.contents _ _ _) (needs-next c.args.agent k needs within) c.loop-k.invariant in
    Leaves-less g.W.Write.contents _ _ _ _ (need_text c.args.agent k (option_map asked (get_or needs k None))) left _ next
    (ap (need_text c.args.agent k) (c.need.ensures.need ∙ need-is c.args.part.now.needs k within)) c.in_ok-put_need.ensures.ok
