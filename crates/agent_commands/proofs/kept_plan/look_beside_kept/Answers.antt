-- What was read beside the tape lets the plan at hand by, or not.
use Rattle.std.proofs.Common.{ap, subst}
use Rattle.std.proofs.lemmas.Result.{MatchResult-weaker}
use Rattle.agent_commands.specs.KeptPlan.{IsKeptIn}
use Rattle.agent_commands.proofs.PlanLemmas.{not_let_by}
use Rattle.agent_commands.proofs.kept_plan.look_beside_kept.Goals as goal

pub returns : goal.returns
returns g c =
    let it = c.in_ok-kept.kept in
    let all = g.R.Reader.Read.remaining c.in_ok-file.file in
    let kept = subst (λ o. IsKeptIn o it.is_marked it.plan) (ap g.R.Reader.Read.remaining c.new.ensures.inner) c.in_ok-kept.ensures in
    MatchResult-weaker c.task_for.result c.task_for.ensures (λ task is. (all, c.in_ok-file.ensures, (it, kept, is)))
    (λ fault why. not_let_by g.R.ReadFiles.was_done all it c.args.plan.now c.args.has_record fault c.in_ok-file.ensures kept why)
