-- One demand more, which concerns the agent or not.
use Rattle.std.proofs.Common.{◌∙◌, ap, sym}
use Rattle.proof_check.proofs.TrailLemmas.{asked_more, asked_same}
use Rattle.proof_check.proofs.asking.put_constraints.Goals as goal
use Rattle.proof_check.proofs.asking.put_constraints.Goals.{then-concerns+in_ok-push, else-concerns}

pub loop-demand-preserved : goal.loop-demand-preserved
loop-demand-preserved c =
    let demands = c.args.demands.now in
    let i = c.loop-demand.demand-index in
    let before = c.loop-demand.asked.items in
    elim c.if-concerns.branch [
      | then-concerns+in_ok-push w ↦
          asked_more demands i c.args.agent _ before c.if-concerns.asked.items c.loop-demand-test.true c.loop-demand.invariant
          (sym c.concerns.ensures ∙ w.if-concerns.true) (ap (λ v. v.items) w.asked-is ∙ w.in_ok-push.ensures.items)
      | else-concerns w ↦
          asked_same demands i c.args.agent _ before c.if-concerns.asked.items c.loop-demand-test.true c.loop-demand.invariant
          (sym c.concerns.ensures ∙ w.if-concerns.false) (ap (λ v. v.items) w.asked-is)
    ]
