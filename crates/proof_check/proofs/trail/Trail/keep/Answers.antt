-- What is kept last was found under all that is asked.
use Rattle.std.proofs.Common.{List, arith, subst, sym}
use Rattle.std.proofs.lemmas.List.{take_all}
use Rattle.optimality.specs.declared.constraint.Demand.{Demand}
use Rattle.optimality.specs.Constraints.{constraints_of}
use Rattle.optimality.specs.Walkers.{CostsAtLeast}
use Rattle.proof_check.specs.Code.Trails.{IsTrail}
use Rattle.proof_check.proofs.TrailLemmas.{kept_push}
use Rattle.proof_check.proofs.trail.Trail.keep.Goals as goal

pub returns-clause-trail : goal.returns-clause-trail
returns-clause-trail c = λ m ends trail least.
    let demands = c.args.self.now.demands.items in
    let all = c.args.self.now.demands.ok in
    let len = c.len-2.ensures in
    subst (IsTrail m ends demands) (sym c.in_ok-push.ensures.items)
    (kept_push m ends demands c.args.self.now.kept.items _ trail (omega (arith, all, len))
    (λ own there. subst (λ (l : List Demand). CostsAtLeast m own (constraints_of l c.args.agent) c.args.found.cost)
    (sym (take_all c.len-2.result demands (omega (arith, all, len)))) (least own there)))
