use Rattle.std.proofs.Common.{subst, sym}
use Rattle.optimality.specs.Constraints.{constraints_of}
use Rattle.optimality.specs.Walkers.{CostsAtLeast}
use Rattle.proof_check.specs.Code.Trails.{IsTrail}
use Rattle.proof_check.proofs.judge.Judge.look_at.Goals as goal

pub returns-clause-trail : goal.returns-clause-trail
returns-clause-trail c = λ m tables trail.
    let ends = c.args.self.now.ends.items in
    let same = c.in_ok-found.ensures.trail in
    c.in_ok-keep.ensures.trail m ends (subst (λ t. IsTrail m ends t.demands.items t.kept.items) (sym same) trail)
    (λ own there. subst (λ t. CostsAtLeast m own (constraints_of t.demands.items c.args.agent) c.in_ok-found.found.cost) (sym same)
    (c.in_ok-found.ensures.least m own tables there (c.cost_of-from.ensures m own trail there)))
