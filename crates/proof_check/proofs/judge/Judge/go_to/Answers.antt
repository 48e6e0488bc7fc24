use Rattle.std.proofs.Common.{subst, sym}
use Rattle.proof_check.specs.Code.Trails.{IsTrail}
use Rattle.proof_check.proofs.TrailLemmas.{trail_added}
use Rattle.proof_check.proofs.judge.Judge.go_to.Goals as goal

pub returns-clause-trail : goal.returns-clause-trail
returns-clause-trail c = λ m tables trail.
    let ends = c.args.self.now.ends.items in
    let kept = c.in_ok-add.ensures.kept in
    c.look_anew.ensures.trail m tables
    (subst (λ k. IsTrail m ends c.add.new.self.demands.items k.items) (sym kept)
    (trail_added m ends c.go_back.new.self.demands.items c.add.new.self.demands.items _ c.go_back.new.self.kept.items c.in_ok-add.ensures.demands
    (c.go_back.ensures.trail m ends trail)))
