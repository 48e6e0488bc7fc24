use Rattle.std.proofs.Common.{◌∙◌, ap, take}
use Rattle.proof_check.proofs.TrailLemmas.{trail_taken}
use Rattle.proof_check.proofs.trail.Trail.go_back.Goals as goal

pub returns-clause-trail : goal.returns-clause-trail
returns-clause-trail c = λ m ends trail.
    trail_taken m ends c.args.self.now.demands.items c.truncate.new.self.items c.args.count c.forget.new.self.kept.items c.requires
    (c.truncate.ensures.items ∙ ap (λ l. take c.args.count l.items) c.forget.ensures.demands) (c.forget.ensures.kept m ends trail)
