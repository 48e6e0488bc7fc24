use Rattle.proof_check.proofs.TrailLemmas.{known_holds}
use Rattle.proof_check.proofs.judge.Judge.cost_of.Goals as goal

pub returns-in-Some : goal.returns-in-Some
returns-in-Some c = λ m own trail there.
    known_holds m c.args.self.now.ends.items c.args.self.now.trail.demands.items c.in-Some.kept.now c.args.agent own c.in-Some.ensures.agent
    (c.in-Some.ensures.hold m c.args.self.now.ends.items trail) there
