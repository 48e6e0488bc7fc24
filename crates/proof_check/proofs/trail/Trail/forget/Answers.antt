-- What is found under more demands goes, the newest first.
use Rattle.std.proofs.Common.{length, subst}
use Rattle.proof_check.specs.Code.Trails.{AreKeptWithin}
use Rattle.proof_check.proofs.TrailLemmas.{kept_front, trail_within}
use Rattle.proof_check.proofs.trail.Trail.forget.Goals as goal

pub found-preserved-in-Some : goal.found-preserved-in-Some
found-preserved-in-Some c = record {
  demands = c.found.invariant.demands;
  kept = λ m ends trail.
      let demands = c.args.self.now.demands.items in
      kept_front m ends demands (length demands) c.pop.new.self.items c.in-Some.kept
      (subst (AreKeptWithin m ends demands (length demands)) c.in-Some.ensures.items (c.found.invariant.kept m ends trail));
}

pub returns-clause-kept : goal.returns-clause-kept
returns-clause-kept c = λ m ends trail.
    trail_within m ends c.args.self.now.demands.items c.args.count c.found.self.kept.items (c.is_past.ensures.within c.found-test.false) (c.found.invariant.kept m ends trail)
