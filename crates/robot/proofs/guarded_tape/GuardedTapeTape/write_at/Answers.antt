-- The record is stored, and no note was taken of it.
use Rattle.std.proofs.Common.{inr, refl, subst}
use Rattle.std.specs.Prelude.{IsTrue}
use Rattle.robot.proofs.guarded_tape.GuardedTapeTape.write_at.Goals as goal

pub returns-then-not-take_note : goal.returns-then-not-take_note
returns-then-not-take_note g c =
    let counted = c.count_failure-then-not-take_note in
    inr (inr (record {
      allowed = subst (λ b. IsTrue b → g.G.Guard.has_allowed c.args.self.now.guard) c.if-not-holds.false c.holds.ensures refl;
      no_success = refl;
      stored = c.write_at.new.self;
      stores = c.in_ok-write_at.ensures;
      disk = counted.ensures.disk;
      kept = counted.ensures.kept;
      fails = counted.ensures.fails;
    }))
