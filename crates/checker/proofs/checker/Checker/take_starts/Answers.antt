-- Where nothing may be wrong all starts differ; else what is looked for says so, or finds the fault.
use Rattle.std.proofs.Common.{◌+◌, ◌<◌, sym, subst, ◌∙◌}
use Rattle.model.specs.Plan.{IsLeastFault}
use Rattle.checker.specs.Code.Squares.{wide_of}
use Rattle.checker.specs.Code.Crowd.{AreActTurns, AreMarksOf, AreOldMarks, first_mark}
use Rattle.checker.specs.Code.UnderWay.{AreUnderWay}
use Rattle.checker.specs.Code.Watching.{IsClean, IsSeen}
use Rattle.checker.proofs.MarkLemmas.{first_mark-some, old-none}
use Rattle.checker.proofs.UnderWayLemmas.{if_past}
use Rattle.checker.proofs.UnderWayStarts.{all_start, starts_wait, clean_at_start}
use Rattle.checker.proofs.checker.Checker.take_starts.Goals as goal

-- No square has a mark yet.
pub take_step-requires-clause-some : goal.take_step-requires-clause-some
take_step-requires-clause-some c = subst (λ n. 0 < n) (sym (c.new-turns.ensures.first ∙ c.first_mark.ensures)) (first_mark-some 1)

pub take_step-requires-clause-old : goal.take_step-requires-clause-old
take_step-requires-clause-old c =
    subst (λ n. AreOldMarks n c.args.walkers.now c.args.squares.now) (sym (c.new-turns.ensures.first ∙ c.first_mark.ensures))
    (old-none 1 c.args.walkers.now c.args.squares.now c.requires.unmarked)

pub returns-then-take_step-clause-seen : goal.returns-then-take_step-clause-seen
returns-then-take_step-clause-seen c =
    let m = c.args.self.now.map.now in
    let p = c.args.self.now.plan.now in
    let turns = c.new-turns.result in
    let old = c.args.walkers.now in
    let new = c.take_step.new.walkers in
    let squares = c.args.squares.now in
    let after = c.take_step.new.squares in
    let h : AreActTurns (wide_of m) turns = subst (λ w. AreActTurns (w + 2) turns) c.width.ensures.width c.new-turns.ensures.turns in
    let then : AreUnderWay m p.courses 0 new after = starts_wait m p.courses turns c.args.waits.now old new squares after h c.requires.waits
    (all_start m p.courses old squares c.requires.board c.requires.walkers c.requires.agents) c.take_step.ensures.led c.take_step.ensures.grounds in
    let marks : AreMarksOf (first_mark 1) new after = subst (λ n. AreMarksOf n new after) (c.new-turns.ensures.first ∙ c.first_mark.ensures) c.take_step.ensures.marks in
    if_past c.fault_at.result (IsClean m p 1) (IsSeen m p 0 new after) (IsLeastFault m p) (λ clean. record { under_way = then; clean = clean; marks = marks }) c.fault_at.ensures

pub returns-else-take_step-clause-seen : goal.returns-else-take_step-clause-seen
returns-else-take_step-clause-seen c =
    let m = c.args.self.now.map.now in
    let p = c.args.self.now.plan.now in
    let turns = c.new-turns.result in
    let old = c.args.walkers.now in
    let new = c.take_step.new.walkers in
    let squares = c.args.squares.now in
    let after = c.take_step.new.squares in
    let h : AreActTurns (wide_of m) turns = subst (λ w. AreActTurns (w + 2) turns) c.width.ensures.width c.new-turns.ensures.turns in
    record {
      under_way = starts_wait m p.courses turns c.args.waits.now old new squares after h c.requires.waits
          (all_start m p.courses old squares c.requires.board c.requires.walkers c.requires.agents) c.take_step.ensures.led c.take_step.ensures.grounds;
      clean = clean_at_start m p turns c.args.waits.now old squares h c.requires.starts c.requires.waits c.requires.walkers c.requires.agents
          (c.take_step.ensures.allowed c.if-take_step.false);
      marks = subst (λ n. AreMarksOf n new after) (c.new-turns.ensures.first ∙ c.first_mark.ensures) c.take_step.ensures.marks;
    }
