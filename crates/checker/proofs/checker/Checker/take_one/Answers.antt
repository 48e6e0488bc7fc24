-- Where nothing may be wrong the step is seen; else what is looked for says so, or finds the fault.
use Rattle.std.proofs.Common.{◌+◌, ◌<◌, sym, subst, ◌∙◌}
use Rattle.model.specs.Plan.{IsLeastFault}
use Rattle.checker.specs.Code.Squares.{wide_of}
use Rattle.checker.specs.Code.Crowd.{AreActTurns, AreMarksOf, AreOldMarks}
use Rattle.checker.specs.Code.Watching.{IsClean, IsSeen}
use Rattle.checker.proofs.MarkLemmas.{first_mark-some, first_mark-again, old-before}
use Rattle.checker.proofs.UnderWayLemmas.{if_past, seen-past, seen-allowed}
use Rattle.checker.proofs.checker.Checker.take_one.Goals as goal

-- The step has its marks, and the squares those of the step before.
pub take_step-requires-clause-some : goal.take_step-requires-clause-some
take_step-requires-clause-some c = subst (λ n. 0 < n) (sym (c.new-turns.ensures.first ∙ c.first_mark.ensures)) (first_mark-some c.args.step)

pub take_step-requires-clause-old : goal.take_step-requires-clause-old
take_step-requires-clause-old c =
    subst (λ n. AreOldMarks n c.args.walkers.now c.args.squares.now) (sym (c.new-turns.ensures.first ∙ c.first_mark.ensures))
    (old-before c.args.step c.args.walkers.now c.args.squares.now c.requires.seen.marks)

pub returns-then-take_step-clause-seen : goal.returns-then-take_step-clause-seen
returns-then-take_step-clause-seen c =
    let m = c.args.self.now.map.now in
    let p = c.args.self.now.plan.now in
    let step = c.args.step in
    let turns = c.new-turns.result in
    let h : AreActTurns (wide_of m) turns = subst (λ w. AreActTurns (w + 2) turns) c.width.ensures.width c.new-turns.ensures.turns in
    if_past c.fault_at.result (IsClean m p (step + 1 + 1)) (IsSeen m p (step + 1) c.take_step.new.walkers c.take_step.new.squares) (IsLeastFault m p)
    (seen-past m p step turns c.args.acts.now c.args.walkers.now c.take_step.new.walkers c.args.squares.now c.take_step.new.squares c.width.ensures.map h
    c.requires.seen.under_way c.requires.acts c.take_step.ensures.led c.take_step.ensures.grounds
    (subst (λ n. AreMarksOf n c.take_step.new.walkers c.take_step.new.squares) (c.new-turns.ensures.first ∙ c.first_mark.ensures ∙ sym (first_mark-again step))
    c.take_step.ensures.marks) c.requires.starts)
    c.fault_at.ensures

pub returns-else-take_step-clause-seen : goal.returns-else-take_step-clause-seen
returns-else-take_step-clause-seen c =
    let m = c.args.self.now.map.now in
    let turns = c.new-turns.result in
    let h : AreActTurns (wide_of m) turns = subst (λ w. AreActTurns (w + 2) turns) c.width.ensures.width c.new-turns.ensures.turns in
    seen-allowed m c.args.self.now.plan.now c.args.step turns c.args.acts.now c.args.walkers.now c.take_step.new.walkers c.args.squares.now c.take_step.new.squares h
    c.requires.seen c.requires.acts c.take_step.ensures.led c.take_step.ensures.grounds
    (subst (λ n. AreMarksOf n c.take_step.new.walkers c.take_step.new.squares) (c.new-turns.ensures.first ∙ c.first_mark.ensures ∙ sym (first_mark-again c.args.step))
    c.take_step.ensures.marks)
    (c.take_step.ensures.allowed c.if-take_step.false)
