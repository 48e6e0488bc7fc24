use Rattle.std.proofs.Common.{◌+◌, sym, subst, ◌∙◌}
use Rattle.checker.proofs.RowLemmas.{IsHeldTo, held-none, held-on, held-more}
use Rattle.checker.proofs.block.hold.Goals.{then-not-has_act, else-not-has_act}
use Rattle.checker.proofs.block.hold.Goals as goal

pub loop-walker-init : goal.loop-walker-init
loop-walker-init c = held-none c.args.courses.now c.args.step c.args.walkers.now c.args.squares.now

pub loop-walker-preserved : goal.loop-walker-preserved
loop-walker-preserved c =
    let courses = c.args.courses.now in
    let walkers = c.args.walkers.now in
    let n = c.loop-walker.walker-index in
    let was = c.loop-walker.invariant in
    elim c.if-not-has_act.branch [
      | then-not-has_act w ↦ subst (λ now. IsHeldTo courses c.args.step walkers c.args.squares.now now (n + 1)) (sym w.squares-is)
          (let e = w.if-not-has_act.true in let f = c.has_act.ensures in
          held-more courses c.args.step walkers c.args.squares.now c.loop-walker.squares n w.new.result was (c.requires n c.loop-walker-test.true) (sym f ∙ e)
          (record { ground = w.new.ensures.ground; unmarked = w.new.ensures.mark }))
      | else-not-has_act w ↦ subst (λ now. IsHeldTo courses c.args.step walkers c.args.squares.now now (n + 1)) (sym w.squares-is)
          (let e = w.if-not-has_act.false in let f = c.has_act.ensures in held-on courses c.args.step walkers c.args.squares.now c.loop-walker.squares n was (sym f ∙ e))
    ]
