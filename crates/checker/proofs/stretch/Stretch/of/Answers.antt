-- Behind the acts that there are come waits.
use Rattle.std.proofs.Common.{◌≡◌, ◌+◌, ◌-◌, ◌++◌, length, drop, min, arith, sym, subst}
use Rattle.checker.specs.Code.Blocks.{block_steps, IsStretch}
use Rattle.checker.proofs.StretchLemmas.{waits, stretch_of}
use Rattle.checker.proofs.stretch.Stretch.of.Goals as goal

pub returns : goal.returns
returns c =
    let acts = c.args.acts.now in
    let begin = c.min-begin.result in
    let short = c.if-step-acts.false in
    let end : length acts ≡ min (length acts) (c.args.step + block_steps) = omega (arith, short) in
    subst (λ front. IsStretch acts c.args.step (front ++ drop (length acts - begin) waits)) (sym c.copy_from_slice-2.ensures.after)
    (stretch_of acts c.args.step begin (length acts) c.min-begin.ensures end)
