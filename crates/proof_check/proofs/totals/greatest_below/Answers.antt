-- One number more.
use Rattle.std.proofs.Common.{◌+◌, ◌≤◌, arith, drop, subst, take}
use Rattle.std.proofs.lemmas.List.{take-append-drop}
use Rattle.optimality.specs.Judging.{greatest_number}
use Rattle.proof_check.proofs.TotalLemmas.{greatest-front, greatest-taken}
use Rattle.proof_check.proofs.totals.greatest_below.Goals as goal

pub returns-then-number-bound : goal.returns-then-number-bound
returns-then-number-bound c =
    let numbers = c.args.numbers.now in
    let i = c.loop-number.number-index in
    let more = greatest-taken numbers i c.loop-number-test.true in
    let all = subst (λ l. greatest_number (take (i + 1) numbers) ≤ greatest_number l) (take-append-drop (i + 1) numbers) (greatest-front (take (i + 1) numbers) (drop (i + 1) numbers)) in
    let over = c.if-number-bound.true in
    omega (arith, more, all, over)

pub loop-number-preserved : goal.loop-number-preserved
loop-number-preserved c =
    let more = greatest-taken c.args.numbers.now c.loop-number.number-index c.loop-number-test.true in
    let before = c.loop-number.invariant.so_far in
    let below = c.loop-number.invariant.below in
    let greatest = c.max-greatest.ensures in
    let few = c.if-number-bound.false in
    record { so_far = omega (arith, more, before, greatest); below = omega (arith, below, greatest, few) }
