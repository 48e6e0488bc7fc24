use Rattle.std.proofs.Common.{◌≡◌, ◌+◌, ◌-◌, ◌/◌, arith, ap, sym, ◌∙◌}
use Rattle.std.specs.Prelude.{min}
use Rattle.walks.specs.Code.Rounding.{least_up_to}
use Rattle.walks.proofs.RoundingLemmas.{least_first, least_next}
use Rattle.walks.proofs.rounding.rounded.Goals as goal

pub loop-diagonal-init : goal.loop-diagonal-init
loop-diagonal-init c = c.least_with-least.ensures ∙ sym (least_first c.args.number)

pub loop-diagonal-preserved : goal.loop-diagonal-preserved
loop-diagonal-preserved c =
    let v = c.args.number in
    let d = c.loop-diagonal.diagonal in
    c.min-least.ensures ∙ ap (λ k. min k c.least_with.result) c.loop-diagonal.invariant ∙ ap (min (least_up_to v (d - 1))) c.least_with.ensures
    ∙ least_next v d (omega arith)

pub returns : goal.returns
returns c =
    let v = c.args.number in
    let done : c.loop-diagonal.diagonal - 1 ≡ v / 9369319 + 1 = omega (arith, c.loop-diagonal.auto.diagonal-end, c.loop-diagonal-test.false) in
    c.loop-diagonal.invariant ∙ ap (least_up_to v) done
