-- In none of its cells from the time on, nor in the last one.
use Rattle.std.proofs.Common.{arith}
use Rattle.least_costs.proofs.AlongLemmas.{never}
use Rattle.least_costs.proofs.walk.is_away_from.Goals as goal

pub returns : goal.returns
returns c = λ e.
    never c.args.walk.now c.args.time c.args.cell
    (λ k from within is. c.loop-at.invariant k from (omega (arith, within, c.loop-at-test.false)) is)
    (c.is_elsewhere.ensures e)
