use Rattle.std.proofs.Common.{◌≡◌, ◌-◌}
use Rattle.walks.specs.Code.Rounding.{least_up_to}
use Rattle.walks.proofs.rounding.rounded.Given as goal

-- it is the least one of the lengths before
abbrev pub invariant-loop-diagonal : goal.invariant-loop-diagonal
invariant-loop-diagonal l = l.least ≡ least_up_to l.number (l.diagonal - 1)
