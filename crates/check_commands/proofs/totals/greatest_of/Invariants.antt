use Rattle.std.proofs.Common.{◌≡◌, take}
use Rattle.bounding.specs.Bounding.{greatest_bound}
use Rattle.check_commands.proofs.totals.greatest_of.Given as goal

abbrev pub invariant-loop-bound : goal.invariant-loop-bound
invariant-loop-bound l = l.greatest ≡ greatest_bound (take l.bound-index l.bounds)
