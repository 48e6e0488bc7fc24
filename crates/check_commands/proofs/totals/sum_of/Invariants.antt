use Rattle.std.proofs.Common.{◌≡◌, ◌*◌, ◌≤◌, sum, take}
use Rattle.check_commands.proofs.totals.sum_of.Given as goal

abbrev pub invariant-loop-bound : goal.invariant-loop-bound
invariant-loop-bound l = record { is : l.total ≡ sum (take l.bound-index l.bounds); most : l.total ≤ l.bound-index * 4294967295 }
