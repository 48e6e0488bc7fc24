use Rattle.std.proofs.Common.{◌≡◌, ◌<◌, take}
use Rattle.std.specs.Prelude.{sum}
use Rattle.proof_check.proofs.totals.sum_below.Given as goal

abbrev pub invariant-loop-number : goal.invariant-loop-number
invariant-loop-number l = record { so_far : l.total ≡ sum (take l.number-index l.numbers); below : l.total < l.bound }
