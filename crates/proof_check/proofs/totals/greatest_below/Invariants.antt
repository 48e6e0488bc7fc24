use Rattle.std.proofs.Common.{◌≡◌, ◌<◌, take}
use Rattle.optimality.specs.Judging.{greatest_number}
use Rattle.proof_check.proofs.totals.greatest_below.Given as goal

abbrev pub invariant-loop-number : goal.invariant-loop-number
invariant-loop-number l = record { so_far : l.greatest ≡ greatest_number (take l.number-index l.numbers); below : l.greatest < l.bound }
