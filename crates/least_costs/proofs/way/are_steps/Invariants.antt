use Rattle.std.proofs.Common.{◌≡◌, ℕ, ◌+◌, ◌<◌, Some}
use Rattle.std.specs.Prelude.{slice_get}
use Rattle.grid.specs.declared.cell.Cell.{Cell}
use Rattle.optimality.specs.Walkers.{MayFollow}
use Rattle.least_costs.proofs.way.are_steps.Given as goal

abbrev pub invariant-loop-at : goal.invariant-loop-at
invariant-loop-at l = (k : ℕ) (u v : Cell) → k + 1 < l.at → slice_get l.walk k ≡ Some u → slice_get l.walk (k + 1) ≡ Some v → MayFollow l.legal u v
