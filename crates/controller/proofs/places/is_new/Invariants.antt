use Rattle.std.proofs.Common.{◌≡◌, ◌≤◌, ℕ, Some, ◌<◌}
use Rattle.std.specs.Prelude.{slice_get}
use Rattle.controller.proofs.places.is_new.Given as goal

-- no place so far has the cell
abbrev pub invariant-each : goal.invariant-each
invariant-each l = (k : ℕ) → l.from ≤ k → k < l.before → slice_get l.part.cells k ≡ Some l.cell → ⊥
