use Rattle.std.proofs.Common.{ℕ, ◌<◌}
use Rattle.controller.specs.Places.{FitsAt}
use Rattle.controller.proofs.places.place_of.Given as goal

-- the report fits no place so far
abbrev pub invariant-places : goal.invariant-places
invariant-places l = (k : ℕ) → k < l.place → FitsAt l.part.cells l.from l.to l.report k → ⊥
