use Rattle.std.proofs.Common.{ℕ, ◌<◌, ◌≤◌}
use Rattle.controller.specs.Places.{IsNew}
use Rattle.controller.proofs.places.furthest.Given as goal

-- each place so far has a new cell
abbrev pub invariant-places : goal.invariant-places
invariant-places l = (k : ℕ) → l.from < k → k ≤ l.place → IsNew l.part.cells l.from k
