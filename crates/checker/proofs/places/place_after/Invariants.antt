-- So many acts are made.
use Rattle.std.proofs.Common.{◌≡◌}
use Rattle.model.specs.Plan.{position_at}
use Rattle.checker.specs.Code.Places.{as_position}
use Rattle.checker.proofs.places.place_after.Given as goal

abbrev pub invariant-loop-number : goal.invariant-loop-number
invariant-loop-number l = as_position l.place ≡ position_at l.course l.number
