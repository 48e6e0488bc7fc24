-- So many agents stay where they came.
use Rattle.std.proofs.Common.{◌≡◌, map, take}
use Rattle.checker.specs.Code.Places.{stay_at}
use Rattle.checker.proofs.places.arrived.Given as goal

abbrev pub invariant-loop-step : goal.invariant-loop-step
invariant-loop-step l = l.standing.items ≡ map stay_at (take l.step-index l.steps)
