use Rattle.std.proofs.Common.{◌<◌, ◌≤◌}
use Rattle.model.specs.Costs.{cost}
use Rattle.model.specs.Timetable.{Track}
use Rattle.optimality.specs.Constraints.{MeetsAll}
use Rattle.least_costs.proofs.asked.highest.Given as goal

abbrev pub invariant-loop-constraint : goal.invariant-loop-constraint
invariant-loop-constraint l = (l.highest < l.limit) × ((track : Track) → MeetsAll l.asked track → cost track < l.limit → cost track ≤ l.highest)
