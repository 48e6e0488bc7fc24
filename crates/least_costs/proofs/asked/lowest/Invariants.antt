use Rattle.std.proofs.Common.{◌≡◌, ◌≤◌}
use Rattle.model.specs.Costs.{cost}
use Rattle.model.specs.Timetable.{Track, cell_at}
use Rattle.optimality.specs.Constraints.{MeetsAll}
use Rattle.least_costs.proofs.asked.lowest.Given as goal

abbrev pub invariant-loop-constraint : goal.invariant-loop-constraint
invariant-loop-constraint l = (track : Track) → MeetsAll l.asked track → cell_at track (cost track) ≡ l.goal → l.lowest ≤ cost track
