use Rattle.fleet.specs.OwnPlans.{log_of}
use Rattle.fleet.proofs.FleetLemmas.{fleet-of}
use Rattle.fleet.proofs.OwnPlanLemmas.{by-last, safe-too}
use Rattle.fleet.proofs.TellableLemmas.{tellable}
use Rattle.fleet.proofs.laws.changing_fleets_are_safe.Goals as goal

pub returns : goal.returns
returns c map plan last doings states limits valid is led =
    let can_tell = tellable (c.timetables.ensures.no_longer) plan last limits is in
    let kept = by-last last can_tell c.tellings.ensures.one doings states led in
    safe-too last (log_of doings) kept.0 states kept.1 kept.2
    (c.every_fleet_is_safe.ensures map plan last kept.0 kept.1 limits valid is (fleet-of last kept.0 kept.1 kept.2.fleet))
