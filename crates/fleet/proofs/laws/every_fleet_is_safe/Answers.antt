use Rattle.fleet.proofs.FleetLemmas.{of-fleet}
use Rattle.fleet.proofs.KnowsLemmas.{Finished, fleet-knows}
use Rattle.fleet.proofs.SafeLemmas.{Begun, safe-fleet}
use Rattle.fleet.proofs.TellableLemmas.{tellable}
use Rattle.fleet.proofs.laws.every_fleet_is_safe.Goals as goal

pub returns : goal.returns
returns c map plan table log states limits valid is fleet =
    let can_tell = tellable (c.timetables.ensures.no_longer) plan table limits is in
    let free = c.timetables.ensures.conflict_free map plan table valid is in
    let of = of-fleet table log states fleet in
    safe-fleet table log states of (fleet-knows table can_tell c.tellings.ensures.one log states of)
    (λ i j cell met first second. c.met_needs_keep_apart.ensures table (Begun states) (Finished states) i j cell free met first second)
