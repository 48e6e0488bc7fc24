use Rattle.std.proofs.Common.{◌∷◌}
use Rattle.fleet.specs.Fleets.{IsHonest, with_state}
use Rattle.fleet.proofs.FleetLemmas.{of-fleet, fleet-of, goes-on}
use Rattle.fleet.proofs.laws.fleets_go_on.Goals as goal

pub returns : goal.returns
returns c table log states i track deed new fleet there honest does =
    fleet-of table (record { agent = i; deed = deed } ∷ log) (with_state states i new)
    (goes-on IsHonest table log states i track deed new (of-fleet table log states fleet) there honest does)
