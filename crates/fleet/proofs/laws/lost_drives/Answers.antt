use Rattle.fleet.proofs.AheadLemmas.{fleet-met, doings-met}
use Rattle.fleet.proofs.FleetLemmas.{of-fleet}
use Rattle.fleet.proofs.laws.lost_drives.Goals as goal

pub returns-clause-fleet : goal.returns-clause-fleet
returns-clause-fleet c table log states i k track tellable fleet there less =
    (fleet-met table tellable c.tellings.ensures.one log states (of-fleet table log states fleet)).met i track k there less

pub returns-clause-of_plans : goal.returns-clause-of_plans
returns-clause-of_plans c last doings states i k track tellable led looks there less =
    (doings-met last tellable c.tellings.ensures.one doings states led looks).met i track k there less
