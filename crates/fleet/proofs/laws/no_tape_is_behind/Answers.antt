use Rattle.fleet.specs.Fleets.{spoken}
use Rattle.fleet.specs.OwnPlans.{log_of}
use Rattle.fleet.proofs.FleetLemmas.{of-fleet}
use Rattle.fleet.proofs.KnowsLemmas.{never-ahead, fleet-knows}
use Rattle.fleet.proofs.OwnPlanLemmas.{doings-know}
use Rattle.fleet.proofs.laws.no_tape_is_behind.Goals as goal

pub returns-clause-fleet : goal.returns-clause-fleet
returns-clause-fleet c table log states i track m bytes t tellable fleet there said telling =
    never-ahead table tellable c.tellings.ensures.one (spoken log) states m bytes t i
    (fleet-knows table tellable c.tellings.ensures.one log states (of-fleet table log states fleet)) said telling

pub returns-clause-of_plans : goal.returns-clause-of_plans
returns-clause-of_plans c last doings states i track m bytes t tellable led there said telling =
    never-ahead last tellable c.tellings.ensures.one (spoken (log_of doings)) states m bytes t i
    (doings-know last tellable c.tellings.ensures.one doings states led) said telling
