-- A fleet goes on by each deed.
use Rattle.fleet.specs.OwnPlans.{SharesMoves, IsOfChain}
use Rattle.controller.proofs.FleetLemmas.{fleet-led, plans-led}
use Rattle.controller.proofs.laws.loops_lead_fleets.Goals as goal

pub returns-clause-fleet : goal.returns-clause-fleet
returns-clause-fleet c = λ settings table log states i track old event new fleet there own leads passed.
    fleet-led settings table log states i track old event new (c.fleets_go_on.ensures table) fleet there own leads passed

pub returns-clause-of_plans : goal.returns-clause-of_plans
returns-clause-of_plans c = λ settings last by doings states i track old event new fleet there own leads fits passed.
    plans-led settings (SharesMoves last) by doings states i track old event new fleet there own leads fits passed

pub returns-clause-of_chain : goal.returns-clause-of_chain
returns-clause-of_chain c = λ settings plan plans by doings states i track old event new fleet there own leads fits passed.
    plans-led settings (IsOfChain plan plans) by doings states i track old event new fleet there own leads fits passed
