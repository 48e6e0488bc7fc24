-- What holds of a fleet of one plan holds of one that goes over to a last one.
use Rattle.std.proofs.Common.{arith}
use Rattle.fleet.proofs.FleetLemmas.{of-fleet}
use Rattle.fleet.proofs.KnowsLemmas.{fleet-knows}
use Rattle.fleet.proofs.TurningLemmas.{begun-as, begun-within, stay-closed}
use Rattle.fleet.proofs.laws.rotations_stay_closed.Goals as goal

pub returns-clause-fleet : goal.returns-clause-fleet
returns-clause-fleet c = λ table log states step agents place i track tellable free turns fleet member there.
    stay-closed table free (c.needs.ensures.need table) tellable c.tellings.ensures.one step agents turns log states (of-fleet table log states fleet) place i track member there

pub returns-clause-of_plans : goal.returns-clause-of_plans
returns-clause-of_plans c = λ last doings states step agents place i track tellable free turns led member there.
    let found = c.fleets_of_plans.ensures.kept last doings states tellable led in
    let fleet = found.2 in
    let most = stay-closed last free (c.needs.ensures.need last) tellable c.tellings.ensures.one step agents turns found.0 found.1 (of-fleet last found.0 found.1 fleet.1) place i track member there in
    let same = begun-as (states i) (found.1 i) (fleet.2 i) in
    omega (arith, most, same)

pub returns-clause-within : goal.returns-clause-within
returns-clause-within c = λ table log states i track tellable fleet there.
    begun-within (states i).records _ ((fleet-knows table tellable c.tellings.ensures.one log states (of-fleet table log states fleet)).within i track there)

pub returns-clause-within_last : goal.returns-clause-within_last
returns-clause-within_last c = λ last doings states i track tellable led there.
    let found = c.fleets_of_plans.ensures.kept last doings states tellable led in
    let fleet = found.2 in
    let few = begun-within (found.1 i).records _ ((fleet-knows last tellable c.tellings.ensures.one found.0 found.1 (of-fleet last found.0 found.1 fleet.1)).within i track there) in
    let same = begun-as (states i) (found.1 i) (fleet.2 i) in
    omega (arith, few, same)
