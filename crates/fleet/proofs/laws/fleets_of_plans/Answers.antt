use Rattle.std.proofs.Common.{◌≡◌, false, inl, inr, sym, ap, ◌∙◌}
use Rattle.std.proofs.lemmas.Bool.{false≢true}
use Rattle.agent.specs.States.{State}
use Rattle.fleet.specs.Fleets.{IsHonest}
use Rattle.fleet.specs.OwnPlans.{StandsAs}
use Rattle.fleet.proofs.FleetLemmas.{fleet-of, same-of}
use Rattle.fleet.proofs.OwnPlanLemmas.{by-last}
use Rattle.fleet.proofs.laws.fleets_of_plans.Goals as goal

pub returns-clause-kept : goal.returns-clause-kept
returns-clause-kept c last doings states tellable led =
    let is = by-last last tellable c.tellings.ensures.one doings states led in
    (is.0, is.1, (is.2.leaves, fleet-of last is.0 is.1 is.2.fleet, is.2.stand))

pub returns-clause-whole : goal.returns-clause-whole
returns-clause-whole c last doings states tellable led whole =
    let is = by-last last tellable c.tellings.ensures.one doings states led in
    (is.0, is.2.leaves, fleet-of last is.0 states (same-of IsHonest last is.0 is.1 states (λ i. same (states i) (is.1 i) (whole i) (is.2.stand i)) is.2.fleet)) where
      same : (s other : State) → s.broken ≡ false → StandsAs s other → other ≡ s
      same s other fine (inl e) = sym e
      same s other fine (inr e) = absurd (false≢true (sym fine ∙ ap (λ x. x.broken) e))
