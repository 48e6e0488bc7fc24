-- It goes from the agent's start to its last cell.
use Rattle.std.proofs.Common.{◌∙◌, refl, subst, sym}
use Rattle.least_steps.specs.LeastSteps.{IsLeastSteps}
use Rattle.bounding.proofs.BoundLemmas.{bound_at}
use Rattle.bounding.proofs.bounds.bound_of.Goals as goal

pub returns-clause-bound : goal.returns-clause-bound
returns-clause-bound c =
    let fewest = subst (IsLeastSteps c.args.search.now c.in-Some.start c.in-Some-position.last) c.in-Some-2.is c.in_ok-steps.ensures.answer in
    bound_at c.args.search.now c.args.plan.now.timetable.tracks c.args.agent c.in-Some.start c.in-Some-position.last c.in-Some-cost.cost c.in-Some-2.steps _ refl
    (sym c.in-Some.is ∙ c.position.ensures) (sym c.in-Some-cost.is ∙ c.cost.ensures) (sym c.in-Some-position.is ∙ c.position-2.ensures) fewest
