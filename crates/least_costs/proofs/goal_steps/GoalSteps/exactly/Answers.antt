-- By what the search knows.
use Rattle.std.proofs.Common.{subst}
use Rattle.least_costs.specs.Code.Tables.{IsEstimate}
use Rattle.least_costs.specs.GoalView.{GoalView}
use Rattle.least_costs.proofs.goal_steps.GoalSteps.exactly.Goals as goal

pub returns-in-Some-clause-estimate : goal.returns-in-Some-clause-estimate
returns-in-Some-clause-estimate c =
    subst (λ (v : GoalView). IsEstimate v c.args.cell c.in-Some.steps) c.self.view_is (c.in-Some.ensures c.self.inside.legal.now c.self.invariant)
