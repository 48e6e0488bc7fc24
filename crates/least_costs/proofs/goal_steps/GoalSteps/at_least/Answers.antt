-- By what the search knows.
use Rattle.std.proofs.Common.{subst}
use Rattle.least_costs.specs.Code.Tables.{IsEstimate}
use Rattle.least_costs.specs.GoalView.{GoalView}
use Rattle.least_costs.proofs.goal_steps.GoalSteps.at_least.Goals as goal

pub returns : goal.returns
returns c = subst (λ (v : GoalView). IsEstimate v c.args.cell c.at_least.result) c.self.view_is (c.at_least.ensures c.self.inside.legal.now c.self.invariant)
