-- The soonest of the agents before.
use Rattle.std.proofs.Common.{◌≡◌}
use Rattle.fleet_commands.specs.LeftPlan.{next_step, soonest_of}
use Rattle.fleet_commands.proofs.left_plan.first_step.Given as goal

abbrev pub invariant-loop-agent : goal.invariant-loop-agent
invariant-loop-agent l = record {
  first : l.first ≡ soonest_of (next_step l.dependencies l.found l.without) l.agent;
}
