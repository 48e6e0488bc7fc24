-- The courses of the agents before.
use Rattle.std.proofs.Common.{◌≡◌}
use Rattle.fleet_commands.specs.LeftPlan.{left_courses}
use Rattle.fleet_commands.specs.Turns.{in_turn}
use Rattle.fleet_commands.proofs.left_plan.left_plan.Given as goal

abbrev pub invariant-loop-agent : goal.invariant-loop-agent
invariant-loop-agent l = record {
  number : l.left.number ≡ l.fn.number;
  courses : l.left.courses ≡ in_turn (left_courses l.at_hand.plan l.at_hand.dependencies l.found l.without) l.agent;
}
