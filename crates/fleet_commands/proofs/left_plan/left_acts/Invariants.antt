-- The acts that follow are to be added.
use Rattle.std.proofs.Common.{◌≡◌, ◌++◌, drop}
use Rattle.fleet_commands.specs.LeftPlan.{left_acts}
use Rattle.fleet_commands.proofs.left_plan.left_acts.Given as goal

abbrev pub invariant-loop-act : goal.invariant-loop-act
invariant-loop-act l = record {
  left : left_acts l.fn.made l.acts ≡ l.left.items ++ left_acts l.made (drop l.act-index l.acts);
}
