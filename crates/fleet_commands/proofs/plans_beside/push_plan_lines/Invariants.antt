-- The plans of the agents before are compared.
use Rattle.std.proofs.Common.{◌≡◌, ◌++◌, List}
use Rattle.fleet_commands.specs.PlansBeside.{AreCompared}
use Rattle.fleet_commands.specs.declared.status_line.StatusLine.{StatusLine}
use Rattle.fleet_commands.proofs.plans_beside.push_plan_lines.Given as goal

abbrev pub invariant-loop-agent : goal.invariant-loop-agent
invariant-loop-agent g l = record {
  compared : (more : List StatusLine) × AreCompared g.R.ReadFiles.was_done l.agent l.foremost more × (l.lines.items ≡ l.fn.lines.items ++ more);
}
