use Rattle.std.proofs.Common.{◌≡◌, ◌++◌}
use Rattle.fleet_commands.specs.StatusText.{unmet_line}
use Rattle.fleet_commands.specs.Turns.{in_turn}
use Rattle.fleet_commands.proofs.one_run.push_unmet.Given as goal

abbrev pub invariant-loop-agent : goal.invariant-loop-agent
invariant-loop-agent l = record {
  lines : l.lines.items ≡ l.fn.lines.items ++ in_turn (unmet_line l.dependencies l.without l.found) l.agent;
}
