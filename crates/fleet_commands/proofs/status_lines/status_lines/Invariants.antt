use Rattle.std.proofs.Common.{◌≡◌, map}
use Rattle.std.specs.List.{range_with_len}
use Rattle.fleet_commands.specs.StatusText.{agent_line}
use Rattle.fleet_commands.proofs.status_lines.status_lines.Given as goal

abbrev pub invariant-loop-agent : goal.invariant-loop-agent
invariant-loop-agent l = record {
  lines : l.lines.items ≡ map (agent_line l.dependencies l.found) (range_with_len 0 l.agent);
}
