use Rattle.std.proofs.Common.{◌≡◌, ◌++◌}
use Rattle.fleet_commands.specs.StatusText.{root_line}
use Rattle.fleet_commands.specs.Turns.{in_turn}
use Rattle.fleet_commands.proofs.status_lines.push_roots.Given as goal

abbrev pub invariant-loop-agent : goal.invariant-loop-agent
invariant-loop-agent l = record {
  lines : l.lines.items ≡ l.fn.lines.items ++ in_turn (root_line l.ends l.waits) l.agent;
}
