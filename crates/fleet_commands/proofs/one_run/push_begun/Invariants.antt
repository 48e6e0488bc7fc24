use Rattle.std.proofs.Common.{◌≡◌, ◌++◌}
use Rattle.depgraph.specs.Rotations.{turns_of}
use Rattle.fleet_commands.specs.StatusText.{begun_line}
use Rattle.fleet_commands.specs.Turns.{in_turn}
use Rattle.fleet_commands.proofs.one_run.push_begun.Given as goal

abbrev pub invariant-loop-number : goal.invariant-loop-number
invariant-loop-number l = record {
  lines : l.lines.items ≡ l.fn.lines.items ++ in_turn (begun_line l.dependencies l.without l.found (turns_of l.rotations)) l.number;
}
