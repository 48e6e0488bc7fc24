use Rattle.std.proofs.Common.{◌≡◌, length, map}
use Rattle.std.specs.List.{range_with_len}
use Rattle.fleet_commands.specs.Standing.{keeper_after}
use Rattle.fleet_commands.proofs.keeping.keepers_of.Given as goal

abbrev pub invariant-loop-agent : goal.invariant-loop-agent
invariant-loop-agent l = record {
  ends : l.ends.items ≡ map (λ i. keeper_after l.waits i (length l.waits)) (range_with_len 0 l.agent);
}
