use Rattle.std.proofs.Common.{◌≡◌, map}
use Rattle.std.specs.List.{range_with_len}
use Rattle.fleet_commands.specs.Standing.{kept_now, waited_for}
use Rattle.fleet_commands.proofs.keeping.waits_of.Given as goal

abbrev pub invariant-loop-agent : goal.invariant-loop-agent
invariant-loop-agent l = record {
  waits : l.waits.items ≡ map (λ i. waited_for (kept_now l.dependencies l.found i)) (range_with_len 0 l.agent);
}
