use Rattle.std.proofs.Common.{◌≡◌}
use Rattle.fleet_commands.specs.Standing.{keeper_after}
use Rattle.fleet_commands.proofs.keeping.keeper_of.Given as goal

abbrev pub invariant-loop-step : goal.invariant-loop-step
invariant-loop-step l = record {
  led : l.end ≡ keeper_after l.waits l.fn.agent l._step;
}
