-- Those before are known.
use Rattle.std.proofs.Common.{◌≡◌, ℕ, ◌<◌, false}
use Rattle.fleet_commands.specs.HandoverCommand.{is_unknown}
use Rattle.fleet_commands.proofs.known_tapes.first_unknown.Given as goal

abbrev pub invariant-loop-agent : goal.invariant-loop-agent
invariant-loop-agent l = record {
  known : (i : ℕ) → i < l.agent → is_unknown l.without l.found i ≡ false;
}
