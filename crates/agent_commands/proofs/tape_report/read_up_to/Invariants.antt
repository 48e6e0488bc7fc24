-- What was read stands at the front, and no call failed.
use Rattle.std.proofs.Common.{◌≡◌, length, ◌-◌, ◌≤◌, take}
use Rattle.std.specs.Io.KnownBytes.{Consumes}
use Rattle.text_io.specs.Counted.{counted_inner, failures_of}
use Rattle.agent_commands.proofs.tape_report.read_up_to.Given as goal

abbrev pub invariant-pieces : goal.invariant-pieces
invariant-pieces g l = record {
  within : l.len ≤ length l.bytes;
  read : Consumes (g.T.Read.remaining (counted_inner l.initial.file)) (g.T.Read.remaining (counted_inner l.file)) (take l.len l.bytes);
  failures : failures_of l.file ≡ failures_of l.initial.file;
}

abbrev pub decreases-pieces : goal.decreases-pieces
decreases-pieces g l = length l.initial.bytes - l.len
