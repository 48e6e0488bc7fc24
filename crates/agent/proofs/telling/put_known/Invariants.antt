use Rattle.std.proofs.Common.{◌≡◌, ◌++◌, drop}
use Rattle.std.specs.Prelude.{flat_map}
use Rattle.model.specs.Messages.{entry_bytes}
use Rattle.agent.specs.Code.Told.{told_entries}
use Rattle.agent.proofs.telling.put_known.Given as goal

abbrev pub invariant-loop-counter : goal.invariant-loop-counter
invariant-loop-counter l = l.bytes.items ++ flat_map entry_bytes (told_entries (drop l.counter-index l.counters)) ≡ l.initial.bytes.items ++ flat_map entry_bytes (told_entries l.counters)
