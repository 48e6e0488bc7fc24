use Rattle.std.proofs.Common.{◌≡◌, ◌++◌, length, take, drop}
use Rattle.agent.specs.Code.Told.{told_entries}
use Rattle.agent.proofs.telling.put_counters.Given as goal

abbrev pub invariant-loop-counter : goal.invariant-loop-counter
invariant-loop-counter l = record {
  put : l.entries.items ++ told_entries (drop l.counter-index l.counters) ≡ l.initial.entries.items ++ told_entries l.counters;
  begins : take (length l.initial.entries.items) l.entries.items ≡ l.initial.entries.items;
}
