use Rattle.std.proofs.Common.{◌≡◌, ◌≤◌, ◌++◌, length, take, drop}
use Rattle.agent.specs.Code.Listing.{entries_of}
use Rattle.agent.specs.Code.Merging.{merged}
use Rattle.agent.proofs.counters.raise_known.Given as goal

abbrev pub invariant-loop-number : goal.invariant-loop-number
invariant-loop-number l = record {
  within : l.next ≤ length l.list.items;
  same_length : length l.list.items ≡ length l.initial.list.items;
  raised : take l.next l.list.items ++ merged (drop l.number (entries_of l.entries)) (drop l.next l.list.items) ≡ merged (entries_of l.entries) l.initial.list.items;
}
