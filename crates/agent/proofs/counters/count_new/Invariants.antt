use Rattle.std.proofs.Common.{◌≡◌, ℕ, ◌+◌, ◌^◌, ◌≤◌, length, drop}
use Rattle.model.specs.Messages.{AreRising}
use Rattle.agent.specs.Code.Listing.{entries_of}
use Rattle.agent.specs.Code.Merging.{merged}
use Rattle.agent.proofs.counters.count_new.Given as goal

abbrev pub invariant-loop-number : goal.invariant-loop-number
invariant-loop-number l = record {
  count : length (merged (entries_of l.entries) l.counters) + length l.rest ≡ length l.counters + l.new + length (merged (drop l.number (entries_of l.entries)) l.rest);
  few : l.new ≤ l.number;
  rising : (least : ℕ) × AreRising least (drop l.number (entries_of l.entries)) × (l.number ≤ least) × (least ≤ 2 ^ 16);
}
