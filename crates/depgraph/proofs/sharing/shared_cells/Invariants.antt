use Rattle.std.proofs.Common.{◌≡◌, ℕ, ◌<◌, ◌≤◌, ◌-◌, Some, None, true, false, length, get_or}
use Rattle.depgraph.specs.Code.Entries.{begin_in, IsEntry}
use Rattle.depgraph.proofs.sharing.shared_cells.Given as goal

abbrev pub invariant-loop-entry : goal.invariant-loop-entry
invariant-loop-entry l = record {
  after : begin_in l.ends l.agent ≤ l.entry;
  most : l.entry ≤ get_or l.ends l.agent 0;
  owner_count : length l.owners.owners.items ≡ l.limit;
  shared_count : length l.owners.shared.items ≡ l.limit;
  past : (i k e : ℕ) → IsEntry l.ends i k e → i < l.agent → get_or l.owners.shared.items (get_or l.numbers e 0) true ≡ false
      → get_or l.owners.owners.items (get_or l.numbers e 0) None ≡ Some i;
  own : (k e : ℕ) → IsEntry l.ends l.agent k e → e < l.entry → get_or l.owners.shared.items (get_or l.numbers e 0) true ≡ false
      → get_or l.owners.owners.items (get_or l.numbers e 0) None ≡ Some l.agent;
}

abbrev pub decreases-loop-entry : goal.decreases-loop-entry
decreases-loop-entry l = get_or l.ends l.agent 0 - l.entry

-- the agents so far were seen in the cells of their paths
abbrev pub invariant-loop-agent : goal.invariant-loop-agent
invariant-loop-agent l = record {
  begin : l.entry ≡ begin_in l.ends l.agent;
  owner_count : length l.owners.owners.items ≡ l.limit;
  shared_count : length l.owners.shared.items ≡ l.limit;
  past : (i k e : ℕ) → IsEntry l.ends i k e → i < l.agent → get_or l.owners.shared.items (get_or l.numbers e 0) true ≡ false
      → get_or l.owners.owners.items (get_or l.numbers e 0) None ≡ Some i;
}
