use Rattle.std.proofs.Common.{◌≡◌, ◌≤◌, drop}
use Rattle.agent.specs.Decoding.{wrong_entry}
use Rattle.agent.specs.Code.Listing.{entries_of}
use Rattle.agent.proofs.entries.Entries.first_wrong.Given as goal

-- none of the entries so far is wrong, and the agents rise, so that there are no more than agents
abbrev pub invariant-loop-at : goal.invariant-loop-at
invariant-loop-at l = record {
  few : l.at ≤ l.least;
  most : l.least ≤ 65536;
  later : wrong_entry 0 0 (entries_of l.self) ≡ wrong_entry l.at l.least (drop l.at (entries_of l.self));
}
