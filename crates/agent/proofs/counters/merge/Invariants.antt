use Rattle.std.proofs.Common.{◌≡◌, ◌++◌, drop}
use Rattle.agent.specs.Code.Listing.{entries_of}
use Rattle.agent.specs.Code.Merging.{merged}
use Rattle.agent.proofs.counters.merge.Given as goal

abbrev pub invariant-loop-number : goal.invariant-loop-number
invariant-loop-number l = l.all.items ++ merged (drop l.number (entries_of l.entries)) l.rest ≡ merged (entries_of l.entries) l.counters
