-- All conflicts of the agents before with those after them are listed.
use Rattle.std.proofs.Common.{◌+◌, ◌≡◌}
use Rattle.checker.specs.Code.Known.{key_with, IsListedTo}
use Rattle.checker.proofs.finding.Finder.list_swaps.Given as goal

abbrev pub invariant-loop-agent : goal.invariant-loop-agent
invariant-loop-agent l = IsListedTo l.self.map.now l.self.plan.now (key_with (l.number + 1) 2 l.agent 0) l.listing × (l.listing.most ≡ l.initial.listing.most)
