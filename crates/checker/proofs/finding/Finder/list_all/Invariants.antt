-- The agents stand where the steps before have taken them, and all faults of the times up to now are listed.
use Rattle.std.proofs.Common.{◌≡◌, ◌+◌}
use Rattle.checker.specs.Code.Known.{key_with, IsListedTo}
use Rattle.checker.specs.Code.Places.{AreSteps}
use Rattle.checker.proofs.finding.Finder.list_all.Given as goal

abbrev pub invariant-loop-number : goal.invariant-loop-number
invariant-loop-number l =
    AreSteps l.self.plan.now.courses l.number l.number l.standing.items
    × IsListedTo l.self.map.now l.self.plan.now (key_with (l.number + 1) 0 0 0) l.listing
    × (l.listing.most ≡ l.initial.listing.most)
