-- All conflicts with agents before one are listed, and this is the first from there on that takes the opposite step.
use Rattle.std.proofs.Common.{◌≡◌, ◌<◌, ◌-◌, ℕ, length}
use Rattle.std.specs.Prelude.{unwrap_or}
use Rattle.checker.specs.Code.Known.{IsListedTo}
use Rattle.checker.specs.Code.Links.{IsFirstFrom}
use Rattle.checker.specs.Code.Places.{reversed, step_in}
use Rattle.checker.specs.Code.Rows.{key_in}
use Rattle.checker.proofs.finding.Finder.follow.Given as goal

abbrev pub invariant-loop-next : goal.invariant-loop-next
invariant-loop-next l =
    ((from : ℕ) × (l.first < from) × IsFirstFrom l.links.steps.now from (reversed (step_in l.links.steps.now l.first)) l.next
    × IsListedTo l.self.map.now l.self.plan.now (key_in l.conflict l.first from) l.listing)
    × (l.listing.most ≡ l.initial.listing.most)

abbrev pub decreases-loop-next : goal.decreases-loop-next
decreases-loop-next l = length l.links.steps.now - unwrap_or l.next (length l.links.steps.now)
