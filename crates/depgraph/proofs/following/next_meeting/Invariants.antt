use Rattle.std.proofs.Common.{ℕ, ◌<◌, ◌≤◌, ◌-◌}
use Rattle.depgraph.specs.Code.Following.{IsMeeting}
use Rattle.depgraph.proofs.following.next_meeting.Given as goal

abbrev pub invariant-loop-entry : goal.invariant-loop-entry
invariant-loop-entry l = record {
  after : l.from ≤ l.entry;
  most : l.entry ≤ l.end;
  none : (e : ℕ) → l.from ≤ e → e < l.entry → IsMeeting l.meetings.numbers.now l.meetings.shared.items e → ⊥;
}

abbrev pub decreases-loop-entry : goal.decreases-loop-entry
decreases-loop-entry l = l.end - l.entry
