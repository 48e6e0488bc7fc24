use Rattle.std.proofs.Common.{ℕ, ◌+◌, ◌<◌, ◌-◌}
use Rattle.depgraph.specs.Code.Entries.{IsEntry}
use Rattle.depgraph.specs.Code.Following.{IsMeeting}
use Rattle.depgraph.specs.Code.Meetings.{block_times}
use Rattle.depgraph.proofs.FollowerLemmas.{AreAddedTo, ComesTo}
use Rattle.depgraph.proofs.following.look_ahead.Given as goal
use Rattle.std.specs.Prelude.{get_or}

abbrev pub invariant-loop-entry : goal.invariant-loop-entry
invariant-loop-entry l = record {
  comes : ComesTo l.meetings l.time l.agent l.entry;
  before : (k e : ℕ) → IsEntry l.meetings.ends.now l.agent k e → e < l.entry → IsMeeting l.meetings.numbers.now l.meetings.shared.items e → get_or l.meetings.times.now e 0 < l.time + block_times;
  added : AreAddedTo l.meetings l.time l.agent l.entry l.initial.block l.block;
}

abbrev pub decreases-loop-entry : goal.decreases-loop-entry
decreases-loop-entry l = l.end - l.entry
