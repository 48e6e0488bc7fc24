use Rattle.std.proofs.Common.{◌≡◌, ◌+◌, ◌*◌, length}
use Rattle.depgraph.specs.Code.Meetings.{AreAllUnderWay, IsPassDone, block_times}
use Rattle.depgraph.proofs.following.follow.Given as goal

abbrev pub invariant-loop-number : goal.invariant-loop-number
invariant-loop-number l = record {
  done : IsPassDone l.meetings l.pass;
  time : l.pass.time ≡ l.number * block_times;
  all : AreAllUnderWay l.meetings (l.number * block_times) l.followers.items;
  count : length l.block.items ≡ block_times;
}

abbrev pub invariant-loop-step : goal.invariant-loop-step
invariant-loop-step l = record {
  done : IsPassDone l.meetings l.pass;
  time : l.pass.time ≡ l.time + l.step;
}
