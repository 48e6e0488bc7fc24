use Rattle.std.proofs.Common.{◌≡◌, ℕ, ◌+◌, ◌<◌, ◌≤◌, [], length, get_or}
use Rattle.depgraph.specs.Code.Entries.{IsEntry}
use Rattle.depgraph.specs.Code.Following.{IsMeeting}
use Rattle.depgraph.specs.Code.Meetings.{AllComing, ComesNextAt, IsInComings, block_times, coming_by, follower_at, list_at}
use Rattle.depgraph.proofs.following.gather.Given as goal

abbrev pub invariant-loop-step : goal.invariant-loop-step
invariant-loop-step l = record {
  count : length l.block ≡ block_times;
  none : (s : ℕ) → s < l.step → list_at l.block s ≡ [];
}

abbrev pub invariant-loop-at : goal.invariant-loop-at
invariant-loop-at l = record {
  count : length l.block ≡ block_times;
  agents : (b : ℕ) → (follower_at l.followers b).agent ≡ (follower_at l.initial.followers b).agent;
  past : (b : ℕ) → b < l.at → ComesNextAt l.meetings (l.time + block_times) (follower_at l.followers b);
  rest : (b : ℕ) → l.at ≤ b → follower_at l.followers b ≡ follower_at l.initial.followers b;
  sound : (s : ℕ) → s < block_times → AllComing l.meetings (l.time + s) (list_at l.block s);
  whole : (b : ℕ) → b < l.at → (k e s : ℕ) → s < block_times → IsEntry l.meetings.ends.now (follower_at l.initial.followers b).agent k e
      → IsMeeting l.meetings.numbers.now l.meetings.shared.items e → get_or l.meetings.times.now e 0 ≡ l.time + s
      → IsInComings (list_at l.block s) (coming_by l.meetings (follower_at l.initial.followers b).agent k e);
}
