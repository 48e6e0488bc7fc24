use Rattle.std.proofs.Common.{◌≡◌, ℕ, ◌<◌, length}
use Rattle.depgraph.specs.Code.Meetings.{ComesNextAt, follower_at}
use Rattle.depgraph.proofs.following.all_followers.Given as goal

abbrev pub invariant-loop-agent : goal.invariant-loop-agent
invariant-loop-agent l = record {
  count : length l.followers.items ≡ l.agent;
  each : (b : ℕ) → b < l.agent → ComesNextAt l.meetings 0 (follower_at l.followers.items b) × ((follower_at l.followers.items b).agent ≡ b);
}
