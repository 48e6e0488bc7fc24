use Rattle.std.proofs.Common.{◌+◌, ◌-◌, ◌≤◌, length}
use Rattle.checker.specs.Code.Blocks.{block_steps, AreActRows}
use Rattle.checker.specs.Code.Watching.{IsSeen}
use Rattle.checker.proofs.BlockLemmas.{AreRecent}
use Rattle.checker.proofs.checker.Checker.watch.Given as goal

abbrev pub invariant-loop-courses : goal.invariant-loop-courses
invariant-loop-courses l = record {
  seen : IsSeen l.self.map.now l.self.plan.now l.step l.walkers.items l.squares;
  rows : AreActRows (length l.self.plan.now.courses) l.rows;
  room : length l.walkers.items ≤ length l.self.plan.now.courses;
  recent : AreRecent l.self.plan.now.courses l.step l.walkers.items;
}

abbrev pub decreases-loop-courses : goal.decreases-loop-courses
decreases-loop-courses l = 65536 + block_steps - l.step
