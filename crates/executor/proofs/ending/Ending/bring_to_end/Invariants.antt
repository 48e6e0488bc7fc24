use Rattle.std.proofs.Common.{◌≡◌, length}
use Rattle.executor.specs.Code.Leading.{LeadsOn, IsOf}
use Rattle.executor.specs.Code.Waiting.{IsWaiting, HaveRisen, way_left}
use Rattle.executor.proofs.ending.Ending.bring_to_end.Given as goal

-- the events lead on, and whoever is waited for is in the list
abbrev pub invariant-moves : goal.invariant-moves
invariant-moves l = record {
  same : IsOf l.fn.self l.self;
  count : length l.self.standings ≡ length l.fn.self.standings;
  leads : LeadsOn l.fn.self l.self;
  risen : HaveRisen l.fn.self l.self;
  chain : IsWaiting l.self l.agent l.waiting.items;
}

abbrev pub decreases-moves : goal.decreases-moves
decreases-moves l = way_left l.self l.waiting.items
