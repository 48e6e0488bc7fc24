use Rattle.std.proofs.Common.{◌≡◌, ℕ, ◌<◌, [], length}
use Rattle.executor.specs.Code.Leading.{AreUnheard}
use Rattle.executor.specs.Code.Waiting.{HasEndedMoves, LeadsFrom}
use Rattle.executor.proofs.ending.bring_all_to_ends.Given as goal

-- the agents before the next are at rest
abbrev pub invariant-rest : goal.invariant-rest
invariant-rest l = record {
  timetable : l.ending.timetable ≡ l.graph;
  agents : l.ending.agents ≡ l.agents;
  count : length l.ending.standings ≡ l.id;
  none_heard : AreUnheard l.ending.heard;
  leads : LeadsFrom l.graph l.agents l.messages l.ending;
}

-- and then those before the next are at their ends
abbrev pub invariant-ends : goal.invariant-ends
invariant-ends l = record {
  timetable : l.ending.timetable ≡ l.graph;
  agents : l.ending.agents ≡ l.agents;
  count : length l.ending.standings ≡ length l.agents;
  leads : LeadsFrom l.graph l.agents l.messages l.ending;
  done : (i : ℕ) → i < l.id → HasEndedMoves l.ending i;
  none : l.waiting.items ≡ [];
}
