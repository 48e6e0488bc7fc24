-- The moves and the needs of the agents that follow are not counted yet.
use Rattle.std.proofs.Common.{◌≡◌, ◌+◌, drop, length}
use Rattle.std.specs.Prelude.{sum_by}
use Rattle.model.specs.Timetable.{moves}
use Rattle.plan_commands.specs.DepsText.{all_need_lines}
use Rattle.plan_commands.proofs.deps_text.count.Given as goal

abbrev pub invariant-loop-agent : goal.invariant-loop-agent
invariant-loop-agent l = record {
  moves : l.moves + sum_by moves (drop l.agent l.graph.tracks) ≡ sum_by moves l.graph.tracks;
  needs : l.needs + length (all_need_lines l.graph l.agent (drop l.agent l.graph.tracks)) ≡ length (all_need_lines l.graph 0 l.graph.tracks);
}
