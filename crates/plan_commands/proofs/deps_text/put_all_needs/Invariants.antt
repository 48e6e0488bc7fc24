-- The lines of the agents that follow are left.
use Rattle.std.proofs.Common.{drop}
use Rattle.text_io.specs.Text.{ended}
use Rattle.text_io.specs.Sink.{Leaves}
use Rattle.plan_commands.specs.DepsText.{all_need_lines}
use Rattle.plan_commands.proofs.deps_text.put_all_needs.Given as goal

abbrev pub invariant-loop-agent : goal.invariant-loop-agent
invariant-loop-agent g l =
    Leaves g.W.Write.contents l.fn.sink l.sink (ended (all_need_lines l.graph 0 l.graph.tracks))
    (ended (all_need_lines l.graph l.agent (drop l.agent l.graph.tracks)))
