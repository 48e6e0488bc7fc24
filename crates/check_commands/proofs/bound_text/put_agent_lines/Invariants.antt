-- The agents that follow are left.
use Rattle.std.proofs.Common.{drop}
use Rattle.text_io.specs.Sink.{Leaves}
use Rattle.check_commands.specs.BoundCommand.{agent_bound_lines, costs_and_bounds}
use Rattle.check_commands.proofs.bound_text.put_agent_lines.Given as goal

abbrev pub invariant-loop-agent : goal.invariant-loop-agent
invariant-loop-agent g l =
    Leaves g.W.Write.contents l.fn.sink l.sink (agent_bound_lines 0 (costs_and_bounds l.plan.timetable.tracks l.bounds))
    (agent_bound_lines l.agent (costs_and_bounds (drop l.agent l.plan.timetable.tracks) (drop l.agent l.bounds)))
