-- The objects of the agents that follow are left.
use Rattle.std.proofs.Common.{drop, nat_lt}
use Rattle.text_io.specs.Sink.{Leaves}
use Rattle.check_commands.specs.BoundCommand.{agent_bounds_json, costs_and_bounds}
use Rattle.check_commands.specs.Code.Bounds.{objects_left}
use Rattle.check_commands.proofs.bound_text.put_objects.Given as goal

abbrev pub invariant-loop-agent : goal.invariant-loop-agent
invariant-loop-agent g l =
    Leaves g.W.Write.contents l.fn.sink l.sink (agent_bounds_json (costs_and_bounds l.plan.timetable.tracks l.bounds))
    (objects_left (nat_lt 0 l.agent) (costs_and_bounds (drop l.agent l.plan.timetable.tracks) (drop l.agent l.bounds)))
