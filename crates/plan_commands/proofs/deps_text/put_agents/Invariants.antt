-- The agents that follow are left.
use Rattle.std.proofs.Common.{drop}
use Rattle.text_io.specs.Sink.{Leaves}
use Rattle.text_io.specs.Text.{spaced_numbers}
use Rattle.plan_commands.proofs.deps_text.put_agents.Given as goal

abbrev pub invariant-loop-agent : goal.invariant-loop-agent
invariant-loop-agent g l =
    Leaves g.W.Write.contents l.fn.sink l.sink (spaced_numbers l.agents) (spaced_numbers (drop l.agent-index l.agents))
