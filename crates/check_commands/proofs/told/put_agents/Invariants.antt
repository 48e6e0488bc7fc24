-- The agents that follow are left.
use Rattle.std.proofs.Common.{drop}
use Rattle.text_io.specs.Sink.{Leaves}
use Rattle.text_io.specs.Text.{separated}
use Rattle.check_commands.proofs.told.put_agents.Given as goal

abbrev pub invariant-loop-agent : goal.invariant-loop-agent
invariant-loop-agent g l =
    Leaves g.W.Write.contents l.fn.sink l.sink (separated l.separator l.agents) (separated l.separator (drop l.agent-index l.agents))
