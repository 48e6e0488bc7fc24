-- Of the agents before, the one that is elsewhere first.
use Rattle.continuing.specs.Code.Apart.{IsFirstOf}
use Rattle.continuing.proofs.departing.first_elsewhere.Given as goal

abbrev pub invariant-loop-agent : goal.invariant-loop-agent
invariant-loop-agent l = IsFirstOf l.old l.new l.agent l.past l.first l.time
