use Rattle.plan_commands.proofs.WalkLemmas.{AreLed}
use Rattle.plan_commands.proofs.walk.walk_on.Given as goal

abbrev pub invariant-loop-agent : goal.invariant-loop-agent
invariant-loop-agent l = AreLed l.stretches l.step l.initial.cells l.cells l.agent
