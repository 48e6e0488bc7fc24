-- The agents before stand where they are then.
use Rattle.checker.proofs.PlaceLemmas.{AreStepsTo}
use Rattle.checker.proofs.places.standing_after.Given as goal

abbrev pub invariant-loop-agent : goal.invariant-loop-agent
invariant-loop-agent l = AreStepsTo l.courses l.count l.count l.steps.items l.agent
