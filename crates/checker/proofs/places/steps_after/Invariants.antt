-- The agents before have their steps.
use Rattle.std.proofs.Common.{◌+◌}
use Rattle.checker.proofs.PlaceLemmas.{AreStepsTo}
use Rattle.checker.proofs.places.steps_after.Given as goal

abbrev pub invariant-loop-agent : goal.invariant-loop-agent
invariant-loop-agent l = AreStepsTo l.courses l.number (l.number + 1) l.steps.items l.agent
