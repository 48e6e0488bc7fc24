-- The agents from this one on have their links, and the map has the first of them that takes a step.
use Rattle.std.proofs.Common.{◌≤◌, length}
use Rattle.std.specs.HashMap.{get}
use Rattle.checker.specs.declared.places.Step.{Step}
use Rattle.checker.specs.Code.Links.{same_step, IsFirstFrom, AreLinked}
use Rattle.checker.proofs.links.Links.of.Given as goal

abbrev pub invariant-loop-agent : goal.invariant-loop-agent
invariant-loop-agent l =
    AreLinked l.steps l.agent l.links.items × (l.agent ≤ length l.steps) × ((step : Step) → IsFirstFrom l.steps l.agent step (get same_step l.agents step))

abbrev pub decreases-loop-agent : goal.decreases-loop-agent
decreases-loop-agent l = l.agent
