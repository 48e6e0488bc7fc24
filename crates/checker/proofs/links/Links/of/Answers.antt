-- One agent more, before all that have their links.
use Rattle.std.proofs.Common.{◌≡◌, ◌+◌, ◌-◌, ◌<◌, length, arith, sym, ap, subst, ◌∙◌}
use Rattle.std.specs.HashMap.{get}
use Rattle.checker.specs.Code.Places.{reversed, step_in}
use Rattle.checker.specs.Code.Links.{same_step, IsFirstFrom}
use Rattle.checker.proofs.LinkLemmas.{first-more, links-more}
use Rattle.checker.proofs.links.Links.of.Goals as goal

pub loop-agent-preserved : goal.loop-agent-preserved
loop-agent-preserved c =
    let steps = c.args.steps.now in
    let i = c.loop-agent.agent in
    let n = c.loop-agent.agent - 1 in
    let some = c.loop-agent-test.true in
    let within = c.loop-agent.invariant.1 in
    let is : i ≡ n + 1 = omega (arith, some) in
    let less : n < length steps = omega (arith, some, within) in
    let h = c.loop-agent.invariant.2 in
    let opposite : c.copied-opposite.result ≡ get same_step c.loop-agent.agents (reversed (step_in steps n)) = c.copied-opposite.ensures ∙ c.get.ensures.value ∙ ap (get same_step c.loop-agent.agents)
    c.reversed.ensures in (
      links-more steps n i is less c.loop-agent.links.items (record { opposite = c.copied-opposite.result; same = c.in_ok-same.same }) c.loop-agent.invariant.0
          (subst (IsFirstFrom steps i (reversed (step_in steps n))) (sym opposite) (h (reversed (step_in steps n))))
          (subst (IsFirstFrom steps i (step_in steps n)) (sym c.in_ok-same.ensures.old) (h (step_in steps n))),
      omega (arith, less),
      λ step. first-more steps n i is less step (get same_step c.loop-agent.agents step) (get same_step c.insert.new.self step) (c.in_ok-same.ensures.updates.0 step) (h step),
    )
