-- One agent more.
use Rattle.std.proofs.Common.{◌+◌, List, arith, refl, sym, ap, subst, ◌∙◌}
use Rattle.checker.specs.declared.places.Step.{Step}
use Rattle.checker.specs.Code.Places.{as_position}
use Rattle.checker.proofs.PlaceLemmas.{AreStepsTo, course_limits, steps-more, steps-all}
use Rattle.checker.proofs.SingleLemmas.{course_read}
use Rattle.checker.proofs.places.standing_after.Goals as goal

pub place_after-requires : goal.place_after-requires
place_after-requires c =
    let courses = c.args.courses.now in
    let i = c.loop-agent.agent in
    let course = c.index-courses-agent.result in
    course_limits courses i course c.requires (course_read courses courses i course refl c.loop-agent-test.true c.index-courses-agent.is)

pub loop-agent-preserved : goal.loop-agent-preserved
loop-agent-preserved c =
    let courses = c.args.courses.now in
    let n = c.args.count in
    let i = c.loop-agent.agent in
    let course = c.index-courses-agent.result in
    let there = course_read courses courses i course refl c.loop-agent-test.true c.index-courses-agent.is in
    subst (λ l. AreStepsTo courses n n l (i + 1)) (sym {A = List Step} c.in_ok-push.ensures.items)
    (steps-more courses n n c.loop-agent.steps.items i course c.stay.result c.loop-agent.invariant there (ap as_position c.stay.ensures.from ∙ c.place_after.ensures)
    (ap as_position c.stay.ensures.to ∙ c.place_after.ensures))

pub returns : goal.returns
returns c =
    let past = c.loop-agent-test.false in
    let end = c.loop-agent.auto.agent-end in
    steps-all c.args.courses.now c.args.count c.args.count c.loop-agent.steps.items c.loop-agent.agent c.loop-agent.invariant (omega (arith, past, end))
