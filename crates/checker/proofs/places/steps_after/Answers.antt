-- One agent more.
use Rattle.std.proofs.Common.{◌+◌, arith, refl, sym, subst}
use Rattle.checker.specs.Code.Places.{as_position, step_in, IsNear}
use Rattle.checker.proofs.PlaceLemmas.{AreStepsTo, course_limits, near, act_leads, steps-more, steps-all}
use Rattle.checker.proofs.SingleLemmas.{course_read}
use Rattle.checker.proofs.places.steps_after.Goals as goal

pub after-to-requires : goal.after-to-requires
after-to-requires c =
    let courses = c.args.courses.now in
    let i = c.loop-agent.agent in
    let course = c.index-courses-agent.result in
    let there = course_read courses courses i course refl c.loop-agent-test.true c.index-courses-agent.is in
    subst IsNear (sym (c.requires.standing.to i course there)) (near course c.args.number (course_limits courses i course c.requires.courses there))

pub loop-agent-preserved : goal.loop-agent-preserved
loop-agent-preserved c =
    let courses = c.args.courses.now in
    let i = c.loop-agent.agent in
    let n = c.args.number in
    let course = c.index-courses-agent.result in
    let there = course_read courses courses i course refl c.loop-agent-test.true c.index-courses-agent.is in
    let from = (step_in c.args.standing.now i).to in
    let at = c.requires.standing.to i course there in
    subst (λ l. AreStepsTo courses n (n + 1) l (i + 1)) (sym c.in_ok-push.ensures.items)
    (steps-more courses n (n + 1) c.loop-agent.steps.items i course (record { from = from; to = c.after-to.result }) c.loop-agent.invariant there at
    (act_leads course c.acts.result.now n (as_position from) (as_position c.after-to.result) c.acts.ensures at c.after-to.ensures))

pub returns : goal.returns
returns c =
    let past = c.loop-agent-test.false in
    let end = c.loop-agent.auto.agent-end in
    let n = c.args.number in
    steps-all c.args.courses.now n (n + 1) c.loop-agent.steps.items c.loop-agent.agent c.loop-agent.invariant (omega (arith, past, end))
