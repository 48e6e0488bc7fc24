-- Each agent's first bad move is held against the first of those before.
use Rattle.std.proofs.Common.{◌≡◌, arith, length, refl, subst}
use Rattle.std.proofs.lemmas.Option.{slice_get_read}
use Rattle.plan_commands.specs.Code.Straying.{IsLeastMove}
use Rattle.plan_commands.proofs.StrayLemmas.{least_more}
use Rattle.plan_commands.proofs.straying.bad_move.Goals as goal

pub loop-agent-preserved : goal.loop-agent-preserved
loop-agent-preserved c =
    let courses = c.args.courses.now in
    let agent = c.loop-agent.agent in
    let there = slice_get_read courses (length courses) agent c.index-courses-agent.result refl c.loop-agent-test.true c.index-courses-agent.is in
    rw c.sooner-first.ensures (least_more c.args.map.now courses agent c.index-courses-agent.result there c.loop-agent.first c.bad_step.result c.loop-agent.invariant c.bad_step.ensures)

pub returns : goal.returns
returns c =
    let over = c.loop-agent-test.false in
    let most = c.loop-agent.auto.agent-end in
    let all : c.loop-agent.agent ≡ length c.args.courses.now = omega (arith, over, most) in
    subst (λ n. IsLeastMove c.args.map.now c.args.courses.now n c.loop-agent.first) all c.loop-agent.invariant
