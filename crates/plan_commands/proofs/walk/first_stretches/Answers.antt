-- The acts of one agent more.
use Rattle.std.proofs.Common.{◌+◌, length, arith, refl, rules, sym, subst}
use Rattle.std.proofs.lemmas.Option.{slice_get_read}
use Rattle.plan_commands.proofs.WalkLemmas.{AreLinedUp, lined_push, own_stretch}
use Rattle.plan_commands.proofs.walk.first_stretches.Goals as goal

pub loop-agent-init : goal.loop-agent-init
loop-agent-init c = record { lined_up = λ i less. absurd (omega (arith, less)); count = search rules }

pub loop-agent-preserved : goal.loop-agent-preserved
loop-agent-preserved c =
    let courses = c.args.courses.now in
    let n = c.loop-agent.agent in
    let there = slice_get_read courses (length courses) n c.index-courses-agent.result refl c.loop-agent-test.true c.index-courses-agent.is in
    let own = own_stretch courses n c.index-courses-agent.result c.acts.result.now 0 c.of.result there c.acts.ensures c.of.ensures in
    record {
      lined_up = subst (λ l. AreLinedUp courses 0 l (n + 1)) (sym c.in_ok-push.ensures.items)
          (lined_push courses 0 n c.loop-agent.stretches.items c.of.result c.loop-agent.invariant.lined_up c.loop-agent.invariant.count own);
      count = search rules;
    }

pub returns : goal.returns
returns c =
    let over = c.loop-agent-test.false in
    let end = c.loop-agent.auto.agent-end in
    let count = c.loop-agent.invariant.count in
    record { count = omega (arith, over, end, count); each = λ i less. c.loop-agent.invariant.lined_up i (omega (arith, less, over)) }
