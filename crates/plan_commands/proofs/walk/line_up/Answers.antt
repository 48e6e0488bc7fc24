-- The acts of one agent more.
use Rattle.std.proofs.Common.{length, arith, refl, ◌∙◌}
use Rattle.std.proofs.lemmas.List.{length-set}
use Rattle.std.proofs.lemmas.Option.{slice_get_read}
use Rattle.plan_commands.proofs.WalkLemmas.{lined_set, own_stretch}
use Rattle.plan_commands.proofs.walk.line_up.Goals as goal

pub loop-agent-init : goal.loop-agent-init
loop-agent-init c = record { lined_up = λ i less. absurd (omega (arith, less)); count = c.requires.count }

pub loop-agent-preserved : goal.loop-agent-preserved
loop-agent-preserved c =
    let courses = c.args.courses.now in
    let n = c.loop-agent.agent in
    let was = c.loop-agent.invariant in
    let less = c.loop-agent-test.true in
    let count = was.count in
    let there = slice_get_read courses (length courses) n c.index-courses-agent.result refl less c.index-courses-agent.is in
    let own = own_stretch courses n c.index-courses-agent.result c.acts.result.now c.args.step c.of.result there c.acts.ensures c.of.ensures in
    record {
      lined_up = lined_set courses c.args.step n c.loop-agent.stretches c.of.result was.lined_up (omega (arith, less, count)) own;
      count = length-set c.loop-agent.stretches n c.of.result ∙ count;
    }

pub returns : goal.returns
returns c =
    let over = c.loop-agent-test.false in
    record { count = c.loop-agent.invariant.count; each = λ i less. c.loop-agent.invariant.lined_up i (omega (arith, less, over)) }
