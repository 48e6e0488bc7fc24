-- Each agent goes on by the act that was read.
use Rattle.std.proofs.Common.{arith, refl, sym, ap₂, subst, ◌∙◌}
use Rattle.checker.specs.Moving.{cell_by}
use Rattle.plan_commands.specs.Code.Walks.{IsCellInRange}
use Rattle.plan_commands.proofs.WalkLemmas.{led_more, read_act}
use Rattle.plan_commands.proofs.walk.walk_on.Goals as goal

pub loop-agent-init : goal.loop-agent-init
loop-agent-init c = record { count = refl; led = λ i less. absurd (omega (arith, less)); rest = λ i past. refl }

pub next_cell-requires-clause-column : goal.next_cell-requires-clause-column
next_cell-requires-clause-column c =
    let stretches = c.args.stretches.now in
    let i = c.loop-agent.agent in
    let step = c.args.step in
    let less = c.loop-agent-test.true in
    let end = c.requires.count in
    let within = c.requires.step in
    let long = c.acts.ensures.count in
    let act = read_act stretches i step c.index-stretches-agent.result c.acts.result.now (omega (arith, less, end)) c.index-stretches-agent.is c.acts.ensures.value
    (omega (arith, within, long)) in
    (subst IsCellInRange (sym (ap₂ cell_by act (c.loop-agent.invariant.rest i (omega arith)))) (c.requires.range i less)).column

pub next_cell-requires-clause-row : goal.next_cell-requires-clause-row
next_cell-requires-clause-row c =
    let stretches = c.args.stretches.now in
    let i = c.loop-agent.agent in
    let step = c.args.step in
    let less = c.loop-agent-test.true in
    let end = c.requires.count in
    let within = c.requires.step in
    let long = c.acts.ensures.count in
    let act = read_act stretches i step c.index-stretches-agent.result c.acts.result.now (omega (arith, less, end)) c.index-stretches-agent.is c.acts.ensures.value
    (omega (arith, within, long)) in
    (subst IsCellInRange (sym (ap₂ cell_by act (c.loop-agent.invariant.rest i (omega arith)))) (c.requires.range i less)).row

pub loop-agent-preserved : goal.loop-agent-preserved
loop-agent-preserved c =
    let stretches = c.args.stretches.now in
    let i = c.loop-agent.agent in
    let step = c.args.step in
    let less = c.loop-agent-test.true in
    let end = c.requires.count in
    let within = c.requires.step in
    let long = c.acts.ensures.count in
    let act = read_act stretches i step c.index-stretches-agent.result c.acts.result.now (omega (arith, less, end)) c.index-stretches-agent.is c.acts.ensures.value
    (omega (arith, within, long)) in
    led_more stretches step c.args.cells.now c.loop-agent.cells i c.next_cell.result c.loop-agent.invariant less
    (c.next_cell.ensures ∙ ap₂ cell_by act (c.loop-agent.invariant.rest i (omega arith)))
