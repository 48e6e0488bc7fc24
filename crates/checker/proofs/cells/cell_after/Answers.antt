-- Each act leads on, within the cells that a map may have.
use Rattle.std.proofs.Common.{◌+◌, drop, get_or, arith, subst, sym}
use Rattle.model.specs.declared.act.Act.TheVariants.{N}
use Rattle.checker.proofs.KeptLemmas.{LeadsAlong, along_in_range, first_in_range, along-next, along-end}
use Rattle.checker.proofs.cells.cell_after.Goals as goal

pub next_cell-cell-requires-clause-column : goal.next_cell-cell-requires-clause-column
next_cell-cell-requires-clause-column c =
    let acts = c.args.acts.now in
    let step = c.loop-step.step in
    let less = c.loop-step-test.true in
    let end = c.min-step-end.ensures in
    (first_in_range c.loop-step.cell (get_or acts step N) (drop (step + 1) acts)
    (along_in_range c.args.start c.loop-step.cell acts step c.requires c.loop-step.invariant (omega (arith, less, end)))).0

pub next_cell-cell-requires-clause-row : goal.next_cell-cell-requires-clause-row
next_cell-cell-requires-clause-row c =
    let acts = c.args.acts.now in
    let step = c.loop-step.step in
    let less = c.loop-step-test.true in
    let end = c.min-step-end.ensures in
    (first_in_range c.loop-step.cell (get_or acts step N) (drop (step + 1) acts)
    (along_in_range c.args.start c.loop-step.cell acts step c.requires c.loop-step.invariant (omega (arith, less, end)))).1

pub loop-step-preserved : goal.loop-step-preserved
loop-step-preserved c =
    let less = c.loop-step-test.true in
    let end = c.min-step-end.ensures in
    subst (LeadsAlong c.args.start c.args.acts.now (c.loop-step.step + 1)) (sym c.next_cell-cell.ensures)
    (along-next c.args.start c.loop-step.cell c.args.acts.now c.loop-step.step (omega (arith, less, end)) c.loop-step.invariant)

pub returns : goal.returns
returns c =
    let past = c.loop-step-test.false in
    let end = c.min-step-end.ensures in
    let most = c.loop-step.auto.step-end in
    along-end c.args.start c.loop-step.cell c.args.acts.now c.loop-step.step c.args.time (omega (arith, past, end, most)) c.loop-step.invariant
