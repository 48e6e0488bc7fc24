-- Each agent goes on by its act of the step.
use Rattle.std.proofs.Common.{◌≡◌, ◌+◌, ◌-◌, arith, sym, subst, ◌∙◌}
use Rattle.plan_commands.specs.Code.Walks.{AreStretches, begun}
use Rattle.plan_commands.proofs.WalkLemmas.{in_range, next_row, row_count}
use Rattle.plan_commands.proofs.walk.go_on.Goals as goal

pub walk_on-requires-clause-count : goal.walk_on-requires-clause-count
walk_on-requires-clause-count c =
    c.requires.stretches.count ∙ sym (row_count c.args.courses.now c.args.step c.args.cells.now c.requires.cells)

pub walk_on-requires-clause-range : goal.walk_on-requires-clause-range
walk_on-requires-clause-range c =
    in_range c.args.courses.now c.args.step c.args.cells.now c.args.stretches.now c.requires.walked c.requires.cells c.requires.stretches

pub come_to-requires-clause-before : goal.come_to-requires-clause-before
come_to-requires-clause-before c =
    let same : c.args.step ≡ c.args.step + 1 - 1 = omega arith in
    subst (λ n. AreStretches c.args.courses.now (begun n) c.args.stretches.now) same c.requires.stretches

pub returns-clause-cells : goal.returns-clause-cells
returns-clause-cells c =
    next_row c.args.courses.now c.args.step c.args.cells.now c.walk_on.new.cells c.args.stretches.now c.requires.cells c.requires.stretches c.walk_on.ensures.count
    c.walk_on.ensures.led
