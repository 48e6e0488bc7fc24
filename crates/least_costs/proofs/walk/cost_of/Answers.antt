-- The walk rests from the last cell on that differs from the one before.
use Rattle.std.proofs.Common.{◌≡◌, ◌+◌, ◌-◌, ◌<◌, length, arith, rules, sym, subst}
use Rattle.std.specs.Prelude.{slice_index_or}
use Rattle.grid.specs.declared.cell.Cell.{Cell}
use Rattle.least_costs.proofs.AlongLemmas.{RestsBefore, cost_along, rests_anew, rests_on}
use Rattle.least_costs.proofs.walk.cost_of.Goals as goal
use Rattle.least_costs.proofs.walk.cost_of.Goals.{then-ne, else-ne}

pub loop-at-preserved : goal.loop-at-preserved
loop-at-preserved c =
    let cells = c.args.walk.now in
    let at = c.loop-at.at in
    let none : Cell = record { x = 0; y = 0 } in
    let within : at < length cells = c.loop-at-test.true in
    let later : 0 < at = omega (arith, c.loop-at.invariant.0) in
    elim c.if-ne.branch [
      | then-ne w ↦
          let differ : slice_index_or cells at none ≡ slice_index_or cells (at - 1) none → ⊥ = search rules in
          subst (λ r. RestsBefore cells r (at + 1)) (sym w.rest-is) (rests_anew cells none at later within differ)
      | else-ne w ↦
          let same : slice_index_or cells at none ≡ slice_index_or cells (at - 1) none = search rules in
          subst (λ r. RestsBefore cells r (at + 1)) (sym w.rest-is) (rests_on cells none c.loop-at.rest at within same c.loop-at.invariant)
    ]

pub returns-clause-cost : goal.returns-clause-cost
returns-clause-cost c =
    let rests = c.loop-at.invariant in
    cost_along c.costs.ensures.cost c.args.walk.now c.loop-at.rest c.loop-at.at rests.0 c.loop-at-test.false rests.2 rests.3
