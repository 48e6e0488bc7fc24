-- Each step up to this one.
use Rattle.std.proofs.Common.{◌≡◌, ◌+◌, ◌-◌, ◌<◌, length, inl, inr, arith, rules, subst}
use Rattle.std.specs.Prelude.{slice_index_or}
use Rattle.std.proofs.lemmas.Bool.{cases_lt}
use Rattle.std.proofs.lemmas.Option.{slice_get_within}
use Rattle.grid.specs.declared.cell.Cell.{Cell}
use Rattle.grid.specs.Map.{IsStraightStep}
use Rattle.optimality.specs.Walkers.{MayFollow}
use Rattle.least_costs.proofs.AlongLemmas.{at_place}
use Rattle.least_costs.proofs.way.are_steps.Goals as goal
use Rattle.least_costs.proofs.way.are_steps.Goals.{else-ne-via-then-ne+else-not-is_step, else-ne-via-else-ne}

pub loop-at-preserved : goal.loop-at-preserved
loop-at-preserved c = λ k u v less first second.
    let m = c.args.legal.now in
    let cells = c.args.walk.now in
    let at = c.loop-at.at in
    let none : Cell = record { x = 0; y = 0 } in
    let from = slice_index_or cells (at - 1) none in
    let to = slice_index_or cells at none in
    elim (cases_lt (k + 1) at) [
      | inl before ↦ c.loop-at.invariant k u v before first second
      | inr past ↦
          let last : k + 1 ≡ at = omega (arith, less, past) in
          let place : k ≡ at - 1 = omega (arith, last) in
          let within : at < length cells = c.loop-at-test.true in
          let earlier : at - 1 < length cells = omega (arith, within) in
          let may : MayFollow m from to = elim c.else-ne.branch [
            | else-ne-via-then-ne+else-not-is_step w ↦ (let step : IsStraightStep m from to = search rules in inr step)
            | else-ne-via-else-ne w ↦ (let same : to ≡ from = search rules in inl same)
          ] in
          subst (λ (x : Cell). MayFollow m x v) (at_place cells none k (at - 1) u place earlier first)
          (subst (MayFollow m from) (at_place cells none (k + 1) at v last within second) may)
    ]

pub returns : goal.returns
returns c = λ _ k u v first second.
    let within = slice_get_within c.args.walk.now (k + 1) v second in
    c.loop-at.invariant k u v (omega (arith, within, c.loop-at-test.false)) first second
