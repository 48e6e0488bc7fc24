-- A step elsewhere doesn't come to rest in the goal, nor does one that waits there.
use Rattle.std.proofs.Common.{◌≡◌, ◌∙◌, rules, sym}
use Rattle.least_costs.specs.Code.Searching.{wanted}
use Rattle.least_costs.proofs.SearchLemmas.{elsewhere, waits}
use Rattle.least_costs.proofs.expand.rests.Goals as goal
use Rattle.least_costs.proofs.expand.rests.Goals.{then-ne-via-then-ne, then-ne-via-else-ne+then-eq}

pub returns-then-ne : goal.returns-then-ne
returns-then-ne c = λ _.
    let turn = c.args.turn in
    let want = wanted c.args.goal.now c.args.query.now in
    elim c.then-ne.branch [
      | then-ne-via-then-ne w ↦ elsewhere want turn.time turn.cell c.args.to (λ same.
          (let there : c.args.to ≡ c.goal-end.result = same ∙ sym c.goal-end.ensures in let never : ⊥ = search rules in never))
      | then-ne-via-else-ne+then-eq w ↦
          let there : turn.cell ≡ c.args.goal.now.goal = search rules in
          waits want c.costs.ensures.cost turn.time turn.cell c.args.to there
    ]
