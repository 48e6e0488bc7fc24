-- From the start to the goal, step by step.
use Rattle.std.proofs.Common.{◌≡◌, ◌∙◌, ◌<◌, length, Some, true, arith, rules, ap}
use Rattle.std.specs.Prelude.{slice_index_or}
use Rattle.std.proofs.lemmas.Option.{slice_get-get_or}
use Rattle.grid.specs.declared.cell.Cell.{Cell}
use Rattle.model.specs.Plan.{IsPassable}
use Rattle.least_costs.proofs.AlongLemmas.{walks}
use Rattle.least_costs.proofs.way.is_way.Goals as goal

pub returns-clause-walker : goal.returns-clause-walker
returns-clause-walker c = λ _.
    let cells = c.args.walk.now in
    let ends = c.args.ends in
    let n = c.cost_of-cost.result in
    let none : Cell = record { x = 0; y = 0 } in
    let some : 0 < length cells = omega (arith, c.if-walk-cost.false) in
    let within : n < length cells = omega (arith, c.if-walk-cost.false) in
    let first : slice_index_or cells 0 none ≡ ends.start = search rules in
    let last : slice_index_or cells n none ≡ ends.goal = search rules in
    let passable : IsPassable c.args.legal.now ends.start = search rules in
    let followed : c.are_steps.result ≡ true = search rules in
    walks c.args.legal.now ends cells n (slice_get-get_or cells 0 none some ∙ ap Some first) c.cost_of-cost.ensures.cost
    (slice_get-get_or cells n none within ∙ ap Some last) passable (c.are_steps.ensures followed)
