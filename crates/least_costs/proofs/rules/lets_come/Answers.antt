-- A walk comes no further than by one a step.
use Rattle.std.proofs.Common.{◌≡◌, ◌∙◌, ◌+◌, ◌-◌, ◌≤◌, arith, rules, ap, subst}
use Rattle.model.specs.Timetable.{cell_at}
use Rattle.optimality.specs.Constraints.{Meets}
use Rattle.least_costs.specs.Code.Places.{between}
use Rattle.least_costs.proofs.ApartLemmas.{walk_apart}
use Rattle.least_costs.proofs.rules.lets_come.Goals as goal

pub returns-in-There : goal.returns-in-There
returns-in-There c = λ e m ends track walk meets here.
    let at = c.in-There.at in
    let time = c.args.time in
    let there = c.in-There.there in
    let due = subst (Meets track) c.in-There.is meets in
    let on : time + (at - time) ≡ at = omega (arith, c.if-at-time.true) in
    let most = walk_apart m ends track walk (at - time) time there (ap (cell_at track) on ∙ due) in
    let near : between c.args.cell there ≤ at - time = subst (λ u. between u there ≤ at - time) here most in
    let within : c.steps_between.result ≤ at - time = omega (arith, near, c.steps_between.ensures.value) in
    search rules
