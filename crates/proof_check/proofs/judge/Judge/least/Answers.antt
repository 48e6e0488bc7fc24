-- What was found is of this agent, by what is asked of it.
use Rattle.std.proofs.Common.{◌≡◌, ◌∙◌, ◌<◌, List, Some, ap, arith, inl, inr, length, refl, subst}
use Rattle.std.proofs.lemmas.Bool.{cases_lt}
use Rattle.std.specs.Prelude.{slice_get}
use Rattle.std.proofs.lemmas.Option.{slice_get_read}
use Rattle.least_costs.specs.GoalView.{GoalView}
use Rattle.optimality.specs.declared.constraint.Constraint.{Constraint}
use Rattle.optimality.specs.declared.constraint.Ends.{Ends}
use Rattle.optimality.specs.Walkers.{CostsAtLeast, IsLeastCost}
use Rattle.optimality.specs.Constraints.{constraints_of}
use Rattle.optimality.specs.declared.constraint.Demand.{Demand}
use Rattle.proof_check.proofs.TrailLemmas.{of_agent}
use Rattle.proof_check.proofs.judge.Judge.least.Goals as goal

pub returns-clause-least : goal.returns-clause-least
returns-clause-least c = λ m own tables there.
    let ends = c.args.self.now.ends.items in
    let all = c.args.self.now.tables.items in
    let agent = c.args.agent in
    let found = c.in-Some.ensures.lookup in
    let cost = c.in_ok-found.found.cost in
    let view = c.index_mut-table.result.now in
    let its = subst (λ (l : List Ends). slice_get l agent ≡ Some c.in-Some.own.now) c.deref.ensures.value
    (slice_get_read c.deref.result.now (length c.deref.result.now) agent c.in-Some.own.now refl found.3.0 found.1) in
    let within : agent < length all = omega (arith, c.if-agent-len.false, c.len.ensures, c.args.self.now.tables.ok) in
    let at = slice_get_read all (length all) agent view refl within c.index_mut-table.ensures.value in
    of_agent
    (λ (v : GoalView) (e : Ends) (asked : List Constraint). CostsAtLeast v.map (record { start = e.start; goal = v.goal }) asked c.args.from
    → CostsAtLeast v.map (record { start = e.start; goal = v.goal }) asked cost)
    m ends all agent own c.in-Some.own.now view _ _ tables there its at
    (c.deref-3.ensures.value ∙ c.in_ok-put_constraints.ensures ∙ ap (λ (d : List Demand). constraints_of d agent) c.deref-2.ensures.value) c.in_ok-found.ensures.bound

pub returns-clause-costs : goal.returns-clause-costs
returns-clause-costs c = λ m own tables there known less.
    let ends = c.args.self.now.ends.items in
    let all = c.args.self.now.tables.items in
    let agent = c.args.agent in
    let found = c.in-Some.ensures.lookup in
    let cost = c.in_ok-found.found.cost in
    let view = c.index_mut-table.result.now in
    let its = subst (λ (l : List Ends). slice_get l agent ≡ Some c.in-Some.own.now) c.deref.ensures.value
    (slice_get_read c.deref.result.now (length c.deref.result.now) agent c.in-Some.own.now refl found.3.0 found.1) in
    let within : agent < length all = omega (arith, c.if-agent-len.false, c.len.ensures, c.args.self.now.tables.ok) in
    let at = slice_get_read all (length all) agent view refl within c.index_mut-table.ensures.value in
    elim (cases_lt 0 (length c.in_ok-found.found.walk.items)) [
      | inl some ↦
          of_agent
          (λ (v : GoalView) (e : Ends) (asked : List Constraint). CostsAtLeast v.map (record { start = e.start; goal = v.goal }) asked c.args.from
          → 0 < length c.in_ok-found.found.walk.items → IsLeastCost v.map (record { start = e.start; goal = v.goal }) asked cost)
          m ends all agent own c.in-Some.own.now view _ _ tables there its at
          (c.deref-3.ensures.value ∙ c.in_ok-put_constraints.ensures ∙ ap (λ (d : List Demand). constraints_of d agent) c.deref-2.ensures.value)
          c.in_ok-found.ensures.walk known some
      | inr none ↦ absurd (let most = c.in_ok-found.ensures.limit (omega (arith, none)) in omega (arith, most, less))
    ]
