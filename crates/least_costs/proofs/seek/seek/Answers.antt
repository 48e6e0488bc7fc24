-- From budget to budget.
use Rattle.std.proofs.Common.{◌≡◌, ◌∙◌, [], refl, subst}
use Rattle.std.proofs.lemmas.Option.{MatchOption-at_none}
use Rattle.least_costs.specs.Code.Searching.{IsCostSearch, wanted}
use Rattle.least_costs.specs.GoalView.{GoalView}
use Rattle.least_costs.proofs.SearchLemmas.{begun, exhausted, raised, unreached}
use Rattle.least_costs.proofs.seek.seek.Goals as goal

pub loop-budget-init : goal.loop-budget-init
loop-budget-init c =
    let begin = c.in_ok-begin.ensures in (
      refl,
      begun (wanted c.args.goal.now c.args.query.now) c.args.first c.begin.new.self begin.closed begin.waiting begin.next begin.after c.requires.ready.some,
      λ all. all,
    )

pub returns-then-not-raise-clause-found : goal.returns-then-not-raise-clause-found
returns-then-not-raise-clause-found c = λ _.
    let q = c.args.query.now in
    let b = c.loop-budget.budget in
    let f = c.exhaust.new.front in
    let both = MatchOption-at_none (IsCostSearch (wanted c.loop-budget.goal q) b f × (f.waiting.items ≡ [])) (λ _. Unit {0}) c.in_default.is c.in_ok-from.ensures.search in
    let none = c.raise.ensures.none c.if-not-raise.true in
    unreached (wanted c.args.goal.now q) b f (subst (λ (v : GoalView). IsCostSearch (wanted v q) b f) c.loop-budget.invariant.0 both.0) both.1 none.0 none.1

pub loop-budget-preserved : goal.loop-budget-preserved
loop-budget-preserved c =
    let q = c.args.query.now in
    let w = wanted c.args.goal.now q in
    let b = c.loop-budget.budget in
    let f = c.exhaust.new.front in
    let both = MatchOption-at_none (IsCostSearch (wanted c.loop-budget.goal q) b f × (f.waiting.items ≡ [])) (λ _. Unit {0}) c.in_default.is c.in_ok-from.ensures.search in
    let reach = subst (λ (v : GoalView). IsCostSearch (wanted v q) b f) c.loop-budget.invariant.0 both.0 in (
      c.in_ok-from.ensures.same ∙ c.loop-budget.invariant.0,
      raised w b f c.raise.new.self c.raise.result reach both.1 c.raise.ensures,
      λ _. exhausted w b f reach both.1,
    )
