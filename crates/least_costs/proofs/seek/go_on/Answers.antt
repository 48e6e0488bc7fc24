-- A state is put off, was closed before, or is left by each of its steps.
use Rattle.std.proofs.Common.{◌≤◌, inl, inr, arith, refl, subst, sym}
use Rattle.model.specs.Costs.{cost}
use Rattle.least_costs.specs.declared.frontier.Frontier.{Frontier}
use Rattle.least_costs.specs.Code.Searching.{AllGoOn, IsCostSearch, HasComeOn, wanted}
use Rattle.least_costs.specs.GoalView.{GoalView}
use Rattle.least_costs.proofs.SearchLemmas.{taken_dear, taken_on, taken_put, taken_seen}
use Rattle.least_costs.proofs.seek.go_on.Goals as goal

pub returns-then-through-from-clause-search : goal.returns-then-through-from-clause-search
returns-then-through-from-clause-search c =
    let q = c.args.query.now in
    let w = wanted c.args.goal.now q in
    let b = c.args.budget in
    let f = c.args.front.now in
    let g : Frontier = record f { waiting = c.pop.new.self } in
    let s = c.in-Some.state in
    elim c.in_ok-put_off.ensures [
      | inl has ↦ taken_put w b _ f g c.put_off.new.front s c.requires.search (record { waiting = c.in-Some.ensures.items; next = refl; after = refl }) refl
          (λ track is before there.
          (let within : s.time ≤ cost track = omega (arith, before) in
          let least = c.in_ok-steps.ensures.estimate q.start track s.time is.walker within there in omega (arith, least, c.from.ensures, c.from-2.ensures)))
          has
      | inr out ↦ subst (IsCostSearch w b) (sym out.0)
          (taken_dear w b _ f g s c.requires.search (record { waiting = c.in-Some.ensures.items; next = refl; after = refl }) refl
          (λ track is before there.
          (let within : s.time ≤ cost track = omega (arith, before) in
          let least = c.in_ok-steps.ensures.estimate q.start track s.time is.walker within there in omega (arith, least, c.from.ensures, c.from-2.ensures)))
          out.1)
    ]

pub returns-then-not-branch-clause-search : goal.returns-then-not-branch-clause-search
returns-then-not-branch-clause-search c =
    let w = wanted c.args.goal.now c.args.query.now in
    let f = c.args.front.now in
    let g : Frontier = record f { closed = c.add.new.self; waiting = c.pop.new.self } in
    let old = c.in_ok-add.ensures.old c.if-not-branch.true in
    taken_seen w c.args.budget f g c.in-Some.state c.requires.search (record { waiting = c.in-Some.ensures.items; next = refl; after = refl }) old.0 old.1

pub returns-else-branch-clause-search : goal.returns-else-branch-clause-search
returns-else-branch-clause-search c =
    let q = c.args.query.now in
    let w = wanted c.args.goal.now q in
    let b = c.args.budget in
    let f = c.args.front.now in
    let g : Frontier = record f { closed = c.add.new.self; waiting = c.pop.new.self } in
    let h = c.expand.new.front in
    let s = c.in-Some.state in
    taken_on w b f g h s c.requires.search (record { waiting = c.in-Some.ensures.items; next = refl; after = refl }) (c.in_ok-add.ensures.new c.if-not-branch.false)
    (subst (λ (v : GoalView). HasComeOn (wanted v q) b g h) c.exactly.ensures.same (c.in_ok-expand.ensures.leads c.if-branch.false))
    (subst (λ (v : GoalView). AllGoOn (wanted v q) h s.cell s.time) c.exactly.ensures.same (c.in_ok-expand.ensures.goes c.if-branch.false))
