-- The cell is settled, or nothing waits any more.
use Rattle.std.proofs.Common.{◌≡◌, ◌∙◌, ◌≤◌, arith, sym, subst}
use Rattle.std.proofs.lemmas.Bool.{eqb-true}
use Rattle.std.proofs.lemmas.List.{nil_from_length}
use Rattle.least_costs.specs.Code.Marks.{mark_at}
use Rattle.least_costs.specs.Code.Tables.{IsEstimate}
use Rattle.least_costs.proofs.FarLemmas.{whole_estimate}
use Rattle.least_costs.proofs.goal_search.GoalSearch.seek.Goals as goal

pub returns-in-Some-clause-estimate : goal.returns-in-Some-clause-estimate
returns-in-Some-clause-estimate c =
    let m = c.args.legal.now in
    subst (λ g. IsEstimate (record { map = m; goal = g }) c.args.cell c.in-Some.steps) c.loop.invariant.1 (c.in-Some.ensures m c.loop.invariant.0)

pub returns-then-is_empty-2-clause-estimate : goal.returns-then-is_empty-2-clause-estimate
returns-then-is_empty-2-clause-estimate c =
    let m = c.args.legal.now in
    let s = c.loop.self in
    let cell = c.args.cell in
    let none : s.next.len ≡ 0 = eqb-true s.next.len 0 (sym c.is_empty.ensures ∙ c.if-is_empty.true) in
    let none_later : s.later.len ≡ 0 = eqb-true s.later.len 0 (sym c.is_empty-then-is_empty.ensures ∙ c.if-is_empty-2.true) in
    let limit : mark_at s.marks cell ≤ 4294967295 = omega (arith, c.at.ensures.mark, c.at.ensures.limit) in
    subst (λ g. IsEstimate (record { map = m; goal = g }) cell c.at.result) c.loop.invariant.1
    (subst (IsEstimate (record { map = m; goal = s.goal }) cell) (sym c.at.ensures.mark)
    (whole_estimate m s.goal s.start s.marks s.next.items s.later.items s.through c.loop.invariant.0
    (nil_from_length s.next.items (omega (arith, none, s.next.ok.0))) (nil_from_length s.later.items (omega (arith, none_later, s.later.ok.0))) cell limit))
