-- It waits behind the others, by how many steps a way through it takes.
use Rattle.std.proofs.Common.{◌≡◌, ◌+◌, length, inr, arith, sym, subst}
use Rattle.least_costs.specs.Code.GoalSearches.{IsAmongThem, IsSpread}
use Rattle.least_costs.specs.Code.Places.{between}
use Rattle.least_costs.proofs.GoalSearchLemmas.{waits_later, waits_next}
use Rattle.least_costs.proofs.ListLemmas.{get-last}
use Rattle.least_costs.proofs.goal_search.GoalSearch.wait.Goals as goal

pub returns-then-through-from-clause-search : goal.returns-then-through-from-clause-search
returns-then-through-from-clause-search c = λ m is.
    let s = c.args.self.now in
    let w = c.args.waiting in
    let sum : w.steps + between w.cell s.start ≡ s.through = omega (arith, c.if-through-from.true, c.from.ensures, c.from-2.ensures, c.from-3.ensures, c.steps_between.ensures.value) in
    subst (λ l. IsSpread m s.goal s.start s.marks l s.later.items s.through) (sym c.in_ok-put_last.ensures.put)
    (waits_next m s.goal s.start s.marks s.next.items s.later.items s.through w sum is)

pub returns-then-through-from-2-clause-search : goal.returns-then-through-from-2-clause-search
returns-then-through-from-2-clause-search c = λ m is.
    let s = c.args.self.now in
    let w = c.args.waiting in
    let sum : w.steps + between w.cell s.start ≡ s.through + 2 = omega (arith, c.if-through-from-2.true, c.from.ensures, c.from-2.ensures, c.from-4.ensures, c.steps_between.ensures.value) in
    subst (λ l. IsSpread m s.goal s.start s.marks s.next.items l s.through) (sym c.in_ok-put_last-2.ensures.put)
    (waits_later m s.goal s.start s.marks s.next.items s.later.items s.through w sum is)

pub returns-then-through-from-2-clause-waits : goal.returns-then-through-from-2-clause-waits
returns-then-through-from-2-clause-waits c =
    let s = c.args.self.now in
    let w = c.args.waiting in
    inr (subst (λ l. IsAmongThem l w.cell w.steps) (sym c.in_ok-put_last-2.ensures.put) (length s.later.items, get-last s.later.items w))
