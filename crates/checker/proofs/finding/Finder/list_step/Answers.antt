-- The ranks of the time, one after another.
use Rattle.std.proofs.Common.{◌≡◌, ◌+◌, arith, sym, subst}
use Rattle.checker.specs.Code.Known.{key_with, IsListedTo}
use Rattle.checker.specs.Code.Places.{AreSteps}
use Rattle.checker.proofs.SameFaults.{longest-few}
use Rattle.checker.proofs.KnownLemmas.{listed-skip}
use Rattle.checker.proofs.PlaceLemmas.{steps-stay}
use Rattle.checker.proofs.RankLemmas.{last-rank-gap}
use Rattle.checker.proofs.finding.Finder.list_step.Goals as goal

pub overflow_add-number : goal.overflow_add-number
overflow_add-number c =
    let few = longest-few c.args.self.now.plan.now.courses c.courses.ensures.within.courses in
    let within = c.requires.within in
    omega (arith, few, within)

pub returns-clause-standing : goal.returns-clause-standing
returns-clause-standing c =
    let courses = c.args.self.now.plan.now.courses in
    let n = c.args.number in
    steps-stay courses n (n + 1) c.deref-2.result.now c.in_ok-standing.standing.items
    (subst (AreSteps courses n (n + 1)) (sym c.deref-2.ensures.value) (subst (λ l. AreSteps l n (n + 1) c.in_ok-steps.steps.items) c.courses.ensures.courses c.in_ok-steps.ensures))
    c.in_ok-standing.ensures

pub list_vertices-requires-clause-standing : goal.list_vertices-requires-clause-standing
list_vertices-requires-clause-standing c =
    let courses = c.args.self.now.plan.now.courses in
    let n = c.args.number in
    subst (AreSteps courses (n + 1) (n + 1)) (sym c.deref-3.ensures.value)
    (steps-stay courses n (n + 1) c.deref-2.result.now c.in_ok-standing.standing.items
    (subst (AreSteps courses n (n + 1)) (sym c.deref-2.ensures.value) (subst (λ l. AreSteps l n (n + 1) c.in_ok-steps.steps.items) c.courses.ensures.courses c.in_ok-steps.ensures))
    c.in_ok-standing.ensures)

pub returns-clause-listed : goal.returns-clause-listed
returns-clause-listed c =
    let m = c.args.self.now.map.now in
    let p = c.args.self.now.plan.now in
    let n = c.args.number in
    let later : n + 1 + 1 ≡ n + 2 = omega arith in
    subst (λ t. IsListedTo m p (key_with t 0 0 0) c.list_swaps.new.listing) later
    (listed-skip m p (key_with (n + 1) 3 0 0) (key_with (n + 1 + 1) 0 0 0) c.list_swaps.new.listing c.in_ok-list_swaps.ensures.listed (last-rank-gap m p (n + 1)))
