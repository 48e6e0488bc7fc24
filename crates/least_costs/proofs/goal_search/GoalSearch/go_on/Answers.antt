-- What is left out has spread, or was reached by a shorter way.
use Rattle.std.proofs.Common.{◌≡◌, ◌∙◌, ◌-◌, ◌<◌, length, Some, arith, refl, sym, ap, subst}
use Rattle.std.specs.Prelude.{slice_get}
use Rattle.std.proofs.lemmas.Option.{slice_get_read}
use Rattle.least_costs.specs.declared.goal_search.GoalSearch.{GoalSearch}
use Rattle.least_costs.specs.Code.GoalSearches.{HasSpread, IsGoalSearch, IsSpread}
use Rattle.least_costs.specs.Code.Marks.{mark_at}
use Rattle.least_costs.proofs.GoalSearchLemmas.{left_out}
use Rattle.least_costs.proofs.goal_search.GoalSearch.go_on.Goals as goal
use Rattle.least_costs.proofs.goal_search.GoalSearch.go_on.Goals.{then-at-waiting+in_ok-spread, else-at-waiting}

pub returns-then-count-eq0-clause-search : goal.returns-then-count-eq0-clause-search
returns-then-count-eq0-clause-search c = c.turn.ensures.search c.args.legal.now c.requires

pub returns-clause-search : goal.returns-clause-search
returns-clause-search c =
    let m = c.args.legal.now in
    let old = c.args.self.now in
    let s = c.if-at-waiting.self in
    let last = c.len-count.result - 1 in
    let w = c.index-waiting.result.now in
    let some : last < length old.next.items = omega (arith, c.if-count-eq0.false, c.len-count.ensures, old.next.ok.0) in
    let there : slice_get old.next.items last ≡ Some w = slice_get_read old.next.items (length old.next.items) last w refl some c.index-waiting.ensures in
    let search : IsGoalSearch m s = elim c.if-at-waiting.branch [
      | then-at-waiting+in_ok-spread v ↦ subst (IsGoalSearch m) (sym v.self-is) v.spread.ensures.search
      | else-at-waiting v ↦ subst (IsGoalSearch m) (sym v.self-is) c.requires
    ] in
    let still : slice_get s.next.items last ≡ Some w = elim c.if-at-waiting.branch [
      | then-at-waiting+in_ok-spread v ↦ subst (λ (t : GoalSearch). slice_get t.next.items last ≡ Some w) (sym v.self-is) (v.spread.ensures.beyond.next last w there)
      | else-at-waiting v ↦ subst (λ (t : GoalSearch). slice_get t.next.items last ≡ Some w) (sym v.self-is) there
    ] in
    let done : mark_at s.marks w.cell ≡ w.steps → HasSpread m s.marks w.cell = λ same. elim c.if-at-waiting.branch [
      | then-at-waiting+in_ok-spread v ↦ subst (λ (t : GoalSearch). HasSpread m t.marks w.cell) (sym v.self-is) v.in_ok-spread.ensures.spread
      | else-at-waiting v ↦ absurd (v.if-at-waiting.false (c.at.ensures.mark ∙ sym (ap (λ (t : GoalSearch). mark_at t.marks w.cell) v.self-is) ∙ same))
    ] in
    subst (λ l. IsSpread m s.goal s.start s.marks l s.later.items s.through) (sym c.swap_remove.ensures.items)
    (left_out m s.goal s.start s.marks s.next.items s.later.items s.through last w c.swap_remove.result still done search)
