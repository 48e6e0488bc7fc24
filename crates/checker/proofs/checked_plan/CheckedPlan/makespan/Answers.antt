-- Each agent's cost is the number of its acts.
use Rattle.std.proofs.Common.{ltb, eqb, Bool, true, false, cond, ◌≡◌, ℕ, max, length, arith, refl, ap, subst, ◌∙◌}
use Rattle.std.proofs.lemmas.Option.{slice_get_read}
use Rattle.std.specs.declared.cmp.Ordering.TheVariants.{Less, Equal, Greater}
use Rattle.std.specs.Ordering.{is_lt, ord_max, nat_cmp}
use Rattle.std.proofs.lemmas.Bool.{ltb-true, ltb-false}
use Rattle.checker.specs.Checking.{IsChecked}
use Rattle.checker.proofs.KeptLemmas.{kept, greatest-more}
use Rattle.checker.proofs.checked_plan.CheckedPlan.makespan.Goals as goal

greater : (a b : ℕ) → ord_max nat_cmp a b ≡ max a b
greater a b = by_test (ltb b a) refl (eqb b a) where
  by_test : (t : Bool) → ltb b a ≡ t → (u : Bool) → cond (is_lt (cond t Less (cond u Equal Greater))) a b ≡ max a b
  by_test true e u = let less = ltb-true b a e in omega (arith, less)
  by_test false e true = let most = ltb-false b a e in omega (arith, most)
  by_test false e false = let most = ltb-false b a e in omega (arith, most)

max_more : (before cost others rest all now : ℕ) → rest ≡ max cost others → max before rest ≡ all → now ≡ max before cost → max now others ≡ all
max_more before cost others rest all now e f g = omega (arith, e, f, g)

pub overflow_cast-acts : goal.overflow_cast-acts
overflow_cast-acts c =
    let now = c.loop-course.invariant in
    let items = c.deref-course-items.result.now in
    let at = c.loop-course.course-index in
    let there = slice_get_read items (length items) at c.course-item.result refl c.loop-course-test.true c.course-item.is in
    let keeps = kept c.args.self.now items now.tracks (subst IsChecked c.self.view_is c.self.invariant) at c.course-item.result there in
    let limit = keeps.acts_limit in
    let acts = ap length c.acts.ensures in
    omega (arith, limit, acts)

pub loop-course-preserved : goal.loop-course-preserved
loop-course-preserved c =
    let now = c.loop-course.invariant in
    let items = c.deref-course-items.result.now in
    let at = c.loop-course.course-index in
    let there = slice_get_read items (length items) at c.course-item.result refl c.loop-course-test.true c.course-item.is in
    let keeps = kept c.args.self.now items now.tracks (subst IsChecked c.self.view_is c.self.invariant) at c.course-item.result there in
    let more = greatest-more items at c.course-item.result there keeps in
    record {
      tracks = now.tracks;
      all = max_more c.loop-course.greatest _ _ _ _ c.max-greatest.result more now.all (c.max-greatest.ensures ∙ greater c.loop-course.greatest (length c.acts.result.now) ∙ ap
          (λ l. max c.loop-course.greatest (length l)) c.acts.ensures);
    }
