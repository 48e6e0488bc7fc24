-- Each agent's cost is the number of its acts.
use Rattle.std.proofs.Common.{length, arith, refl, ap, subst}
use Rattle.std.proofs.lemmas.Option.{slice_get_read}
use Rattle.checker.specs.Checking.{IsChecked}
use Rattle.checker.proofs.KeptLemmas.{kept, sum_of-steps, sum-more}
use Rattle.checker.proofs.checked_plan.CheckedPlan.sum_of_costs.Goals as goal

pub overflow_add-sum : goal.overflow_add-sum
overflow_add-sum c =
    let now = c.loop-course.invariant in
    let items = c.deref-course-items.result.now in
    let at = c.loop-course.course-index in
    let there = slice_get_read items (length items) at c.course-item.result refl c.loop-course-test.true c.course-item.is in
    let keeps = kept c.args.self.now items now.tracks (subst IsChecked c.self.view_is c.self.invariant) at c.course-item.result there in
    let more = sum-more items at c.course-item.result there keeps in
    let all = now.all in
    let steps = sum_of-steps c.args.self.now.timetable.tracks (subst IsChecked c.self.view_is c.self.invariant).at_rest in
    let limit = (subst IsChecked c.self.view_is c.self.invariant).all_steps_limit in
    let acts = ap length c.acts.ensures in
    omega (arith, more, all, steps, limit, acts)

pub loop-course-preserved : goal.loop-course-preserved
loop-course-preserved c =
    let now = c.loop-course.invariant in
    let items = c.deref-course-items.result.now in
    let at = c.loop-course.course-index in
    let there = slice_get_read items (length items) at c.course-item.result refl c.loop-course-test.true c.course-item.is in
    let keeps = kept c.args.self.now items now.tracks (subst IsChecked c.self.view_is c.self.invariant) at c.course-item.result there in
    let more = sum-more items at c.course-item.result there keeps in
    let all = now.all in
    let acts = ap length c.acts.ensures in
    record { tracks = now.tracks; all = omega (arith, more, all, acts) }
