-- No more moves than acts.
use Rattle.std.proofs.Common.{◌∙◌, arith, ap}
use Rattle.std.specs.Prelude.{count_by}
use Rattle.std.proofs.lemmas.List.Sums.{sum_by-drop_more}
use Rattle.continuing.specs.Adding.{changes_cell}
use Rattle.continuing.proofs.AddingLemmas.{moves_along, moves-few}
use Rattle.continuing.proofs.adding.moves.Goals as goal

pub overflow_add-count : goal.overflow_add-count
overflow_add-count c =
    let courses = c.args.courses.now in
    let more = sum_by-drop_more moves_along courses c.loop-course.course-index c.course-item.result c.loop-course-test.true in
    let item = ap moves_along c.course-item.is in
    let few = moves-few courses in
    let here = c.moves_among-count.ensures ∙ ap (count_by changes_cell) c.acts.ensures in
    let now = c.loop-course.invariant in
    let limit = c.requires in
    omega (arith, more, item, few, here, now, limit)
