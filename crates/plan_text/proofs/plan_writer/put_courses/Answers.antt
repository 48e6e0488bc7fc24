-- Each turn puts the first of the lines that are left.
use Rattle.std.proofs.Common.{◌+◌, [], ◌∷◌, ◌++◌, drop, map, ap, subst}
use Rattle.std.proofs.lemmas.List.{at_drop_more}
use Rattle.std.proofs.lemmas.Result.{err_from_is_err_and}
use Rattle.text_io.specs.Text.{line_feed, ended}
use Rattle.text_io.specs.Sink.{Leaves}
use Rattle.text_io.specs.Laws.Putting.{Leaves-less, Leaves-broken}
use Rattle.plan_text.specs.PlanText.{course_line}
use Rattle.plan_text.proofs.plan_writer.put_courses.Goals as goal

pub returns-in_err-put_course-clause-err : goal.returns-in_err-put_course-clause-err
returns-in_err-put_course-clause-err g c =
    let p = err_from_is_err_and c.from_residual.result c.from_residual.ensures.1 in
    let course = c.course-item.result in
    let left = ended (map course_line (drop (c.loop-course.course-index + 1) c.args.courses.now)) in
    let next = subst (Leaves g.W.Write.contents _ _ _)
    (at_drop_more (λ cs. ended (map course_line cs)) c.args.courses.now c.loop-course.course-index course c.loop-course-test.true) c.loop-course.invariant in
    rw p.1 (Leaves-broken g.W.Write.contents _ _ _ _ _ left _ next (ap (λ k. course_line k ++ line_feed ∷ []) c.course-item.is) c.in_err-put_course.ensures.err)

pub loop-course-preserved : goal.loop-course-preserved
loop-course-preserved g c =
    let course = c.course-item.result in
    let left = ended (map course_line (drop (c.loop-course.course-index + 1) c.args.courses.now)) in
    let next = subst (Leaves g.W.Write.contents _ _ _)
    (at_drop_more (λ cs. ended (map course_line cs)) c.args.courses.now c.loop-course.course-index course c.loop-course-test.true) c.loop-course.invariant in
    Leaves-less g.W.Write.contents _ _ _ _ _ left _ next (ap (λ k. course_line k ++ line_feed ∷ []) c.course-item.is) c.in_ok-put_course.ensures.ok
