-- The column, the row, the acts, and then the line's LF.
use Rattle.std.proofs.Common.{[], ◌∷◌, refl, ap, ◌∙◌}
use Rattle.std.proofs.lemmas.Result.{err_from_is_err_and}
use Rattle.text_io.specs.Text.{space, line_feed}
use Rattle.text_io.specs.Laws.Putting.{Leaves-broken, Puts-last, Breaks-last}
use Rattle.plan_text.specs.PlanText.{acts_text}
use Rattle.plan_text.proofs.CoursePuts.{numbered, agent_x, from_y, from_acts, course-begins, x-put, y-put, acts-put}
use Rattle.plan_text.proofs.plan_writer.put_course.Goals as goal

pub returns-in_err-put_number-clause-err : goal.returns-in_err-put_number-clause-err
returns-in_err-put_number-clause-err g c =
    let p = err_from_is_err_and c.from_residual.result c.from_residual.ensures.1 in
    let course = c.args.course.now in
    rw p.1 (Leaves-broken g.W.Write.contents _ _ _ _ (agent_x course.start.x) (from_y course) _ (course-begins g.W.Write.contents course _)
    (ap agent_x (c.from.ensures ∙ ap (λ s. s.x) c.start-start.ensures)) c.in_err-put_number.ensures.err)

pub returns-in_err-put_number-2-clause-err : goal.returns-in_err-put_number-2-clause-err
returns-in_err-put_number-2-clause-err g c =
    let p = err_from_is_err_and c.from_residual-in_err-put_number-2.result c.from_residual-in_err-put_number-2.ensures.1 in
    let course = c.args.course.now in
    let x = x-put g.W.Write.contents course _ _ c.from.result (c.from.ensures ∙ ap (λ s. s.x) c.start-start.ensures) c.in_ok-put_number.ensures.ok in
    rw p.1 (Leaves-broken g.W.Write.contents _ _ _ _ (numbered [] course.start.y (space ∷ [])) (from_acts course) _ x
    (ap (λ n. numbered [] n (space ∷ [])) (c.from-2.ensures ∙ ap (λ s. s.y) c.start-start.ensures)) c.in_err-put_number-2.ensures.err)

pub returns-in_err-put_acts-clause-err : goal.returns-in_err-put_acts-clause-err
returns-in_err-put_acts-clause-err g c =
    let p = err_from_is_err_and c.from_residual-in_err-put_acts.result c.from_residual-in_err-put_acts.ensures.1 in
    let course = c.args.course.now in
    let x = x-put g.W.Write.contents course _ _ c.from.result (c.from.ensures ∙ ap (λ s. s.x) c.start-start.ensures) c.in_ok-put_number.ensures.ok in
    let y = y-put g.W.Write.contents course _ _ _ c.from-2.result x (c.from-2.ensures ∙ ap (λ s. s.y) c.start-start.ensures) c.in_ok-put_number-2.ensures.ok in
    rw p.1 (Leaves-broken g.W.Write.contents _ _ _ _ (acts_text course.acts) (line_feed ∷ []) _ y (ap acts_text c.acts.ensures) c.in_err-put_acts.ensures.err)

pub returns-clause-ok : goal.returns-clause-ok
returns-clause-ok g c =
    let course = c.args.course.now in
    let x = x-put g.W.Write.contents course _ _ c.from.result (c.from.ensures ∙ ap (λ s. s.x) c.start-start.ensures) c.in_ok-put_number.ensures.ok in
    let y = y-put g.W.Write.contents course _ _ _ c.from-2.result x (c.from-2.ensures ∙ ap (λ s. s.y) c.start-start.ensures) c.in_ok-put_number-2.ensures.ok in
    let acts = acts-put g.W.Write.contents course _ _ _ c.acts.result.now y c.acts.ensures c.in_ok-put_acts.ensures.ok in
    Puts-last g.W.Write.contents _ _ _ _ (line_feed ∷ []) _ c.put.result acts refl c.put.ensures.ok

pub returns-clause-err : goal.returns-clause-err
returns-clause-err g c =
    let course = c.args.course.now in
    let x = x-put g.W.Write.contents course _ _ c.from.result (c.from.ensures ∙ ap (λ s. s.x) c.start-start.ensures) c.in_ok-put_number.ensures.ok in
    let y = y-put g.W.Write.contents course _ _ _ c.from-2.result x (c.from-2.ensures ∙ ap (λ s. s.y) c.start-start.ensures) c.in_ok-put_number-2.ensures.ok in
    let acts = acts-put g.W.Write.contents course _ _ _ c.acts.result.now y c.acts.ensures c.in_ok-put_acts.ensures.ok in
    Breaks-last g.W.Write.contents _ _ _ _ (line_feed ∷ []) _ c.put.result acts refl c.put.ensures.err
