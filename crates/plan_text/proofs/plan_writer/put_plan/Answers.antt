-- The header, two numbers, the agents, and then what is held back.
use Rattle.std.proofs.Common.{[], ◌++◌, length, map, refl, ap}
use Rattle.std.specs.Prelude.{codes}
use Rattle.std.proofs.lemmas.Result.{err_from_is_err_and}
use Rattle.text_io.specs.Text.{ended}
use Rattle.text_io.specs.Laws.Putting.{Leaves-broken, Puts-last, Breaks-last}
use Rattle.plan_text.specs.PlanText.{course_line}
use Rattle.plan_text.proofs.CoursePuts.{number_put, agents_put, from_courses, from_agents, from_number, plan-begins, header-put, number-put, agents-put, courses-put}
use Rattle.plan_text.proofs.plan_writer.put_plan.Goals as goal

pub returns-in_err-put-clause-err : goal.returns-in_err-put-clause-err
returns-in_err-put-clause-err g c =
    let p = err_from_is_err_and c.from_residual.result c.from_residual.ensures.1 in
    let plan = c.args.plan.now in
    rw p.1 (Leaves-broken g.W.Write.contents _ _ _ _ (codes "mapf-plan 1\n") (from_number plan) _ (plan-begins g.W.Write.contents plan _) refl c.in_err-put.ensures.err)

pub returns-in_err-put_number-clause-err : goal.returns-in_err-put_number-clause-err
returns-in_err-put_number-clause-err g c =
    let p = err_from_is_err_and c.from_residual-in_err-put_number.result c.from_residual-in_err-put_number.ensures.1 in
    let plan = c.args.plan.now in
    let header = header-put g.W.Write.contents plan _ _ c.in_ok-put.ensures.ok in
    rw p.1 (Leaves-broken g.W.Write.contents _ _ _ _ (number_put plan.number) (from_agents plan) _ header (ap number_put c.number.ensures.number) c.in_err-put_number.ensures.err)

pub returns-in_err-put_number-2-clause-err : goal.returns-in_err-put_number-2-clause-err
returns-in_err-put_number-2-clause-err g c =
    let p = err_from_is_err_and c.from_residual-in_err-put_number-2.result c.from_residual-in_err-put_number-2.ensures.1 in
    let plan = c.args.plan.now in
    let header = header-put g.W.Write.contents plan _ _ c.in_ok-put.ensures.ok in
    let number = number-put g.W.Write.contents plan _ _ _ c.number.result header c.number.ensures.number c.in_ok-put_number.ensures.ok in
    rw p.1 (Leaves-broken g.W.Write.contents _ _ _ _ (agents_put (length plan.courses)) (from_courses plan ++ []) _ number (ap agents_put c.agents.ensures.agents) c.in_err-put_number-2.ensures.err)

pub returns-in_err-put_courses-clause-err : goal.returns-in_err-put_courses-clause-err
returns-in_err-put_courses-clause-err g c =
    let p = err_from_is_err_and c.from_residual-in_err-put_courses.result c.from_residual-in_err-put_courses.ensures.1 in
    let plan = c.args.plan.now in
    let header = header-put g.W.Write.contents plan _ _ c.in_ok-put.ensures.ok in
    let number = number-put g.W.Write.contents plan _ _ _ c.number.result header c.number.ensures.number c.in_ok-put_number.ensures.ok in
    let agents = agents-put g.W.Write.contents plan _ _ _ c.agents.result number c.agents.ensures.agents c.in_ok-put_number-2.ensures.ok in
    rw p.1 (Leaves-broken g.W.Write.contents _ _ _ _ (from_courses plan) [] _ agents (ap (λ cs. ended (map course_line cs)) c.courses.ensures.courses) c.in_err-put_courses.ensures.err)

pub returns-clause-ok : goal.returns-clause-ok
returns-clause-ok g c =
    let plan = c.args.plan.now in
    let header = header-put g.W.Write.contents plan _ _ c.in_ok-put.ensures.ok in
    let number = number-put g.W.Write.contents plan _ _ _ c.number.result header c.number.ensures.number c.in_ok-put_number.ensures.ok in
    let agents = agents-put g.W.Write.contents plan _ _ _ c.agents.result number c.agents.ensures.agents c.in_ok-put_number-2.ensures.ok in
    let courses = courses-put g.W.Write.contents plan _ _ _ c.courses.result.now agents c.courses.ensures.courses c.in_ok-put_courses.ensures.ok in
    Puts-last g.W.Write.contents _ _ _ _ [] _ c.hand_on.result courses refl c.hand_on.ensures.ok

pub returns-clause-err : goal.returns-clause-err
returns-clause-err g c =
    let plan = c.args.plan.now in
    let header = header-put g.W.Write.contents plan _ _ c.in_ok-put.ensures.ok in
    let number = number-put g.W.Write.contents plan _ _ _ c.number.result header c.number.ensures.number c.in_ok-put_number.ensures.ok in
    let agents = agents-put g.W.Write.contents plan _ _ _ c.agents.result number c.agents.ensures.agents c.in_ok-put_number-2.ensures.ok in
    let courses = courses-put g.W.Write.contents plan _ _ _ c.courses.result.now agents c.courses.ensures.courses c.in_ok-put_courses.ensures.ok in
    Breaks-last g.W.Write.contents _ _ _ _ [] _ c.hand_on.result courses refl c.hand_on.ensures.err
