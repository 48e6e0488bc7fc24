-- The lines of the agents, and then the last one.
use Rattle.std.proofs.Common.{◌++◌, refl, sum}
use Rattle.std.proofs.lemmas.Result.{err_from_is_err_and}
use Rattle.text_io.specs.Laws.Putting.{Leaves-all, Leaves-less, Leaves-broken, Puts-last, Breaks-last}
use Rattle.bounding.specs.Bounding.{greatest_bound}
use Rattle.model.specs.Costs.{makespan, sum_of_costs}
use Rattle.check_commands.specs.BoundCommand.{agent_bound_lines, costs_and_bounds, sums_line}
use Rattle.check_commands.proofs.bound_text.put_lines.Goals as goal

pub returns-in_err-put_agent_lines-clause-err : goal.returns-in_err-put_agent_lines-clause-err
returns-in_err-put_agent_lines-clause-err g c =
    let p = err_from_is_err_and c.from_residual.result c.from_residual.ensures.1 in
    let timetable = c.args.plan.now.timetable in
    let lines = agent_bound_lines 0 (costs_and_bounds timetable.tracks c.args.bounds.now) in
    let last = sums_line (sum_of_costs timetable) (sum c.args.bounds.now) (makespan timetable) (greatest_bound c.args.bounds.now) in
    let all = Leaves-all g.W.Write.contents _ _ (lines ++ last) refl in
    rw p.1 (Leaves-broken g.W.Write.contents _ _ _ _ lines last _ all refl c.in_err-put_agent_lines.ensures.err)

pub returns-clause-ok : goal.returns-clause-ok
returns-clause-ok g c =
    let timetable = c.args.plan.now.timetable in
    let lines = agent_bound_lines 0 (costs_and_bounds timetable.tracks c.args.bounds.now) in
    let last = sums_line (sum_of_costs timetable) (sum c.args.bounds.now) (makespan timetable) (greatest_bound c.args.bounds.now) in
    let all = Leaves-all g.W.Write.contents _ _ (lines ++ last) refl in
    let less = Leaves-less g.W.Write.contents _ _ _ _ lines last _ all refl c.in_ok-put_agent_lines.ensures.ok in
    Puts-last g.W.Write.contents _ _ _ _ last _ c.put_sums.result less refl c.put_sums.ensures.ok

pub returns-clause-err : goal.returns-clause-err
returns-clause-err g c =
    let timetable = c.args.plan.now.timetable in
    let lines = agent_bound_lines 0 (costs_and_bounds timetable.tracks c.args.bounds.now) in
    let last = sums_line (sum_of_costs timetable) (sum c.args.bounds.now) (makespan timetable) (greatest_bound c.args.bounds.now) in
    let all = Leaves-all g.W.Write.contents _ _ (lines ++ last) refl in
    let less = Leaves-less g.W.Write.contents _ _ _ _ lines last _ all refl c.in_ok-put_agent_lines.ensures.ok in
    Breaks-last g.W.Write.contents _ _ _ _ last _ c.put_sums.result less refl c.put_sums.ensures.err
