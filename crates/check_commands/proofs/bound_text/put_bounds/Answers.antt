-- The text, and then what is held back.
use Rattle.std.proofs.Common.{[], ◌++◌, refl, append-nil, sum}
use Rattle.text_io.specs.Laws.Putting.{Leaves-all, Leaves-less, Puts-last, Breaks-last}
use Rattle.bounding.specs.Bounding.{greatest_bound}
use Rattle.model.specs.Costs.{makespan, sum_of_costs}
use Rattle.check_commands.specs.BoundCommand.{bound_text, costs_and_bounds}
use Rattle.check_commands.proofs.bound_text.put_bounds.Goals as goal

pub returns-clause-ok : goal.returns-clause-ok
returns-clause-ok g c =
    let timetable = c.args.plan.now.timetable in
    let text = bound_text c.args.form.agents c.args.form.json (costs_and_bounds timetable.tracks c.args.bounds.now) (sum_of_costs timetable) (sum c.args.bounds.now) (makespan timetable)
    (greatest_bound c.args.bounds.now) in
    let all = Leaves-all g.W.Write.contents _ text (text ++ []) (append-nil text) in
    let last = Leaves-less g.W.Write.contents _ _ _ _ text [] _ all refl c.in_ok-put_bound_text.ensures.ok in
    Puts-last g.W.Write.contents _ _ _ _ [] _ c.hand_on.result last refl c.hand_on.ensures.ok

pub returns-clause-err : goal.returns-clause-err
returns-clause-err g c =
    let timetable = c.args.plan.now.timetable in
    let text = bound_text c.args.form.agents c.args.form.json (costs_and_bounds timetable.tracks c.args.bounds.now) (sum_of_costs timetable) (sum c.args.bounds.now) (makespan timetable)
    (greatest_bound c.args.bounds.now) in
    let all = Leaves-all g.W.Write.contents _ text (text ++ []) (append-nil text) in
    let last = Leaves-less g.W.Write.contents _ _ _ _ text [] _ all refl c.in_ok-put_bound_text.ensures.ok in
    Breaks-last g.W.Write.contents _ _ _ _ [] _ c.hand_on.result last refl c.hand_on.ensures.err
