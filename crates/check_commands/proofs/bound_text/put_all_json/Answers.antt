-- The sums, the agents, and then the end.
use Rattle.std.proofs.Common.{◌++◌, append_assoc, refl, sum}
use Rattle.std.specs.Prelude.{codes}
use Rattle.std.proofs.lemmas.Result.{err_from_is_err_and}
use Rattle.text_io.specs.Laws.Putting.{Leaves-all, Leaves-less, Leaves-broken, Puts-last, Breaks-last}
use Rattle.bounding.specs.Bounding.{greatest_bound}
use Rattle.model.specs.Costs.{makespan, sum_of_costs}
use Rattle.check_commands.specs.BoundCommand.{agent_bounds_json, costs_and_bounds, sums_json}
use Rattle.check_commands.proofs.bound_text.put_all_json.Goals as goal

pub returns-in_err-put_sums_json-clause-err : goal.returns-in_err-put_sums_json-clause-err
returns-in_err-put_sums_json-clause-err g c =
    let p = err_from_is_err_and c.from_residual.result c.from_residual.ensures.1 in
    let timetable = c.args.plan.now.timetable in
    let pairs = costs_and_bounds timetable.tracks c.args.bounds.now in
    let head = sums_json (sum_of_costs timetable) (sum c.args.bounds.now) (makespan timetable) (greatest_bound c.args.bounds.now) ++ codes ",\"agents\":[" in
    let objects = agent_bounds_json pairs in
    let end = codes "]}\n" in
    let all = Leaves-all g.W.Write.contents _ _ (head ++ (objects ++ end)) (append_assoc (sums_json (sum_of_costs timetable) (sum c.args.bounds.now) (makespan timetable)
    (greatest_bound c.args.bounds.now)) (codes ",\"agents\":[") (objects ++ end)) in
    rw p.1 (Leaves-broken g.W.Write.contents _ _ _ _ head (objects ++ end) _ all refl c.in_err-put_sums_json.ensures.err)

pub returns-in_err-put_objects-clause-err : goal.returns-in_err-put_objects-clause-err
returns-in_err-put_objects-clause-err g c =
    let p = err_from_is_err_and c.from_residual-in_err-put_objects.result c.from_residual-in_err-put_objects.ensures.1 in
    let timetable = c.args.plan.now.timetable in
    let pairs = costs_and_bounds timetable.tracks c.args.bounds.now in
    let head = sums_json (sum_of_costs timetable) (sum c.args.bounds.now) (makespan timetable) (greatest_bound c.args.bounds.now) ++ codes ",\"agents\":[" in
    let objects = agent_bounds_json pairs in
    let end = codes "]}\n" in
    let all = Leaves-all g.W.Write.contents _ _ (head ++ (objects ++ end)) (append_assoc (sums_json (sum_of_costs timetable) (sum c.args.bounds.now) (makespan timetable)
    (greatest_bound c.args.bounds.now)) (codes ",\"agents\":[") (objects ++ end)) in
    let sums = Leaves-less g.W.Write.contents _ _ _ _ head (objects ++ end) _ all refl c.in_ok-put_sums_json.ensures.ok in
    rw p.1 (Leaves-broken g.W.Write.contents _ _ _ _ objects end _ sums refl c.in_err-put_objects.ensures.err)

pub returns-clause-ok : goal.returns-clause-ok
returns-clause-ok g c =
    let timetable = c.args.plan.now.timetable in
    let pairs = costs_and_bounds timetable.tracks c.args.bounds.now in
    let head = sums_json (sum_of_costs timetable) (sum c.args.bounds.now) (makespan timetable) (greatest_bound c.args.bounds.now) ++ codes ",\"agents\":[" in
    let objects = agent_bounds_json pairs in
    let end = codes "]}\n" in
    let all = Leaves-all g.W.Write.contents _ _ (head ++ (objects ++ end)) (append_assoc (sums_json (sum_of_costs timetable) (sum c.args.bounds.now) (makespan timetable)
    (greatest_bound c.args.bounds.now)) (codes ",\"agents\":[") (objects ++ end)) in
    let sums = Leaves-less g.W.Write.contents _ _ _ _ head (objects ++ end) _ all refl c.in_ok-put_sums_json.ensures.ok in
    let agents = Leaves-less g.W.Write.contents _ _ _ _ objects end _ sums refl c.in_ok-put_objects.ensures.ok in
    Puts-last g.W.Write.contents _ _ _ _ end _ c.put.result agents refl c.put.ensures.ok

pub returns-clause-err : goal.returns-clause-err
returns-clause-err g c =
    let timetable = c.args.plan.now.timetable in
    let pairs = costs_and_bounds timetable.tracks c.args.bounds.now in
    let head = sums_json (sum_of_costs timetable) (sum c.args.bounds.now) (makespan timetable) (greatest_bound c.args.bounds.now) ++ codes ",\"agents\":[" in
    let objects = agent_bounds_json pairs in
    let end = codes "]}\n" in
    let all = Leaves-all g.W.Write.contents _ _ (head ++ (objects ++ end)) (append_assoc (sums_json (sum_of_costs timetable) (sum c.args.bounds.now) (makespan timetable)
    (greatest_bound c.args.bounds.now)) (codes ",\"agents\":[") (objects ++ end)) in
    let sums = Leaves-less g.W.Write.contents _ _ _ _ head (objects ++ end) _ all refl c.in_ok-put_sums_json.ensures.ok in
    let agents = Leaves-less g.W.Write.contents _ _ _ _ objects end _ sums refl c.in_ok-put_objects.ensures.ok in
    Breaks-last g.W.Write.contents _ _ _ _ end _ c.put.result agents refl c.put.ensures.err
