-- The bounds were found, and the text is that of them.
use Rattle.std.proofs.Common.{ℕ, List, ap, inl, sum}
use Rattle.ending.specs.Ending.{answered_with}
use Rattle.ending.specs.declared.status.Status.TheVariants.{Done}
use Rattle.bounding.specs.Bounding.{greatest_bound}
use Rattle.model.specs.Costs.{makespan, sum_of_costs}
use Rattle.check_commands.specs.BoundCommand.{bound_text, costs_and_bounds}
use Rattle.check_commands.proofs.EndingLemmas.{ended}
use Rattle.check_commands.proofs.bound_command.tell.Goals as goal

pub returns-in-Ok : goal.returns-in-Ok
returns-in-Ok g c =
    let timetable = c.args.plan.now.timetable in
    let text : List ℕ → List ℕ = λ bounds. bound_text c.args.form.agents c.args.form.json (costs_and_bounds timetable.tracks bounds) (sum_of_costs timetable) (sum bounds) (makespan timetable)
    (greatest_bound bounds) in
    let bounds = c.in-Ok.bounds.items in
    let wrote = ended g.W.Write.contents c.args.out.now c.write_bounds-written.new.writer c.finish.new.out (text c.deref.result.now) (text bounds) _ _ (answered_with Done) _
    c.answered_with.ensures (ap text c.deref.ensures.value) c.write_bounds-written.ensures c.finish.ensures in
    inl (bounds, c.in-Ok.ensures.bounds, c.in-Ok.ensures.all, wrote)
