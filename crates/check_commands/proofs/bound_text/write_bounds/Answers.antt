use Rattle.std.proofs.Common.{rules, sum}
use Rattle.text_io.specs.Laws.Putting.{same_writer, sink_written}
use Rattle.bounding.specs.Bounding.{greatest_bound}
use Rattle.model.specs.Costs.{makespan, sum_of_costs}
use Rattle.check_commands.specs.BoundCommand.{bound_text, costs_and_bounds}
use Rattle.check_commands.proofs.bound_text.write_bounds.Goals as goal

pub returns : goal.returns
returns g c =
    let timetable = c.args.plan.now.timetable in
    let text = bound_text c.args.form.agents c.args.form.json (costs_and_bounds timetable.tracks c.args.bounds.now) (sum_of_costs timetable) (sum c.args.bounds.now) (makespan timetable)
    (greatest_bound c.args.bounds.now) in
    let same = same_writer g.W.Write.contents c.new-sink.result c.put_bounds.new.sink text c.put_bounds.result c.put_bounds.ensures.ok c.put_bounds.ensures.err in
    let wrote = sink_written g.W.Write.contents c.new-sink.result c.put_bounds.new.sink c.args.writer.now _ text c.put_bounds.result
    c.new-sink.ensures.writer c.new-sink.ensures.held_back c.drop-sink.ensures
    c.put_bounds.ensures.ok c.put_bounds.ensures.none_held c.put_bounds.ensures.err in
    search rules
