use Rattle.std.proofs.Common.{length, rules, sum}
use Rattle.text_io.specs.Laws.Putting.{same_writer, sink_written}
use Rattle.bounding.specs.Bounding.{greatest_bound}
use Rattle.model.specs.Costs.{makespan, sum_of_costs}
use Rattle.check_commands.specs.VerdictText.{bounded_line}
use Rattle.check_commands.proofs.bound_text.write_bounded.Goals as goal

pub returns : goal.returns
returns g c =
    let timetable = c.args.plan.now.timetable in
    let text = bounded_line c.args.json (length timetable.tracks) (sum_of_costs timetable) (makespan timetable) (sum c.args.bounds.now) (greatest_bound c.args.bounds.now) in
    let same = same_writer g.W.Write.contents c.new-sink.result c.put_bounded.new.sink text c.put_bounded.result c.put_bounded.ensures.ok c.put_bounded.ensures.err in
    let wrote = sink_written g.W.Write.contents c.new-sink.result c.put_bounded.new.sink c.args.writer.now _ text c.put_bounded.result
    c.new-sink.ensures.writer c.new-sink.ensures.held_back c.drop-sink.ensures
    c.put_bounded.ensures.ok c.put_bounded.ensures.none_held c.put_bounded.ensures.err in
    search rules
