use Rattle.std.proofs.Common.{rules}
use Rattle.text_io.specs.Laws.Putting.{same_writer, sink_written}
use Rattle.plan_commands.specs.CellVisitsText.{visits_text}
use Rattle.plan_commands.proofs.visits_text.write_visits.Goals as goal

pub returns : goal.returns
returns g c =
    let text = visits_text c.args.visits.now in
    let same = same_writer g.W.Write.contents c.new-sink.result c.put_visits.new.sink text c.put_visits.result c.put_visits.ensures.ok c.put_visits.ensures.err in
    let wrote = sink_written g.W.Write.contents c.new-sink.result c.put_visits.new.sink c.args.writer.now _ text c.put_visits.result
    c.new-sink.ensures.writer c.new-sink.ensures.held_back c.drop-sink.ensures
    c.put_visits.ensures.ok c.put_visits.ensures.none_held c.put_visits.ensures.err in
    search rules
