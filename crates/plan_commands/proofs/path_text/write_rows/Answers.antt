use Rattle.std.proofs.Common.{rules}
use Rattle.text_io.specs.Laws.Putting.{same_writer, sink_written}
use Rattle.plan_commands.specs.PathText.{path_text}
use Rattle.plan_commands.specs.Code.Rows.{rows_of_courses}
use Rattle.plan_commands.proofs.path_text.write_rows.Goals as goal

pub returns : goal.returns
returns g c =
    let text = path_text (rows_of_courses c.args.courses.now) in
    let same = same_writer g.W.Write.contents c.new-sink.result c.put_rows.new.sink text c.put_rows.result c.put_rows.ensures.ok c.put_rows.ensures.err in
    let wrote = sink_written g.W.Write.contents c.new-sink.result c.put_rows.new.sink c.args.writer.now _ text c.put_rows.result
    c.new-sink.ensures.writer c.new-sink.ensures.held_back c.drop-sink.ensures
    c.put_rows.ensures.ok c.put_rows.ensures.none_held c.put_rows.ensures.err in
    search rules
