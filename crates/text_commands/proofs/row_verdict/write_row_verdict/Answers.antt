use Rattle.std.proofs.Common.{rules}
use Rattle.text_io.specs.Laws.Putting.{same_writer, sink_written}
use Rattle.text_commands.specs.RowCommand.{row_verdict_text}
use Rattle.text_commands.proofs.row_verdict.write_row_verdict.Goals as goal

pub returns : goal.returns
returns g c =
    let text = row_verdict_text c.args.verdict in
    let same = same_writer g.W.Write.contents c.new-sink.result c.put_line.new.sink text c.put_line.result c.put_line.ensures.ok c.put_line.ensures.err in
    let wrote = sink_written g.W.Write.contents c.new-sink.result c.put_line.new.sink c.args.writer.now _ text c.put_line.result
    c.new-sink.ensures.writer c.new-sink.ensures.held_back c.drop-sink.ensures
    c.put_line.ensures.ok c.put_line.ensures.none_held c.put_line.ensures.err in
    search rules
