-- What was put was written.
use Rattle.std.proofs.Common.{rules}
use Rattle.text_io.specs.Laws.Putting.{same_writer, sink_written}
use Rattle.agent_commands.specs.Code.Reports.{report_text}
use Rattle.agent_commands.proofs.tape_report.write_report.Goals as goal

pub returns : goal.returns
returns g c =
    let text = report_text c.args.report in
    let same = same_writer g.W.Write.contents c.new-sink.result c.put_report.new.sink text c.put_report.result c.put_report.ensures.ok c.put_report.ensures.err in
    let wrote = sink_written g.W.Write.contents c.new-sink.result c.put_report.new.sink c.args.writer.now _ text c.put_report.result
    c.new-sink.ensures.writer c.new-sink.ensures.held_back c.drop-sink.ensures
    c.put_report.ensures.ok c.put_report.ensures.none_held c.put_report.ensures.err in
    search rules
