use Rattle.std.proofs.Common.{rules}
use Rattle.text_io.specs.FaultWords.{words_of}
use Rattle.text_io.specs.Laws.Putting.{same_writer, sink_written}
use Rattle.ending.specs.Telling.{fault_line}
use Rattle.ending.proofs.fault_line.write_line.Goals as goal

pub returns : goal.returns
returns g c =
    let text = fault_line (words_of c.args.words) in
    let same = same_writer g.E.Write.contents c.new-sink.result c.put_line.new.sink text c.put_line.result c.put_line.ensures.ok c.put_line.ensures.err in
    let wrote = sink_written g.E.Write.contents c.new-sink.result c.put_line.new.sink c.args.err.now _ text c.put_line.result
    c.new-sink.ensures.writer c.new-sink.ensures.held_back c.drop-sink.ensures
    c.put_line.ensures.ok c.put_line.ensures.none_held c.put_line.ensures.err in
    search rules
