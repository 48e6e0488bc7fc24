use Rattle.std.proofs.Common.{rules}
use Rattle.text_io.specs.Laws.Putting.{same_writer, sink_written}
use Rattle.depgraph.specs.Rotations.{turn_of}
use Rattle.check_commands.specs.VerdictText.{rejected_line, turn_text}
use Rattle.check_commands.proofs.faults_text.write_turn.Goals as goal

pub returns : goal.returns
returns g c =
    let text = rejected_line c.args.json (turn_text (turn_of c.args.rotation.now)) in
    let same = same_writer g.W.Write.contents c.new-sink.result c.put_turn_line.new.sink text c.put_turn_line.result c.put_turn_line.ensures.ok c.put_turn_line.ensures.err in
    let wrote = sink_written g.W.Write.contents c.new-sink.result c.put_turn_line.new.sink c.args.writer.now _ text c.put_turn_line.result
    c.new-sink.ensures.writer c.new-sink.ensures.held_back c.drop-sink.ensures
    c.put_turn_line.ensures.ok c.put_turn_line.ensures.none_held c.put_turn_line.ensures.err in
    search rules
