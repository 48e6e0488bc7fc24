use Rattle.std.proofs.Common.{rules}
use Rattle.text_io.specs.Laws.Putting.{same_writer, sink_written}
use Rattle.std.proofs.Common.{map}
use Rattle.check_commands.specs.FaultsText.{faults_text, of_plan}
use Rattle.check_commands.proofs.faults_text.write_faults.Goals as goal

pub returns : goal.returns
returns g c =
    let f = c.args.faults.now in
    let text = faults_text c.args.json (map of_plan f.listed.items) f.agents f.more in
    let same = same_writer g.W.Write.contents c.new-sink.result c.put_faults.new.sink text c.put_faults.result c.put_faults.ensures.ok c.put_faults.ensures.err in
    let wrote = sink_written g.W.Write.contents c.new-sink.result c.put_faults.new.sink c.args.writer.now _ text c.put_faults.result
    c.new-sink.ensures.writer c.new-sink.ensures.held_back c.drop-sink.ensures
    c.put_faults.ensures.ok c.put_faults.ensures.none_held c.put_faults.ensures.err in
    search rules
