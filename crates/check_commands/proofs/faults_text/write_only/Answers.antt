use Rattle.std.proofs.Common.{rules}
use Rattle.text_io.specs.Laws.Putting.{same_writer, sink_written}
use Rattle.std.proofs.Common.{◌∷◌, [], false}
use Rattle.check_commands.specs.Code.Listing.{told_against}
use Rattle.check_commands.specs.FaultsText.{faults_text}
use Rattle.check_commands.proofs.faults_text.write_only.Goals as goal

pub returns : goal.returns
returns g c =
    let text = faults_text c.args.json (told_against c.args.told ∷ []) c.args.agents false in
    let same = same_writer g.W.Write.contents c.new-sink.result c.put_only.new.sink text c.put_only.result c.put_only.ensures.ok c.put_only.ensures.err in
    let wrote = sink_written g.W.Write.contents c.new-sink.result c.put_only.new.sink c.args.writer.now _ text c.put_only.result
    c.new-sink.ensures.writer c.new-sink.ensures.held_back c.drop-sink.ensures
    c.put_only.ensures.ok c.put_only.ensures.none_held c.put_only.ensures.err in
    search rules
