use Rattle.std.proofs.Common.{rules}
use Rattle.depgraph.specs.Rotations.{turns_of}
use Rattle.text_io.specs.Laws.Putting.{same_writer, sink_written}
use Rattle.plan_commands.specs.DepsText.{deps_text}
use Rattle.plan_commands.proofs.deps_text.write_with_rotations.Goals as goal

pub returns : goal.returns
returns g c =
    let text = deps_text c.args.graph.now (turns_of c.args.rotations.now) in
    let same = same_writer g.W.Write.contents c.new-sink.result c.put_deps.new.sink text c.put_deps.result c.put_deps.ensures.ok c.put_deps.ensures.err in
    let wrote = sink_written g.W.Write.contents c.new-sink.result c.put_deps.new.sink c.args.writer.now _ text c.put_deps.result
    c.new-sink.ensures.writer c.new-sink.ensures.held_back c.drop-sink.ensures
    c.put_deps.ensures.ok c.put_deps.ensures.none_held c.put_deps.ensures.err in
    search rules
