-- What was put is written.
use Rattle.std.proofs.Common.{rules}
use Rattle.text_io.specs.Laws.Putting.{same_writer, sink_written}
use Rattle.fleet_commands.specs.LostPlaces.{places_text}
use Rattle.fleet_commands.proofs.lost_command.write_places.Goals as goal

pub returns : goal.returns
returns g c = λ table is.
    let text = places_text is.track c.args.places.first c.args.places.last in
    let put = c.put_places.ensures.ok table is in
    let broken = c.put_places.ensures.err table is in
    let same = same_writer g.W.Write.contents c.new-sink.result c.put_places.new.sink text c.put_places.result put broken in
    let wrote = sink_written g.W.Write.contents c.new-sink.result c.put_places.new.sink c.args.writer.now _ text c.put_places.result
    c.new-sink.ensures.writer c.new-sink.ensures.held_back c.drop-sink.ensures
    put c.put_places.ensures.none_held broken in
    search rules
