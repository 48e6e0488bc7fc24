-- The text of the map with the cell out of bounds was written.
use Rattle.std.proofs.Common.{subst}
use Rattle.grid.specs.MapText.{canonical_map_text}
use Rattle.ending.specs.Ending.{end_of}
use Rattle.ending.specs.Laws.Ending.{ends_writing}
use Rattle.ending.specs.Rewriting.{EndsWriting}
use Rattle.text_commands.specs.TextQueries.{EndsByBlocked}
use Rattle.text_commands.proofs.block_command.write_blocked.Goals as goal

pub returns-in-Some : goal.returns-in-Some
returns-in-Some g c =
    let contents = g.W.Write.contents in
    let text = canonical_map_text c.in-Some.blocked in
    let end = end_of c.finish.result in
    subst (EndsByBlocked contents c.args.cell c.args.out.now c.finish.new.out end) c.in-Some.ensures
    (subst (λ success. EndsWriting contents c.args.out.now c.finish.new.out success end text) c.answered_with.ensures
    (ends_writing contents c.args.out.now _ c.finish.new.out text _ _ end c.write_map-written.ensures c.finish.ensures))
