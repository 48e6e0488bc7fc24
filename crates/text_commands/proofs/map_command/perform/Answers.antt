use Rattle.std.proofs.Common.{◌∙◌, Err, ap}
use Rattle.grid.specs.MapFault.{map_fault_words, map_outcome}
use Rattle.ending.specs.Ending.{gave_up}
use Rattle.ending.specs.Laws.Ending.{rewrites}
use Rattle.text_commands.proofs.Refusals.{map_refused}
use Rattle.text_commands.proofs.map_command.perform.Goals as goal

pub returns-in-Ok : goal.returns-in-Ok
returns-in-Ok g c =
    rewrites _ _ _ map_fault_words _ _ _ _ _ _ _ _ _ _ _ c.answered_with.ensures c.in-Ok.ensures c.write_map-written.ensures c.finish.ensures

pub returns-in-Err : goal.returns-in-Err
returns-in-Err g c = record {
  outcome = map_outcome (Err c.in-Err.fault);
  reads = c.in-Err.ensures;
  ends = map_refused g.W.Write.contents c.args.out.now _ c.in-Err.fault (c.gave_up.ensures ∙ ap gave_up c.words.ensures);
}
