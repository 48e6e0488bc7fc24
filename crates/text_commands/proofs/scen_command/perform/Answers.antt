use Rattle.std.proofs.Common.{◌∙◌, Err, ap}
use Rattle.scenario.specs.FaultWords.{scen_fault_words}
use Rattle.scenario.specs.ScenFault.{scen_outcome}
use Rattle.ending.specs.Ending.{gave_up}
use Rattle.ending.specs.Laws.Ending.{rewrites}
use Rattle.text_commands.proofs.Refusals.{scen_refused}
use Rattle.text_commands.proofs.scen_command.perform.Goals as goal

pub returns-in-Ok : goal.returns-in-Ok
returns-in-Ok g c =
    rewrites _ _ _ scen_fault_words _ _ _ _ _ _ _ _ _ _ _ c.answered_with.ensures c.in-Ok.ensures c.write_scen-written.ensures c.finish.ensures

pub returns-in-Err : goal.returns-in-Err
returns-in-Err g c = record {
  outcome = scen_outcome (Err c.in-Err.fault);
  reads = c.in-Err.ensures;
  ends = scen_refused g.W.Write.contents c.args.out.now _ c.in-Err.fault (c.gave_up.ensures ∙ ap gave_up c.words.ensures);
}
