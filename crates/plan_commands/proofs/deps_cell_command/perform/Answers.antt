-- The visits are those of the timetable, and the ending is that with which writing ended.
use Rattle.std.proofs.Common.{◌∙◌, Ok, Err, ap, refl, subst}
use Rattle.std.specs.Prelude.{is_ok}
use Rattle.plan_commands.specs.CellVisitsText.{visits_text}
use Rattle.ending.specs.Ending.{End, end_of, gave_up}
use Rattle.ending.specs.Finishing.{FinishesWriting}
use Rattle.ending.specs.Laws.Ending.{ends_writing}
use Rattle.plan_commands.proofs.deps_cell_command.perform.Goals as goal

pub returns-in-Ok : goal.returns-in-Ok
returns-in-Ok g c =
    let visits = c.visits_to.result.now in
    let Finished : End → Type 0 = λ success. FinishesWriting g.W.Write.contents (is_ok c.write_visits-written.result) success c.write_visits-written.new.writer c.finish.new.out
    (end_of c.finish.result) in
    record {
      answer = Ok c.in-Ok.graph;
      reads = c.in-Ok.ensures;
      ends = (
        visits,
        c.visits_to.ensures,
        ends_writing g.W.Write.contents c.args.out.now c.write_visits-written.new.writer c.finish.new.out (visits_text visits) (is_ok c.write_visits-written.result) _ _ c.write_visits-written.ensures
            (subst Finished c.answered_with.ensures c.finish.ensures),
      );
    }

pub returns-in-Err : goal.returns-in-Err
returns-in-Err g c = record {
  answer = Err c.in-Err.fault;
  reads = c.in-Err.ensures;
  ends = (c.gave_up.ensures ∙ ap gave_up c.words.ensures, refl);
}
