-- The text is that of the timetable, and the ending is that with which writing ended.
use Rattle.std.proofs.Common.{◌∙◌, Ok, Err, ap, refl, subst}
use Rattle.std.specs.Prelude.{is_ok}
use Rattle.plan_commands.specs.DepsText.{deps_text}
use Rattle.ending.specs.Ending.{End, end_of, gave_up}
use Rattle.ending.specs.Finishing.{FinishesWriting}
use Rattle.ending.specs.Laws.Ending.{ends_writing}
use Rattle.plan_commands.proofs.deps_command.perform.Goals as goal

pub returns-in-Ok : goal.returns-in-Ok
returns-in-Ok g c =
    let w = c.write_deps-written.ensures in
    let Finished : End → Type 0 = λ success. FinishesWriting g.W.Write.contents (is_ok c.write_deps-written.result) success c.write_deps-written.new.writer c.finish.new.out (end_of c.finish.result) in
    record {
      answer = Ok c.in-Ok.dependencies;
      reads = c.in-Ok.ensures;
      ends = (
        w.0,
        w.1,
        ends_writing g.W.Write.contents c.args.out.now c.write_deps-written.new.writer c.finish.new.out (deps_text c.in-Ok.dependencies w.0) (is_ok c.write_deps-written.result) _ _ w.2
            (subst Finished c.answered_with.ensures c.finish.ensures),
      );
    }

pub returns-in-Err : goal.returns-in-Err
returns-in-Err g c = record {
  answer = Err c.in-Err.fault;
  reads = c.in-Err.ensures;
  ends = (c.gave_up.ensures ∙ ap gave_up c.words.ensures, refl);
}
