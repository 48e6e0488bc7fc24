-- The text is that of what is left, and the ending is that with which writing ended.
use Rattle.std.proofs.Common.{◌∙◌, Ok, Err, ap, refl, subst}
use Rattle.std.specs.Prelude.{is_ok}
use Rattle.plan_text.specs.PlanText.{canonical_plan_text}
use Rattle.ending.specs.Ending.{End, end_of, gave_up}
use Rattle.ending.specs.Finishing.{FinishesWriting}
use Rattle.ending.specs.Laws.Ending.{ends_writing}
use Rattle.plan_commands.proofs.cut_command.perform.Goals as goal

pub returns-in-Ok : goal.returns-in-Ok
returns-in-Ok g c =
    let Finished : End → Type 0 = λ success. FinishesWriting g.W.Write.contents (is_ok c.write_plan-written.result) success c.write_plan-written.new.writer c.finish.new.out (end_of c.finish.result) in
    record {
      answer = Ok c.in-Ok.kept;
      reads = c.in-Ok.ensures;
      ends = ends_writing g.W.Write.contents c.args.out.now c.write_plan-written.new.writer c.finish.new.out (canonical_plan_text c.in-Ok.kept) (is_ok c.write_plan-written.result) _ _
          c.write_plan-written.ensures (subst Finished c.answered_with.ensures c.finish.ensures);
    }

pub returns-in-Err : goal.returns-in-Err
returns-in-Err g c = record {
  answer = Err c.in-Err.fault;
  reads = c.in-Err.ensures;
  ends = (c.gave_up.ensures ∙ ap gave_up c.words.ensures, refl);
}
