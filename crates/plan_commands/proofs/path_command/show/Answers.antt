-- The rows are those of the courses that are asked for, and the ending is that with which writing ended.
use Rattle.std.proofs.Common.{◌∙◌, Ok, Err, ap, refl, subst}
use Rattle.std.specs.Prelude.{is_ok}
use Rattle.ending.specs.Ending.{End, end_of, gave_up}
use Rattle.ending.specs.Finishing.{FinishesWriting}
use Rattle.ending.specs.Laws.Ending.{ends_writing}
use Rattle.plan_commands.specs.PathText.{path_text}
use Rattle.plan_commands.specs.Code.Rows.{rows_of_courses}
use Rattle.plan_commands.specs.declared.path_fault.PathFault.TheVariants.{NoSuchAgent, OutOfMemory}
use Rattle.plan_commands.proofs.AskedLemmas.{asked_walked}
use Rattle.plan_commands.proofs.RowLemmas.{are_rows}
use Rattle.plan_commands.proofs.path_command.show.Goals as goal

pub returns-in_default : goal.returns-in_default
returns-in_default g c = record {
  answer = Err NoSuchAgent;
  shows = c.in_default.ensures;
  ends = (c.gave_up.ensures ∙ ap gave_up c.words.ensures, refl);
}

pub write_rows-written-requires-clause-walked : goal.write_rows-written-requires-clause-walked
write_rows-written-requires-clause-walked g c =
    asked_walked c.args.plan.now c.args.agent c.in-Some.courses.now c.requires c.in-Some.ensures

pub returns-in-Ok : goal.returns-in-Ok
returns-in-Ok g c =
    let courses = c.in-Some.courses.now in
    let text = path_text (rows_of_courses courses) in
    let Finished : End → Type 0 = λ success. FinishesWriting g.W.Write.contents (is_ok c.write_rows-written.result) success c.write_rows-written.new.writer c.finish.new.out (end_of c.finish.result) in
    record {
      answer = Ok (rows_of_courses courses);
      shows = (courses, c.in-Some.ensures, are_rows courses (asked_walked c.args.plan.now c.args.agent courses c.requires c.in-Some.ensures));
      ends = ends_writing g.W.Write.contents c.args.out.now c.write_rows-written.new.writer c.finish.new.out text (is_ok c.write_rows-written.result) _ _ c.write_rows-written.ensures
          (subst Finished c.answered_with.ensures c.finish.ensures);
    }

pub returns-in-Err : goal.returns-in-Err
returns-in-Err g c = record {
  answer = Err OutOfMemory;
  shows = (c.in-Some.courses.now, c.in-Some.ensures);
  ends = (c.gave_up-in-Err.ensures ∙ ap gave_up c.words-in-Err.ensures, refl);
}
