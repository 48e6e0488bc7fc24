use Rattle.std.proofs.Common.{◌∙◌, Ok, Err, ap, refl}
use Rattle.ending.specs.Ending.{answered_with, gave_up}
use Rattle.text_commands.proofs.RowAnswers.{row_verdict_ends}
use Rattle.text_commands.proofs.row_command.perform.Goals as goal

pub returns-in-Ok : goal.returns-in-Ok
returns-in-Ok g c = record {
  answer = Ok c.in-Ok.verdict;
  judges = c.in-Ok.ensures;
  ends = row_verdict_ends g.W.Write.contents c.args.out.now c.write_row_verdict-written.new.writer c.finish.new.out c.in-Ok.verdict _ _ _ (c.answered_with.ensures ∙ ap answered_with c.status.ensures)
      c.write_row_verdict-written.ensures c.finish.ensures;
}

pub returns-in-Err : goal.returns-in-Err
returns-in-Err g c = record {
  answer = Err c.in-Err.fault;
  judges = c.in-Err.ensures;
  ends = (c.gave_up.ensures ∙ ap gave_up c.words.ensures, refl);
}
