use Rattle.std.proofs.Common.{inr, subst, unwrap_or}
use Rattle.text_commands.specs.Code.Judging.{Judgement}
use Rattle.ending.specs.Ending.{end_of}
use Rattle.text_commands.specs.RowsCommand.{EndsByJudging}
use Rattle.text_commands.proofs.RowsEndings.{rows_end}
use Rattle.text_commands.proofs.RowsLemmas.{shows_more}
use Rattle.text_commands.proofs.rows_command.judge_on.Goals as goal

pub returns-in-Ok-clause-ends : goal.returns-in-Ok-clause-ends
returns-in-Ok-clause-ends g c =
    let Ends : Judgement → Type 0 = λ j. EndsByJudging g.W.Write.contents j.straight j.map c.args.rows.now (unwrap_or c.args.asked.now.from 0) c.args.out.now c.write_rows-told.new.out
    (end_of c.ending_of.result) in
    inr (subst Ends c.in-Ok.ensures (rows_end g.W.Write.contents c.in-Ok.judge c.args.rows.now _ _ _ c.write_rows-told.result _ c.write_rows-told.ensures.writes c.ending_of.ensures))

pub returns-in-Ok-clause-progress : goal.returns-in-Ok-clause-progress
returns-in-Ok-clause-progress g c = shows_more g.E.Write.contents c.args.asked.now.progress c.args.err.now c.write_rows-told.new.err _ c.write_rows-told.ensures.progress c.end_progress.ensures
