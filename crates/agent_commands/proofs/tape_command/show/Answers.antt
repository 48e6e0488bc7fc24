-- The ending is that with which writing ended.
use Rattle.std.proofs.Common.{subst, sym}
use Rattle.std.specs.Prelude.{is_ok}
use Rattle.ending.specs.Ending.{End, end_of}
use Rattle.ending.specs.Finishing.{FinishesWriting}
use Rattle.ending.specs.Laws.Ending.{ends_writing}
use Rattle.agent_commands.specs.TapeCommand.{EndsByTape}
use Rattle.agent_commands.specs.Code.Reports.{outcome_of, report_text}
use Rattle.agent_commands.proofs.tape_command.show.Goals as goal

pub returns-in-Ok : goal.returns-in-Ok
returns-in-Ok g c =
    let text = report_text c.in-Ok.kept in
    let Finished : End → Type 0 = λ success. FinishesWriting g.W.Write.contents (is_ok c.write_report-written.result) success c.write_report-written.new.writer c.finish.new.out
    (end_of c.finish.result) in
    subst (λ r. EndsByTape g.W.Write.contents c.args.out.now c.finish.new.out (end_of c.finish.result) (outcome_of r)) (sym c.in-Ok.is)
    (ends_writing g.W.Write.contents c.args.out.now c.write_report-written.new.writer c.finish.new.out text (is_ok c.write_report-written.result) _ _ c.write_report-written.ensures
    (subst Finished c.answered_with.ensures c.finish.ensures))
