-- The run ends by its answer, and the output is flushed where that is due.
use Rattle.std.proofs.Common.{◌≡◌, ◌∙◌, true, false, refl, subst, sym}
use Rattle.ending.specs.Ending.{End, end_of}
use Rattle.ending.specs.Finishing.{FinishesWriting}
use Rattle.run_commands.specs.RunCommand.{needs_flush}
use Rattle.run_commands.proofs.run_command.perform.Goals as goal

pub returns-then-needs_flush : goal.returns-then-needs_flush
returns-then-needs_flush g c =
    let answer = c.answer_run-answer.result in
    let written = c.answer_run-answer.new.out in
    let flushes : needs_flush answer ≡ true = sym c.needs_flush.ensures ∙ c.if-needs_flush.true in
    let Finished : End → Type 0 = λ success. FinishesWriting g.W.Write.contents true success written c.finish.new.out (end_of c.finish.result) in
    record {
      answer = answer;
      written = written;
      runs = c.answer_run-answer.ensures;
      ends = rw flushes (subst Finished c.ending_of.ensures c.finish.ensures);
    }

pub returns-else-needs_flush : goal.returns-else-needs_flush
returns-else-needs_flush g c =
    let answer = c.answer_run-answer.result in
    let keeps : needs_flush answer ≡ false = sym c.needs_flush.ensures ∙ c.if-needs_flush.false in
    record {
      answer = answer;
      written = c.answer_run-answer.new.out;
      runs = c.answer_run-answer.ensures;
      ends = rw keeps (c.ending_of-else-needs_flush.ensures, refl);
    }
