-- The line is that of the plans, and the ending is that with which writing ended.
use Rattle.std.proofs.Common.{◌∙◌, ℕ, List, inl, subst}
use Rattle.std.specs.Prelude.{is_ok}
use Rattle.ending.specs.declared.status.Status.TheVariants.{Done}
use Rattle.ending.specs.Ending.{End, answered_with, end_of}
use Rattle.ending.specs.Finishing.{FinishesWriting}
use Rattle.ending.specs.Rewriting.{EndsWriting}
use Rattle.ending.specs.Laws.Ending.{ends_writing}
use Rattle.plan_commands.proofs.continues_command.tell.Goals as goal

pub returns-in-Ok : goal.returns-in-Ok
returns-in-Ok g c =
    let Finished : End → Type 0 = λ success. FinishesWriting g.W.Write.contents (is_ok c.write_text-written.result) success c.write_text-written.new.writer c.finish.new.out (end_of c.finish.result) in
    let Shown : List ℕ → Type 0 = λ line. EndsWriting g.W.Write.contents c.args.out.now c.finish.new.out (answered_with Done) (end_of c.finish.result) line in
    let shown = ends_writing g.W.Write.contents c.args.out.now c.write_text-written.new.writer c.finish.new.out _ _ (answered_with Done) (end_of c.finish.result)
    c.write_text-written.ensures (subst Finished c.answered_with.ensures c.finish.ensures) in
    inl (subst Shown (c.as_bytes.ensures.value ∙ c.in-Ok.ensures) shown)
