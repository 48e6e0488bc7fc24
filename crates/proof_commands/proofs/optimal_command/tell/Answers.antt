-- The line is that of what was shown, and the ending is that with which writing ended.
use Rattle.std.proofs.Common.{◌∙◌, ℕ, List, ap, inl, inr, refl, subst}
use Rattle.ending.specs.Ending.{end_of, gave_up}
use Rattle.ending.specs.Rewriting.{EndsWriting}
use Rattle.ending.specs.Laws.Ending.{ends_writing}
use Rattle.proof_commands.proofs.optimal_command.tell.Goals as goal

pub returns-in-Ok : goal.returns-in-Ok
returns-in-Ok g c =
    let Written : List ℕ → Type 0 = λ line. EndsWriting g.W.Write.contents c.args.out.now c.finish.new.out (end_of c.args.success) (end_of c.finish.result) line in
    let written = ends_writing g.W.Write.contents c.args.out.now c.write_text-written.new.writer c.finish.new.out _ _ (end_of c.args.success) (end_of c.finish.result)
    c.write_text-written.ensures c.finish.ensures in
    inl (subst Written (c.as_bytes.ensures.value ∙ c.in-Ok.ensures) written)

pub returns-in-Err : goal.returns-in-Err
returns-in-Err g c = inr (c.gave_up.ensures ∙ ap gave_up c.words.ensures, refl)
