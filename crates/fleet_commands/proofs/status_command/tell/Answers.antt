-- The ending is that with which writing ended.
use Rattle.std.proofs.Common.{◌≡◌, ℕ, List, inl, ap, subst, ◌∙◌}
use Rattle.std.specs.Prelude.{is_ok}
use Rattle.std.specs.List.{flat_map}
use Rattle.text_io.specs.Counted.{counted_inner, failures_of}
use Rattle.text_io.specs.Writing.{WritesText}
use Rattle.ending.specs.Ending.{End, answered_with, end_of}
use Rattle.ending.specs.Finishing.{FinishesWriting}
use Rattle.ending.specs.Laws.Ending.{ends_writing}
use Rattle.fleet_commands.specs.StatusCommand.{status_by}
use Rattle.fleet_commands.specs.StatusText.{status_line}
use Rattle.fleet_commands.proofs.status_command.tell.Goals as goal

pub returns : goal.returns
returns g c =
    let lines = c.in-Ok.lines.items in
    let Wrote : List ℕ → Type 0 = λ text. WritesText (is_ok c.write_lines-written.result) (g.W.Write.contents (counted_inner c.args.out.now))
    (g.W.Write.contents (counted_inner c.write_lines-written.new.writer))
    (failures_of c.args.out.now) (failures_of c.write_lines-written.new.writer) text in
    let Finished : End → Type 0 = λ success. FinishesWriting g.W.Write.contents (is_ok c.write_lines-written.result) success c.write_lines-written.new.writer c.finish.new.out (end_of c.finish.result)
    in
    let wrote = subst Wrote (ap (flat_map (status_line c.args.json)) c.deref.ensures.value) c.write_lines-written.ensures in
    let success : end_of c.answered_with.result ≡ answered_with (status_by lines) = c.answered_with.ensures ∙ ap answered_with (c.status_by.ensures ∙ ap status_by c.deref-2.ensures.value) in
    inl (
      lines,
      c.in-Ok.ensures,
      ends_writing g.W.Write.contents c.args.out.now c.write_lines-written.new.writer c.finish.new.out (flat_map (status_line c.args.json) lines) (is_ok c.write_lines-written.result) _ _ wrote
          (subst Finished success c.finish.ensures),
    )
