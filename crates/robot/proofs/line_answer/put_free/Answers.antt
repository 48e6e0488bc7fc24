-- The word with its number, and an LF.
use Rattle.std.proofs.Common.{[], ◌∷◌, refl}
use Rattle.std.proofs.lemmas.Result.{err_from_is_err_and}
use Rattle.text_io.specs.Text.{line_feed}
use Rattle.text_io.specs.Laws.Putting.{Puts-then, Breaks-then, Breaks-text}
use Rattle.robot.specs.Turns.{free_line}
use Rattle.robot.proofs.line_answer.put_free.Goals as goal

pub returns-in_err-put_numbers-clause-err : goal.returns-in_err-put_numbers-clause-err
returns-in_err-put_numbers-clause-err g c =
    let p = err_from_is_err_and c.from_residual.result c.from_residual.ensures.1 in
    let breaks = rw c.from.ensures at c.in_err-put_numbers.ensures.err in
    rw p.1 (Breaks-text g.W.Write.contents _ _ (free_line c.args.count) (line_feed ∷ []) _ refl breaks)

pub returns-clause-ok : goal.returns-clause-ok
returns-clause-ok g c =
    let line = rw c.from.ensures at c.in_ok-put_numbers.ensures.ok in
    Puts-then g.W.Write.contents _ _ _ (free_line c.args.count) (line_feed ∷ []) _ c.put.result refl line c.put.ensures.ok

pub returns-clause-err : goal.returns-clause-err
returns-clause-err g c =
    let line = rw c.from.ensures at c.in_ok-put_numbers.ensures.ok in
    Breaks-then g.W.Write.contents _ _ _ (free_line c.args.count) (line_feed ∷ []) _ c.put.result refl line c.put.ensures.err
