-- The line, and then its LF.
use Rattle.std.proofs.Common.{[], ◌∷◌, refl}
use Rattle.std.proofs.lemmas.Result.{err_from_is_err_and}
use Rattle.text_io.specs.Text.{line_feed}
use Rattle.text_io.specs.Laws.Putting.{Puts-then, Breaks-then, Breaks-text}
use Rattle.grid.proofs.map_writer.put_line.Goals as goal

pub returns-in_err-put-clause-err : goal.returns-in_err-put-clause-err
returns-in_err-put-clause-err g c =
    let p = err_from_is_err_and c.from_residual.result c.from_residual.ensures.1 in
    rw p.1 (Breaks-text g.W.Write.contents _ _ c.args.line.now (line_feed ∷ []) _ refl c.in_err-put.ensures.err)

pub returns-clause-ok : goal.returns-clause-ok
returns-clause-ok g c = Puts-then g.W.Write.contents _ _ _ c.args.line.now (line_feed ∷ []) _ c.put-2.result refl c.in_ok-put.ensures.ok c.put-2.ensures.ok

pub returns-clause-err : goal.returns-clause-err
returns-clause-err g c = Breaks-then g.W.Write.contents _ _ _ c.args.line.now (line_feed ∷ []) _ c.put-2.result refl c.in_ok-put.ensures.ok c.put-2.ensures.err
