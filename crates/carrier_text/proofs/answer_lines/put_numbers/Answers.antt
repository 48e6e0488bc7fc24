-- The word with its numbers, and an LF.
use Rattle.std.proofs.Common.{[], ◌∷◌, ◌++◌, refl}
use Rattle.std.proofs.lemmas.Result.{err_from_is_err_and}
use Rattle.text_io.specs.Text.{line_feed, spaced_numbers}
use Rattle.text_io.specs.Laws.Putting.{Puts-then, Breaks-then, Breaks-text}
use Rattle.carrier_text.proofs.answer_lines.put_numbers.Goals as goal

pub returns-in_err-put_numbers-clause-err : goal.returns-in_err-put_numbers-clause-err
returns-in_err-put_numbers-clause-err g c =
    let p = err_from_is_err_and c.from_residual.result c.from_residual.ensures.1 in
    rw p.1 (Breaks-text g.W.Write.contents _ _ (c.args.word.now ++ spaced_numbers c.args.numbers.now) (line_feed ∷ []) _ refl c.in_err-put_numbers.ensures.err)

pub returns-clause-ok : goal.returns-clause-ok
returns-clause-ok g c =
    Puts-then g.W.Write.contents _ _ _ (c.args.word.now ++ spaced_numbers c.args.numbers.now) (line_feed ∷ []) _ c.put.result refl
    c.in_ok-put_numbers.ensures.ok c.put.ensures.ok

pub returns-clause-err : goal.returns-clause-err
returns-clause-err g c =
    Breaks-then g.W.Write.contents _ _ _ (c.args.word.now ++ spaced_numbers c.args.numbers.now) (line_feed ∷ []) _ c.put.result refl
    c.in_ok-put_numbers.ensures.ok c.put.ensures.err
