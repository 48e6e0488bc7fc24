-- The word, and then the number and the line's LF.
use Rattle.std.proofs.Common.{◌≡◌, [], ◌∷◌, ◌++◌, sym, ap, ◌∙◌, append_assoc}
use Rattle.std.specs.Prelude.{decimal}
use Rattle.std.proofs.lemmas.Result.{err_from_is_err_and}
use Rattle.text_io.specs.Text.{line_feed}
use Rattle.text_io.specs.Laws.Putting.{Puts-then, Breaks-then, Breaks-text}
use Rattle.grid.proofs.map_writer.put_size.Goals as goal

pub returns-in_err-put-clause-err : goal.returns-in_err-put-clause-err
returns-in_err-put-clause-err g c =
    let p = err_from_is_err_and c.from_residual.result c.from_residual.ensures.1 in
    rw p.1 (Breaks-text g.W.Write.contents _ _ c.args.word.now (decimal c.args.size ++ line_feed ∷ []) _
    (sym (append_assoc c.args.word.now (decimal c.args.size) (line_feed ∷ []))) c.in_err-put.ensures.err)

pub returns-clause-ok : goal.returns-clause-ok
returns-clause-ok g c =
    let digits : c.as_bytes.result.now ≡ decimal c.args.size = c.as_bytes.ensures.value ∙ c.format.ensures.text in
    Puts-then g.W.Write.contents _ _ _ c.args.word.now (c.as_bytes.result.now ++ line_feed ∷ []) _ c.put_line.result
    (ap (λ l. c.args.word.now ++ (l ++ line_feed ∷ [])) digits ∙ sym (append_assoc c.args.word.now (decimal c.args.size) (line_feed ∷ [])))
    c.in_ok-put.ensures.ok c.put_line.ensures.ok

pub returns-clause-err : goal.returns-clause-err
returns-clause-err g c =
    let digits : c.as_bytes.result.now ≡ decimal c.args.size = c.as_bytes.ensures.value ∙ c.format.ensures.text in
    Breaks-then g.W.Write.contents _ _ _ c.args.word.now (c.as_bytes.result.now ++ line_feed ∷ []) _ c.put_line.result
    (ap (λ l. c.args.word.now ++ (l ++ line_feed ∷ [])) digits ∙ sym (append_assoc c.args.word.now (decimal c.args.size) (line_feed ∷ [])))
    c.in_ok-put.ensures.ok c.put_line.ensures.err
