-- The time, the cells, and then the LF.
use Rattle.std.proofs.Common.{[], ◌∷◌, ◌++◌, append_assoc, refl, sym, ◌∙◌}
use Rattle.std.specs.Prelude.{decimal}
use Rattle.std.proofs.lemmas.Result.{err_from_is_err_and}
use Rattle.text_io.specs.Text.{line_feed, spaced_numbers}
use Rattle.text_io.specs.Laws.Putting.{Leaves-all, Leaves-less, Leaves-broken, Puts-last, Breaks-last}
use Rattle.plan_commands.specs.PathText.{numbers_of}
use Rattle.plan_commands.proofs.path_text.put_row.Goals as goal

pub returns-in_err-put-clause-err : goal.returns-in_err-put-clause-err
returns-in_err-put-clause-err g c =
    let p = err_from_is_err_and c.from_residual.result c.from_residual.ensures.1 in
    let first = decimal c.args.time in
    let second = spaced_numbers (numbers_of c.args.cells.now) in
    let all = Leaves-all g.W.Write.contents _ _ (first ++ (second ++ line_feed ∷ [])) (sym (append_assoc first second (line_feed ∷ []))) in
    rw p.1 (Leaves-broken g.W.Write.contents _ _ _ _ first (second ++ line_feed ∷ []) _ all (c.as_bytes.ensures.value ∙ c.format.ensures.text) c.in_err-put.ensures.err)

pub returns-in_err-put_cells-clause-err : goal.returns-in_err-put_cells-clause-err
returns-in_err-put_cells-clause-err g c =
    let p = err_from_is_err_and c.from_residual-in_err-put_cells.result c.from_residual-in_err-put_cells.ensures.1 in
    let first = decimal c.args.time in
    let second = spaced_numbers (numbers_of c.args.cells.now) in
    let all = Leaves-all g.W.Write.contents _ _ (first ++ (second ++ line_feed ∷ [])) (sym (append_assoc first second (line_feed ∷ []))) in
    let less = Leaves-less g.W.Write.contents _ _ _ _ first (second ++ line_feed ∷ []) _ all (c.as_bytes.ensures.value ∙ c.format.ensures.text) c.in_ok-put.ensures.ok in
    rw p.1 (Leaves-broken g.W.Write.contents _ _ _ _ second (line_feed ∷ []) _ less refl c.in_err-put_cells.ensures.err)

pub returns-clause-ok : goal.returns-clause-ok
returns-clause-ok g c =
    let first = decimal c.args.time in
    let second = spaced_numbers (numbers_of c.args.cells.now) in
    let all = Leaves-all g.W.Write.contents _ _ (first ++ (second ++ line_feed ∷ [])) (sym (append_assoc first second (line_feed ∷ []))) in
    let less = Leaves-less g.W.Write.contents _ _ _ _ first (second ++ line_feed ∷ []) _ all (c.as_bytes.ensures.value ∙ c.format.ensures.text) c.in_ok-put.ensures.ok in
    let last = Leaves-less g.W.Write.contents _ _ _ _ second (line_feed ∷ []) _ less refl c.in_ok-put_cells.ensures.ok in
    Puts-last g.W.Write.contents _ _ _ _ (line_feed ∷ []) _ c.put_byte.result last refl c.put_byte.ensures.ok

pub returns-clause-err : goal.returns-clause-err
returns-clause-err g c =
    let first = decimal c.args.time in
    let second = spaced_numbers (numbers_of c.args.cells.now) in
    let all = Leaves-all g.W.Write.contents _ _ (first ++ (second ++ line_feed ∷ [])) (sym (append_assoc first second (line_feed ∷ []))) in
    let less = Leaves-less g.W.Write.contents _ _ _ _ first (second ++ line_feed ∷ []) _ all (c.as_bytes.ensures.value ∙ c.format.ensures.text) c.in_ok-put.ensures.ok in
    let last = Leaves-less g.W.Write.contents _ _ _ _ second (line_feed ∷ []) _ less refl c.in_ok-put_cells.ensures.ok in
    Breaks-last g.W.Write.contents _ _ _ _ (line_feed ∷ []) _ c.put_byte.result last refl c.put_byte.ensures.err
