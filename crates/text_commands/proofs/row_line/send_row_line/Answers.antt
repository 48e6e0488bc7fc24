-- The number with its space, then what the row comes to, and then all is handed on.
use Rattle.std.proofs.Common.{◌≡◌, ◌∙◌, ℕ, List, [], ◌∷◌, ◌++◌, ap, append-nil, append_assoc, refl}
use Rattle.std.specs.Prelude.{decimal}
use Rattle.std.proofs.lemmas.Result.{err_from_is_err_and}
use Rattle.text_io.specs.Laws.Putting.{Leaves-all, Leaves-less, Leaves-broken, Puts-last, Breaks-last}
use Rattle.text_io.specs.Text.{space}
use Rattle.text_commands.specs.RowsCommand.{row_line_text}
use Rattle.text_commands.specs.declared.row_line.RowLine.{RowLine}
use Rattle.text_commands.proofs.row_line.send_row_line.Goals as goal

-- a word that a text follows
abbrev spaced_before : List ℕ → List ℕ
spaced_before word = word ++ space ∷ []

whole : (number : ℕ) (line : RowLine) → spaced_before (decimal number) ++ (row_line_text line ++ []) ≡ decimal number ++ (space ∷ row_line_text line)
whole number line = append_assoc (decimal number) (space ∷ []) (row_line_text line ++ []) ∙ ap (λ text. decimal number ++ (space ∷ text)) (append-nil (row_line_text line))

pub returns-in_err-put_word-clause-err : goal.returns-in_err-put_word-clause-err
returns-in_err-put_word-clause-err g c =
    let p = err_from_is_err_and c.from_residual.result c.from_residual.ensures.1 in
    let line = c.args.line.now in
    let all = Leaves-all g.W.Write.contents _ _ (spaced_before (decimal c.args.number) ++ (row_line_text line ++ [])) (whole c.args.number line) in
    rw p.1 (Leaves-broken g.W.Write.contents _ _ _ _ (spaced_before (decimal c.args.number)) (row_line_text line ++ []) _ all (ap spaced_before (c.as_bytes.ensures.value ∙ c.format.ensures.text))
    c.in_err-put_word.ensures.err)

pub returns-in_err-put_row_line-clause-err : goal.returns-in_err-put_row_line-clause-err
returns-in_err-put_row_line-clause-err g c =
    let p = err_from_is_err_and c.from_residual-in_err-put_row_line.result c.from_residual-in_err-put_row_line.ensures.1 in
    let line = c.args.line.now in
    let all = Leaves-all g.W.Write.contents _ _ (spaced_before (decimal c.args.number) ++ (row_line_text line ++ [])) (whole c.args.number line) in
    let number = Leaves-less g.W.Write.contents _ _ _ _ (spaced_before (decimal c.args.number)) (row_line_text line ++ []) _ all (ap spaced_before (c.as_bytes.ensures.value ∙ c.format.ensures.text))
    c.in_ok-put_word.ensures.ok in
    rw p.1 (Leaves-broken g.W.Write.contents _ _ _ _ (row_line_text line) [] _ number refl c.in_err-put_row_line.ensures.err)

pub returns-clause-ok : goal.returns-clause-ok
returns-clause-ok g c =
    let line = c.args.line.now in
    let all = Leaves-all g.W.Write.contents _ _ (spaced_before (decimal c.args.number) ++ (row_line_text line ++ [])) (whole c.args.number line) in
    let number = Leaves-less g.W.Write.contents _ _ _ _ (spaced_before (decimal c.args.number)) (row_line_text line ++ []) _ all (ap spaced_before (c.as_bytes.ensures.value ∙ c.format.ensures.text))
    c.in_ok-put_word.ensures.ok in
    let told = Leaves-less g.W.Write.contents _ _ _ _ (row_line_text line) [] _ number refl c.in_ok-put_row_line.ensures.ok in
    Puts-last g.W.Write.contents _ _ _ _ [] _ c.flush.result told refl c.flush.ensures.ok

pub returns-clause-err : goal.returns-clause-err
returns-clause-err g c =
    let line = c.args.line.now in
    let all = Leaves-all g.W.Write.contents _ _ (spaced_before (decimal c.args.number) ++ (row_line_text line ++ [])) (whole c.args.number line) in
    let number = Leaves-less g.W.Write.contents _ _ _ _ (spaced_before (decimal c.args.number)) (row_line_text line ++ []) _ all (ap spaced_before (c.as_bytes.ensures.value ∙ c.format.ensures.text))
    c.in_ok-put_word.ensures.ok in
    let told = Leaves-less g.W.Write.contents _ _ _ _ (row_line_text line) [] _ number refl c.in_ok-put_row_line.ensures.ok in
    Breaks-last g.W.Write.contents _ _ _ _ [] _ c.flush.result told refl c.flush.ensures.err
