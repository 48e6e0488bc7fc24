-- The word with its number, and then the LF.
use Rattle.std.proofs.Common.{ℕ, List, [], ◌∷◌, ◌++◌, ap, refl}
use Rattle.std.specs.Prelude.{codes, decimal}
use Rattle.std.proofs.lemmas.Result.{err_from_is_err_and}
use Rattle.text_io.specs.Laws.Putting.{Leaves-all, Leaves-less, Leaves-broken, Puts-last, Breaks-last}
use Rattle.text_io.specs.Text.{line_feed}
use Rattle.text_commands.proofs.row_line.put_least.Goals as goal

-- the words without their LF
abbrev least : ℕ → List ℕ
least steps = codes "least" ++ codes " " ++ decimal steps

pub returns-in_err-put_number-clause-err : goal.returns-in_err-put_number-clause-err
returns-in_err-put_number-clause-err g c =
    let p = err_from_is_err_and c.from_residual.result c.from_residual.ensures.1 in
    let counted = least c.args.steps in
    let all = Leaves-all g.W.Write.contents _ _ (counted ++ line_feed ∷ []) refl in
    rw p.1 (Leaves-broken g.W.Write.contents _ _ _ _ counted (line_feed ∷ []) _ all (ap least c.from.ensures) c.in_err-put_number.ensures.err)

pub returns-clause-ok : goal.returns-clause-ok
returns-clause-ok g c =
    let counted = least c.args.steps in
    let all = Leaves-all g.W.Write.contents _ _ (counted ++ line_feed ∷ []) refl in
    let less = Leaves-less g.W.Write.contents _ _ _ _ counted (line_feed ∷ []) _ all (ap least c.from.ensures) c.in_ok-put_number.ensures.ok in
    Puts-last g.W.Write.contents _ _ _ _ (line_feed ∷ []) _ c.put.result less refl c.put.ensures.ok

pub returns-clause-err : goal.returns-clause-err
returns-clause-err g c =
    let counted = least c.args.steps in
    let all = Leaves-all g.W.Write.contents _ _ (counted ++ line_feed ∷ []) refl in
    let less = Leaves-less g.W.Write.contents _ _ _ _ counted (line_feed ∷ []) _ all (ap least c.from.ensures) c.in_ok-put_number.ensures.ok in
    Breaks-last g.W.Write.contents _ _ _ _ (line_feed ∷ []) _ c.put.result less refl c.put.ensures.err
