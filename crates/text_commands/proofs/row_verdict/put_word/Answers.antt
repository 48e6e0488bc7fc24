-- The word, and then its space.
use Rattle.std.proofs.Common.{[], ◌∷◌, ◌++◌, refl}
use Rattle.std.proofs.lemmas.Result.{err_from_is_err_and}
use Rattle.text_io.specs.Text.{space}
use Rattle.text_io.specs.Laws.Putting.{Leaves-all, Leaves-less, Leaves-broken, Puts-last, Breaks-last}
use Rattle.text_commands.proofs.row_verdict.put_word.Goals as goal

pub returns-in_err-put-clause-err : goal.returns-in_err-put-clause-err
returns-in_err-put-clause-err g c =
    let p = err_from_is_err_and c.from_residual.result c.from_residual.ensures.1 in
    let all = Leaves-all g.W.Write.contents _ _ (c.args.word.now ++ space ∷ []) refl in
    rw p.1 (Leaves-broken g.W.Write.contents _ _ _ _ c.args.word.now (space ∷ []) _ all refl c.in_err-put.ensures.err)

pub returns-clause-ok : goal.returns-clause-ok
returns-clause-ok g c =
    let all = Leaves-all g.W.Write.contents _ _ (c.args.word.now ++ space ∷ []) refl in
    Puts-last g.W.Write.contents _ _ _ _ (space ∷ []) _ c.put-2.result
    (Leaves-less g.W.Write.contents _ _ _ _ c.args.word.now (space ∷ []) _ all refl c.in_ok-put.ensures.ok) refl c.put-2.ensures.ok

pub returns-clause-err : goal.returns-clause-err
returns-clause-err g c =
    let all = Leaves-all g.W.Write.contents _ _ (c.args.word.now ++ space ∷ []) refl in
    Breaks-last g.W.Write.contents _ _ _ _ (space ∷ []) _ c.put-2.result
    (Leaves-less g.W.Write.contents _ _ _ _ c.args.word.now (space ∷ []) _ all refl c.in_ok-put.ensures.ok) refl c.put-2.ensures.err
