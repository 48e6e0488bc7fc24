-- The whole records, the bytes behind them, and then the LF.
use Rattle.std.proofs.Common.{[], ◌∷◌, ◌++◌, append_assoc, refl, sym}
use Rattle.std.specs.Prelude.{codes, decimal}
use Rattle.std.proofs.lemmas.Result.{err_from_is_err_and}
use Rattle.text_io.specs.Text.{line_feed}
use Rattle.text_io.specs.Laws.Putting.{Leaves-all, Leaves-less, Leaves-broken, Puts-last, Breaks-last}
use Rattle.agent_commands.proofs.tape_report.put_records.Goals as goal

pub returns-in_err-put_number-clause-err : goal.returns-in_err-put_number-clause-err
returns-in_err-put_number-clause-err g c =
    let p = err_from_is_err_and c.from_residual.result c.from_residual.ensures.1 in
    let first = codes "records " ++ decimal c.args.records in
    let second = codes " torn " ++ decimal c.args.torn in
    let left = second ++ line_feed ∷ [] in
    let all = Leaves-all g.W.Write.contents _ _ (first ++ left) (sym (append_assoc first second (line_feed ∷ []))) in
    rw p.1 (Leaves-broken g.W.Write.contents _ _ _ _ first left _ all refl c.in_err-put_number.ensures.err)

pub returns-in_err-put_number-2-clause-err : goal.returns-in_err-put_number-2-clause-err
returns-in_err-put_number-2-clause-err g c =
    let p = err_from_is_err_and c.from_residual-in_err-put_number-2.result c.from_residual-in_err-put_number-2.ensures.1 in
    let first = codes "records " ++ decimal c.args.records in
    let second = codes " torn " ++ decimal c.args.torn in
    let left = second ++ line_feed ∷ [] in
    let all = Leaves-all g.W.Write.contents _ _ (first ++ left) (sym (append_assoc first second (line_feed ∷ []))) in
    let less = Leaves-less g.W.Write.contents _ _ _ _ first left _ all refl c.in_ok-put_number.ensures.ok in
    rw p.1 (Leaves-broken g.W.Write.contents _ _ _ _ second (line_feed ∷ []) _ less refl c.in_err-put_number-2.ensures.err)

pub returns-clause-ok : goal.returns-clause-ok
returns-clause-ok g c =
    let first = codes "records " ++ decimal c.args.records in
    let second = codes " torn " ++ decimal c.args.torn in
    let left = second ++ line_feed ∷ [] in
    let all = Leaves-all g.W.Write.contents _ _ (first ++ left) (sym (append_assoc first second (line_feed ∷ []))) in
    let less = Leaves-less g.W.Write.contents _ _ _ _ first left _ all refl c.in_ok-put_number.ensures.ok in
    let last = Leaves-less g.W.Write.contents _ _ _ _ second (line_feed ∷ []) _ less refl c.in_ok-put_number-2.ensures.ok in
    Puts-last g.W.Write.contents _ _ _ _ (line_feed ∷ []) _ c.put_byte.result last refl c.put_byte.ensures.ok

pub returns-clause-err : goal.returns-clause-err
returns-clause-err g c =
    let first = codes "records " ++ decimal c.args.records in
    let second = codes " torn " ++ decimal c.args.torn in
    let left = second ++ line_feed ∷ [] in
    let all = Leaves-all g.W.Write.contents _ _ (first ++ left) (sym (append_assoc first second (line_feed ∷ []))) in
    let less = Leaves-less g.W.Write.contents _ _ _ _ first left _ all refl c.in_ok-put_number.ensures.ok in
    let last = Leaves-less g.W.Write.contents _ _ _ _ second (line_feed ∷ []) _ less refl c.in_ok-put_number-2.ensures.ok in
    Breaks-last g.W.Write.contents _ _ _ _ (line_feed ∷ []) _ c.put_byte.result last refl c.put_byte.ensures.err
