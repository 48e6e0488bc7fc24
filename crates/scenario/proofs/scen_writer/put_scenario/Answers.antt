-- The version, the rows, and then what is held back.
use Rattle.std.proofs.Common.{[], ◌++◌, map, refl, ap, append-nil}
use Rattle.std.specs.Prelude.{codes}
use Rattle.std.proofs.lemmas.Result.{err_from_is_err_and}
use Rattle.text_io.specs.Text.{ended}
use Rattle.scenario.specs.Query.{row_line, canonical_scen_text}
use Rattle.text_io.specs.Laws.Putting.{Leaves-all, Leaves-less, Leaves-broken, Puts-last, Breaks-last}
use Rattle.scenario.proofs.scen_writer.put_scenario.Goals as goal

pub returns-in_err-put-clause-err : goal.returns-in_err-put-clause-err
returns-in_err-put-clause-err g c =
    let p = err_from_is_err_and c.from_residual.result c.from_residual.ensures.1 in
    let lines = ended (map row_line c.args.scenario.now) in
    let all = Leaves-all g.W.Write.contents _ (canonical_scen_text c.args.scenario.now) _ refl in
    rw p.1 (Leaves-broken g.W.Write.contents _ _ _ _ (codes "version 1\n") lines _ all refl c.in_err-put.ensures.err)

pub returns-in_err-put_rows-clause-err : goal.returns-in_err-put_rows-clause-err
returns-in_err-put_rows-clause-err g c =
    let p = err_from_is_err_and c.from_residual-in_err-put_rows.result c.from_residual-in_err-put_rows.ensures.1 in
    let lines = ended (map row_line c.args.scenario.now) in
    let all = Leaves-all g.W.Write.contents _ (canonical_scen_text c.args.scenario.now) (codes "version 1\n" ++ (lines ++ []))
    (ap (λ xs. codes "version 1\n" ++ xs) (append-nil lines)) in
    let less = Leaves-less g.W.Write.contents _ _ _ _ (codes "version 1\n") (lines ++ []) _ all refl c.in_ok-put.ensures.ok in
    rw p.1 (Leaves-broken g.W.Write.contents _ _ _ _ lines [] _ less (ap (λ qs. ended (map row_line qs)) c.rows.ensures.rows) c.in_err-put_rows.ensures.err)

pub returns-clause-ok : goal.returns-clause-ok
returns-clause-ok g c =
    let lines = ended (map row_line c.args.scenario.now) in
    let all = Leaves-all g.W.Write.contents _ (canonical_scen_text c.args.scenario.now) (codes "version 1\n" ++ (lines ++ []))
    (ap (λ xs. codes "version 1\n" ++ xs) (append-nil lines)) in
    let less = Leaves-less g.W.Write.contents _ _ _ _ (codes "version 1\n") (lines ++ []) _ all refl c.in_ok-put.ensures.ok in
    let last = Leaves-less g.W.Write.contents _ _ _ _ lines [] _ less (ap (λ qs. ended (map row_line qs)) c.rows.ensures.rows) c.in_ok-put_rows.ensures.ok in
    Puts-last g.W.Write.contents _ _ _ _ [] _ c.hand_on.result last refl c.hand_on.ensures.ok

pub returns-clause-err : goal.returns-clause-err
returns-clause-err g c =
    let lines = ended (map row_line c.args.scenario.now) in
    let all = Leaves-all g.W.Write.contents _ (canonical_scen_text c.args.scenario.now) (codes "version 1\n" ++ (lines ++ []))
    (ap (λ xs. codes "version 1\n" ++ xs) (append-nil lines)) in
    let less = Leaves-less g.W.Write.contents _ _ _ _ (codes "version 1\n") (lines ++ []) _ all refl c.in_ok-put.ensures.ok in
    let last = Leaves-less g.W.Write.contents _ _ _ _ lines [] _ less (ap (λ qs. ended (map row_line qs)) c.rows.ensures.rows) c.in_ok-put_rows.ensures.ok in
    Breaks-last g.W.Write.contents _ _ _ _ [] _ c.hand_on.result last refl c.hand_on.ensures.err
