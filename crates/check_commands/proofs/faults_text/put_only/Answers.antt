-- The head, the only one, the end, and then what is held back.
use Rattle.std.proofs.Common.{[], ◌∷◌, ◌++◌, false, length, append-nil, refl, sym}
use Rattle.std.proofs.lemmas.Result.{err_from_is_err_and}
use Rattle.text_io.specs.Laws.Putting.{Leaves-all, Leaves-less, Leaves-broken, Puts-last, Breaks-last}
use Rattle.check_commands.specs.Code.Listing.{end_text, head_text, items_text, told_against, told_text}
use Rattle.check_commands.proofs.FaultsLemmas.{text-parts}
use Rattle.check_commands.proofs.faults_text.put_only.Goals as goal

pub returns-in_err-put_head-clause-err : goal.returns-in_err-put_head-clause-err
returns-in_err-put_head-clause-err g c =
    let p = err_from_is_err_and c.from_residual.result c.from_residual.ensures.1 in
    let told = told_against c.args.told ∷ [] in
    let head = head_text c.args.json in
    let items = items_text c.args.json told in
    let end = end_text c.args.json (length told) c.args.agents false in
    let all = Leaves-all g.W.Write.contents _ _ (head ++ (items ++ (end ++ []))) (text-parts c.args.json told c.args.agents false) in
    rw p.1 (Leaves-broken g.W.Write.contents _ _ _ _ head (items ++ (end ++ [])) _ all refl c.in_err-put_head.ensures.err)

pub returns-in_err-put_told-clause-err : goal.returns-in_err-put_told-clause-err
returns-in_err-put_told-clause-err g c =
    let p = err_from_is_err_and c.from_residual-in_err-put_told.result c.from_residual-in_err-put_told.ensures.1 in
    let told = told_against c.args.told ∷ [] in
    let head = head_text c.args.json in
    let items = items_text c.args.json told in
    let end = end_text c.args.json (length told) c.args.agents false in
    let all = Leaves-all g.W.Write.contents _ _ (head ++ (items ++ (end ++ []))) (text-parts c.args.json told c.args.agents false) in
    let headed = Leaves-less g.W.Write.contents _ _ _ _ head (items ++ (end ++ [])) _ all refl c.in_ok-put_head.ensures.ok in
    rw p.1 (Leaves-broken g.W.Write.contents _ _ _ _ items (end ++ []) _ headed (sym (append-nil (told_text c.args.json (told_against c.args.told)))) c.in_err-put_told.ensures.err)

pub returns-in_err-put_end-clause-err : goal.returns-in_err-put_end-clause-err
returns-in_err-put_end-clause-err g c =
    let p = err_from_is_err_and c.from_residual-in_err-put_end.result c.from_residual-in_err-put_end.ensures.1 in
    let told = told_against c.args.told ∷ [] in
    let head = head_text c.args.json in
    let items = items_text c.args.json told in
    let end = end_text c.args.json (length told) c.args.agents false in
    let all = Leaves-all g.W.Write.contents _ _ (head ++ (items ++ (end ++ []))) (text-parts c.args.json told c.args.agents false) in
    let headed = Leaves-less g.W.Write.contents _ _ _ _ head (items ++ (end ++ [])) _ all refl c.in_ok-put_head.ensures.ok in
    let listed = Leaves-less g.W.Write.contents _ _ _ _ items (end ++ []) _ headed (sym (append-nil (told_text c.args.json (told_against c.args.told)))) c.in_ok-put_told.ensures.ok in
    rw p.1 (Leaves-broken g.W.Write.contents _ _ _ _ end [] _ listed refl c.in_err-put_end.ensures.err)

pub returns-clause-ok : goal.returns-clause-ok
returns-clause-ok g c =
    let told = told_against c.args.told ∷ [] in
    let head = head_text c.args.json in
    let items = items_text c.args.json told in
    let end = end_text c.args.json (length told) c.args.agents false in
    let all = Leaves-all g.W.Write.contents _ _ (head ++ (items ++ (end ++ []))) (text-parts c.args.json told c.args.agents false) in
    let headed = Leaves-less g.W.Write.contents _ _ _ _ head (items ++ (end ++ [])) _ all refl c.in_ok-put_head.ensures.ok in
    let listed = Leaves-less g.W.Write.contents _ _ _ _ items (end ++ []) _ headed (sym (append-nil (told_text c.args.json (told_against c.args.told)))) c.in_ok-put_told.ensures.ok in
    let last = Leaves-less g.W.Write.contents _ _ _ _ end [] _ listed refl c.in_ok-put_end.ensures.ok in
    Puts-last g.W.Write.contents _ _ _ _ [] _ c.hand_on.result last refl c.hand_on.ensures.ok

pub returns-clause-err : goal.returns-clause-err
returns-clause-err g c =
    let told = told_against c.args.told ∷ [] in
    let head = head_text c.args.json in
    let items = items_text c.args.json told in
    let end = end_text c.args.json (length told) c.args.agents false in
    let all = Leaves-all g.W.Write.contents _ _ (head ++ (items ++ (end ++ []))) (text-parts c.args.json told c.args.agents false) in
    let headed = Leaves-less g.W.Write.contents _ _ _ _ head (items ++ (end ++ [])) _ all refl c.in_ok-put_head.ensures.ok in
    let listed = Leaves-less g.W.Write.contents _ _ _ _ items (end ++ []) _ headed (sym (append-nil (told_text c.args.json (told_against c.args.told)))) c.in_ok-put_told.ensures.ok in
    let last = Leaves-less g.W.Write.contents _ _ _ _ end [] _ listed refl c.in_ok-put_end.ensures.ok in
    Breaks-last g.W.Write.contents _ _ _ _ [] _ c.hand_on.result last refl c.hand_on.ensures.err
