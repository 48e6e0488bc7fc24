-- The head, the faults, the end, and then what is held back.
use Rattle.std.proofs.Common.{◌∙◌, [], ◌++◌, ap, length, map, refl}
use Rattle.std.proofs.lemmas.Result.{err_from_is_err_and}
use Rattle.text_io.specs.Laws.Putting.{Leaves-all, Leaves-less, Leaves-broken, Puts-last, Breaks-last}
use Rattle.check_commands.specs.Code.Listing.{end_text, head_text, items_text}
use Rattle.check_commands.specs.FaultsText.{of_plan}
use Rattle.check_commands.proofs.FaultsLemmas.{as-many, end-same, text-parts}
use Rattle.check_commands.proofs.faults_text.put_faults.Goals as goal

pub returns-in_err-put_head-clause-err : goal.returns-in_err-put_head-clause-err
returns-in_err-put_head-clause-err g c =
    let p = err_from_is_err_and c.from_residual.result c.from_residual.ensures.1 in
    let f = c.args.faults.now in
    let told = map of_plan f.listed.items in
    let head = head_text c.args.json in
    let items = items_text c.args.json told in
    let end = end_text c.args.json (length told) f.agents f.more in
    let all = Leaves-all g.W.Write.contents _ _ (head ++ (items ++ (end ++ []))) (text-parts c.args.json told f.agents f.more) in
    rw p.1 (Leaves-broken g.W.Write.contents _ _ _ _ head (items ++ (end ++ [])) _ all refl c.in_err-put_head.ensures.err)

pub returns-in_err-put_items-clause-err : goal.returns-in_err-put_items-clause-err
returns-in_err-put_items-clause-err g c =
    let p = err_from_is_err_and c.from_residual-in_err-put_items.result c.from_residual-in_err-put_items.ensures.1 in
    let f = c.args.faults.now in
    let told = map of_plan f.listed.items in
    let head = head_text c.args.json in
    let items = items_text c.args.json told in
    let end = end_text c.args.json (length told) f.agents f.more in
    let all = Leaves-all g.W.Write.contents _ _ (head ++ (items ++ (end ++ []))) (text-parts c.args.json told f.agents f.more) in
    let headed = Leaves-less g.W.Write.contents _ _ _ _ head (items ++ (end ++ [])) _ all refl c.in_ok-put_head.ensures.ok in
    rw p.1 (Leaves-broken g.W.Write.contents _ _ _ _ items (end ++ []) _ headed (ap (λ faults. items_text c.args.json (map of_plan faults)) c.deref.ensures.value) c.in_err-put_items.ensures.err)

pub returns-in_err-put_end-clause-err : goal.returns-in_err-put_end-clause-err
returns-in_err-put_end-clause-err g c =
    let p = err_from_is_err_and c.from_residual-in_err-put_end.result c.from_residual-in_err-put_end.ensures.1 in
    let f = c.args.faults.now in
    let told = map of_plan f.listed.items in
    let head = head_text c.args.json in
    let items = items_text c.args.json told in
    let end = end_text c.args.json (length told) f.agents f.more in
    let all = Leaves-all g.W.Write.contents _ _ (head ++ (items ++ (end ++ []))) (text-parts c.args.json told f.agents f.more) in
    let headed = Leaves-less g.W.Write.contents _ _ _ _ head (items ++ (end ++ [])) _ all refl c.in_ok-put_head.ensures.ok in
    let many = as-many f.listed.items _ (c.len.ensures ∙ f.listed.ok.0) in
    let ended = end-same c.args.json _ _ (length told) f.agents f.more many c.from.ensures in
    let listed = Leaves-less g.W.Write.contents _ _ _ _ items (end ++ []) _ headed (ap (λ faults. items_text c.args.json (map of_plan faults)) c.deref.ensures.value) c.in_ok-put_items.ensures.ok in
    rw p.1 (Leaves-broken g.W.Write.contents _ _ _ _ end [] _ listed ended c.in_err-put_end.ensures.err)

pub returns-clause-ok : goal.returns-clause-ok
returns-clause-ok g c =
    let f = c.args.faults.now in
    let told = map of_plan f.listed.items in
    let head = head_text c.args.json in
    let items = items_text c.args.json told in
    let end = end_text c.args.json (length told) f.agents f.more in
    let all = Leaves-all g.W.Write.contents _ _ (head ++ (items ++ (end ++ []))) (text-parts c.args.json told f.agents f.more) in
    let headed = Leaves-less g.W.Write.contents _ _ _ _ head (items ++ (end ++ [])) _ all refl c.in_ok-put_head.ensures.ok in
    let many = as-many f.listed.items _ (c.len.ensures ∙ f.listed.ok.0) in
    let ended = end-same c.args.json _ _ (length told) f.agents f.more many c.from.ensures in
    let listed = Leaves-less g.W.Write.contents _ _ _ _ items (end ++ []) _ headed (ap (λ faults. items_text c.args.json (map of_plan faults)) c.deref.ensures.value) c.in_ok-put_items.ensures.ok in
    let last = Leaves-less g.W.Write.contents _ _ _ _ end [] _ listed ended c.in_ok-put_end.ensures.ok in
    Puts-last g.W.Write.contents _ _ _ _ [] _ c.hand_on.result last refl c.hand_on.ensures.ok

pub returns-clause-err : goal.returns-clause-err
returns-clause-err g c =
    let f = c.args.faults.now in
    let told = map of_plan f.listed.items in
    let head = head_text c.args.json in
    let items = items_text c.args.json told in
    let end = end_text c.args.json (length told) f.agents f.more in
    let all = Leaves-all g.W.Write.contents _ _ (head ++ (items ++ (end ++ []))) (text-parts c.args.json told f.agents f.more) in
    let headed = Leaves-less g.W.Write.contents _ _ _ _ head (items ++ (end ++ [])) _ all refl c.in_ok-put_head.ensures.ok in
    let many = as-many f.listed.items _ (c.len.ensures ∙ f.listed.ok.0) in
    let ended = end-same c.args.json _ _ (length told) f.agents f.more many c.from.ensures in
    let listed = Leaves-less g.W.Write.contents _ _ _ _ items (end ++ []) _ headed (ap (λ faults. items_text c.args.json (map of_plan faults)) c.deref.ensures.value) c.in_ok-put_items.ensures.ok in
    let last = Leaves-less g.W.Write.contents _ _ _ _ end [] _ listed ended c.in_ok-put_end.ensures.ok in
    Breaks-last g.W.Write.contents _ _ _ _ [] _ c.hand_on.result last refl c.hand_on.ensures.err
