-- The nine fields, one after another, and then the line's LF.
use Rattle.std.proofs.Common.{◌≡◌, [], ◌∷◌, refl, ap, ◌∙◌}
use Rattle.std.specs.Prelude.{decimal}
use Rattle.std.proofs.lemmas.Result.{err_from_is_err_and}
use Rattle.text_io.specs.Text.{tab, line_feed}
use Rattle.scenario.specs.Query.{listed_text}
use Rattle.text_io.specs.Laws.Putting.{Leaves-broken, Puts-last, Breaks-last}
use Rattle.scenario.proofs.LinePuts.{number_fields, sizes_and_cells, from_name, from_sizes, from_last_tab, from_listed, row-begins, bucket-put, name-put, sizes-put, tab-put, listed-put}
use Rattle.scenario.proofs.scen_writer.put_row.Goals as goal

pub returns-in_err-put-clause-err : goal.returns-in_err-put-clause-err
returns-in_err-put-clause-err g c =
    let p = err_from_is_err_and c.from_residual.result c.from_residual.ensures.1 in
    let q = c.args.row.now in
    let digits : c.as_bytes.result.now ≡ decimal q.bucket = c.as_bytes.ensures.value ∙ c.format.ensures.text ∙ ap decimal c.bucket.ensures in
    rw p.1 (Leaves-broken g.W.Write.contents _ _ _ _ (decimal q.bucket) (from_name q) _ (row-begins g.W.Write.contents q _) digits c.in_err-put.ensures.err)

pub returns-in_err-put_after-clause-err : goal.returns-in_err-put_after-clause-err
returns-in_err-put_after-clause-err g c =
    let p = err_from_is_err_and c.from_residual-in_err-put_after.result c.from_residual-in_err-put_after.ensures.1 in
    let q = c.args.row.now in
    let digits : c.as_bytes.result.now ≡ decimal q.bucket = c.as_bytes.ensures.value ∙ c.format.ensures.text ∙ ap decimal c.bucket.ensures in
    let bucket = bucket-put g.W.Write.contents q _ _ _ digits c.in_ok-put.ensures.ok in
    rw p.1 (Leaves-broken g.W.Write.contents _ _ _ _ (tab ∷ q.name) (from_sizes q) _ bucket (ap (λ xs. tab ∷ xs) c.name.ensures) c.in_err-put_after.ensures.err)

pub returns-in_err-put_numbers-clause-err : goal.returns-in_err-put_numbers-clause-err
returns-in_err-put_numbers-clause-err g c =
    let p = err_from_is_err_and c.from_residual-in_err-put_numbers.result c.from_residual-in_err-put_numbers.ensures.1 in
    let q = c.args.row.now in
    let digits : c.as_bytes.result.now ≡ decimal q.bucket = c.as_bytes.ensures.value ∙ c.format.ensures.text ∙ ap decimal c.bucket.ensures in
    let given : c.from.result ∷ c.from-2.result ∷ c.from-3.result ∷ c.from-4.result ∷ c.from-5.result ∷ c.from-6.result ∷ [] ≡ sizes_and_cells q = cc in
    let bucket = bucket-put g.W.Write.contents q _ _ _ digits c.in_ok-put.ensures.ok in
    let name = name-put g.W.Write.contents q _ _ _ c.name.result.now bucket c.name.ensures c.in_ok-put_after.ensures.ok in
    rw p.1 (Leaves-broken g.W.Write.contents _ _ _ _ (number_fields (sizes_and_cells q)) (from_last_tab q) _ name (ap number_fields given) c.in_err-put_numbers.ensures.err)

pub returns-in_err-put_byte-clause-err : goal.returns-in_err-put_byte-clause-err
returns-in_err-put_byte-clause-err g c =
    let p = err_from_is_err_and c.from_residual-in_err-put_byte.result c.from_residual-in_err-put_byte.ensures.1 in
    let q = c.args.row.now in
    let digits : c.as_bytes.result.now ≡ decimal q.bucket = c.as_bytes.ensures.value ∙ c.format.ensures.text ∙ ap decimal c.bucket.ensures in
    let given : c.from.result ∷ c.from-2.result ∷ c.from-3.result ∷ c.from-4.result ∷ c.from-5.result ∷ c.from-6.result ∷ [] ≡ sizes_and_cells q = cc in
    let bucket = bucket-put g.W.Write.contents q _ _ _ digits c.in_ok-put.ensures.ok in
    let name = name-put g.W.Write.contents q _ _ _ c.name.result.now bucket c.name.ensures c.in_ok-put_after.ensures.ok in
    let sizes = sizes-put g.W.Write.contents q _ _ _ _ name given c.in_ok-put_numbers.ensures.ok in
    rw p.1 (Leaves-broken g.W.Write.contents _ _ _ _ (tab ∷ []) (from_listed q) _ sizes refl c.in_err-put_byte.ensures.err)

pub returns-in_err-put_listed-clause-err : goal.returns-in_err-put_listed-clause-err
returns-in_err-put_listed-clause-err g c =
    let p = err_from_is_err_and c.from_residual-in_err-put_listed.result c.from_residual-in_err-put_listed.ensures.1 in
    let q = c.args.row.now in
    let digits : c.as_bytes.result.now ≡ decimal q.bucket = c.as_bytes.ensures.value ∙ c.format.ensures.text ∙ ap decimal c.bucket.ensures in
    let given : c.from.result ∷ c.from-2.result ∷ c.from-3.result ∷ c.from-4.result ∷ c.from-5.result ∷ c.from-6.result ∷ [] ≡ sizes_and_cells q = cc in
    let bucket = bucket-put g.W.Write.contents q _ _ _ digits c.in_ok-put.ensures.ok in
    let name = name-put g.W.Write.contents q _ _ _ c.name.result.now bucket c.name.ensures c.in_ok-put_after.ensures.ok in
    let sizes = sizes-put g.W.Write.contents q _ _ _ _ name given c.in_ok-put_numbers.ensures.ok in
    let behind = tab-put g.W.Write.contents q _ _ _ sizes c.in_ok-put_byte.ensures.ok in
    let listed : listed_text c.listed.result.n c.listed.result.d ≡ listed_text q.listed q.decimals
    = ap (λ n. listed_text n c.listed.result.d) c.listed.ensures.number ∙ ap (listed_text q.listed) c.listed.ensures.decimals in
    rw p.1 (Leaves-broken g.W.Write.contents _ _ _ _ (listed_text q.listed q.decimals) (line_feed ∷ []) _ behind listed c.in_err-put_listed.ensures.err)

pub returns-clause-ok : goal.returns-clause-ok
returns-clause-ok g c =
    let q = c.args.row.now in
    let digits : c.as_bytes.result.now ≡ decimal q.bucket = c.as_bytes.ensures.value ∙ c.format.ensures.text ∙ ap decimal c.bucket.ensures in
    let given : c.from.result ∷ c.from-2.result ∷ c.from-3.result ∷ c.from-4.result ∷ c.from-5.result ∷ c.from-6.result ∷ [] ≡ sizes_and_cells q = cc in
    let bucket = bucket-put g.W.Write.contents q _ _ _ digits c.in_ok-put.ensures.ok in
    let name = name-put g.W.Write.contents q _ _ _ c.name.result.now bucket c.name.ensures c.in_ok-put_after.ensures.ok in
    let sizes = sizes-put g.W.Write.contents q _ _ _ _ name given c.in_ok-put_numbers.ensures.ok in
    let behind = tab-put g.W.Write.contents q _ _ _ sizes c.in_ok-put_byte.ensures.ok in
    let listed = listed-put g.W.Write.contents q _ _ _ c.listed.result.n c.listed.result.d behind c.listed.ensures.number c.listed.ensures.decimals
    c.in_ok-put_listed.ensures.ok in
    Puts-last g.W.Write.contents _ _ _ _ (line_feed ∷ []) _ c.put_byte-2.result listed refl c.put_byte-2.ensures.ok

pub returns-clause-err : goal.returns-clause-err
returns-clause-err g c =
    let q = c.args.row.now in
    let digits : c.as_bytes.result.now ≡ decimal q.bucket = c.as_bytes.ensures.value ∙ c.format.ensures.text ∙ ap decimal c.bucket.ensures in
    let given : c.from.result ∷ c.from-2.result ∷ c.from-3.result ∷ c.from-4.result ∷ c.from-5.result ∷ c.from-6.result ∷ [] ≡ sizes_and_cells q = cc in
    let bucket = bucket-put g.W.Write.contents q _ _ _ digits c.in_ok-put.ensures.ok in
    let name = name-put g.W.Write.contents q _ _ _ c.name.result.now bucket c.name.ensures c.in_ok-put_after.ensures.ok in
    let sizes = sizes-put g.W.Write.contents q _ _ _ _ name given c.in_ok-put_numbers.ensures.ok in
    let behind = tab-put g.W.Write.contents q _ _ _ sizes c.in_ok-put_byte.ensures.ok in
    let listed = listed-put g.W.Write.contents q _ _ _ c.listed.result.n c.listed.result.d behind c.listed.ensures.number c.listed.ensures.decimals
    c.in_ok-put_listed.ensures.ok in
    Breaks-last g.W.Write.contents _ _ _ _ (line_feed ∷ []) _ c.put_byte-2.result listed refl c.put_byte-2.ensures.err
