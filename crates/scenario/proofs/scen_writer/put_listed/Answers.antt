-- The whole part, and then the point and the decimals, where there are some.
use Rattle.std.proofs.Common.{◌≡◌, ◌+◌, ◌%◌, ◌/◌, ◌^◌, ◌<◌, ◌∷◌, length, refl, ap, ◌∙◌, arith, rules}
use Rattle.std.specs.Prelude.{decimal}
use Rattle.std.proofs.lemmas.Result.{err_from_is_err_and}
use Rattle.scenario.specs.Query.{point, decimals_text, listed_text}
use Rattle.scenario.proofs.DigitLemmas.{marked-fits, scale-some, length-behind_one, decimals_behind_one}
use Rattle.text_io.specs.Laws.Putting.{Leaves-all, Leaves-broken, Puts-last, Breaks-last}
use Rattle.scenario.proofs.LinePuts.{whole-put}
use Rattle.scenario.proofs.scen_writer.put_listed.Goals as goal

pub nonzero_div-listed : goal.nonzero_div-listed
nonzero_div-listed g c = scale-some c.from.result c.pow-scale.result c.pow-scale.ensures

pub nonzero_rem-listed : goal.nonzero_rem-listed
nonzero_rem-listed g c = scale-some c.from.result c.pow-scale.result c.pow-scale.ensures

pub overflow_add-scale : goal.overflow_add-scale
overflow_add-scale g c =
    let fits : c.pow-scale.result + c.args.listed.n % c.pow-scale.result < 2 ^ 64 =
    marked-fits c.from.result c.args.listed.n c.pow-scale.result (omega arith) c.pow-scale.ensures in
    omega arith

pub slice_bounds-put_after-count : goal.slice_bounds-put_after-count
slice_bounds-put_after-count g c =
    let long : length c.as_bytes-decimals.result.now ≡ 1 + c.from.result =
    length-behind_one c.from.result c.args.listed.n c.pow-scale.result c.as_bytes-decimals.result.now (omega arith) c.pow-scale.ensures
    (c.as_bytes-decimals.ensures.value ∙ c.format-2.ensures.text) in
    omega arith

pub slice_bounds-put_after-start : goal.slice_bounds-put_after-start
slice_bounds-put_after-start g c =
    let long : length c.as_bytes-decimals.result.now ≡ 1 + c.from.result =
    length-behind_one c.from.result c.args.listed.n c.pow-scale.result c.as_bytes-decimals.result.now (omega arith) c.pow-scale.ensures
    (c.as_bytes-decimals.ensures.value ∙ c.format-2.ensures.text) in
    search rules

pub returns-in_err-put-clause-err : goal.returns-in_err-put-clause-err
returns-in_err-put-clause-err g c =
    let p = err_from_is_err_and c.from_residual.result c.from_residual.ensures.1 in
    let listed = c.args.listed in
    let power : c.pow-scale.result ≡ 10 ^ listed.d = c.pow-scale.ensures ∙ ap (λ k. 10 ^ k) c.from.ensures in
    let whole : c.as_bytes.result.now ≡ decimal (listed.n / 10 ^ listed.d)
    = c.as_bytes.ensures.value ∙ c.format.ensures.text ∙ ap (λ k. decimal (listed.n / k)) power in
    let all = Leaves-all g.W.Write.contents _ (listed_text listed.n listed.d) _ refl in
    rw p.1 (Leaves-broken g.W.Write.contents _ _ _ _ (decimal (listed.n / 10 ^ listed.d)) (decimals_text listed.d listed.n) _ all whole c.in_err-put.ensures.err)

pub returns-clause-ok : goal.returns-clause-ok
returns-clause-ok g c =
    let listed = c.args.listed in
    let power : c.pow-scale.result ≡ 10 ^ listed.d = c.pow-scale.ensures ∙ ap (λ k. 10 ^ k) c.from.ensures in
    let whole : c.as_bytes.result.now ≡ decimal (listed.n / 10 ^ listed.d)
    = c.as_bytes.ensures.value ∙ c.format.ensures.text ∙ ap (λ k. decimal (listed.n / k)) power in
    let front = whole-put g.W.Write.contents listed.n listed.d _ _ _ whole (omega arith) c.in_ok-put.ensures.ok in
    Puts-last g.W.Write.contents _ _ _ _ _ _ c.put_after.result front
    (ap (λ xs. point ∷ xs) (decimals_behind_one listed.d listed.n c.pow-scale.result c.as_bytes-decimals.result.now listed.decimals_limit power
    (c.as_bytes-decimals.ensures.value ∙ c.format-2.ensures.text))) c.put_after.ensures.ok

pub returns-clause-err : goal.returns-clause-err
returns-clause-err g c =
    let listed = c.args.listed in
    let power : c.pow-scale.result ≡ 10 ^ listed.d = c.pow-scale.ensures ∙ ap (λ k. 10 ^ k) c.from.ensures in
    let whole : c.as_bytes.result.now ≡ decimal (listed.n / 10 ^ listed.d)
    = c.as_bytes.ensures.value ∙ c.format.ensures.text ∙ ap (λ k. decimal (listed.n / k)) power in
    let front = whole-put g.W.Write.contents listed.n listed.d _ _ _ whole (omega arith) c.in_ok-put.ensures.ok in
    Breaks-last g.W.Write.contents _ _ _ _ _ _ c.put_after.result front
    (ap (λ xs. point ∷ xs) (decimals_behind_one listed.d listed.n c.pow-scale.result c.as_bytes-decimals.result.now listed.decimals_limit power
    (c.as_bytes-decimals.ensures.value ∙ c.format-2.ensures.text))) c.put_after.ensures.err
