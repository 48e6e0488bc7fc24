-- The first four, and then the others.
use Rattle.std.proofs.Common.{◌≡◌, ◌++◌, ◌∷◌, take, drop, refl, sym, ap, ◌∙◌}
use Rattle.std.specs.Prelude.{decimal}
use Rattle.std.proofs.lemmas.List.{take-append-drop, take_rest}
use Rattle.std.proofs.lemmas.List.Concat.{flat_map-append}
use Rattle.std.proofs.lemmas.Result.{err_from_is_err_and}
use Rattle.text_io.specs.Laws.Putting.{Leaves-all, Leaves-less, Leaves-broken, Puts-last, Breaks-last}
use Rattle.scenario.proofs.LinePuts.{number_fields}
use Rattle.scenario.proofs.scen_writer.put_numbers.Goals as goal

pub returns-in_err-put_numbers-clause-err : goal.returns-in_err-put_numbers-clause-err
returns-in_err-put_numbers-clause-err g c =
    let p = err_from_is_err_and c.from_residual.result c.from_residual.ensures.1 in
    let numbers = c.args.numbers.now in
    let parts : number_fields (take 4 numbers) ++ number_fields (drop 4 numbers) ≡ number_fields numbers =
    sym (flat_map-append (λ n. 9 ∷ decimal n) (take 4 numbers) (drop 4 numbers)) ∙ ap number_fields (take-append-drop 4 numbers) in
    let all = Leaves-all g.W.Write.contents _ (number_fields numbers) _ parts in
    rw p.1 (Leaves-broken g.W.Write.contents _ _ _ _ (number_fields (take 4 numbers)) (number_fields (drop 4 numbers)) _ all refl c.in_err-put_numbers.ensures.err)

pub returns-clause-ok : goal.returns-clause-ok
returns-clause-ok g c =
    let numbers = c.args.numbers.now in
    let parts : number_fields (take 4 numbers) ++ number_fields (drop 4 numbers) ≡ number_fields numbers =
    sym (flat_map-append (λ n. 9 ∷ decimal n) (take 4 numbers) (drop 4 numbers)) ∙ ap number_fields (take-append-drop 4 numbers) in
    let all = Leaves-all g.W.Write.contents _ (number_fields numbers) _ parts in
    let less = Leaves-less g.W.Write.contents _ _ _ _ (number_fields (take 4 numbers)) (number_fields (drop 4 numbers)) _ all refl c.in_ok-put_numbers.ensures.ok in
    Puts-last g.W.Write.contents _ _ _ _ (number_fields (drop 4 numbers)) _ c.put_numbers-2.result less (ap number_fields (take_rest numbers 4)) c.put_numbers-2.ensures.ok

pub returns-clause-err : goal.returns-clause-err
returns-clause-err g c =
    let numbers = c.args.numbers.now in
    let parts : number_fields (take 4 numbers) ++ number_fields (drop 4 numbers) ≡ number_fields numbers =
    sym (flat_map-append (λ n. 9 ∷ decimal n) (take 4 numbers) (drop 4 numbers)) ∙ ap number_fields (take-append-drop 4 numbers) in
    let all = Leaves-all g.W.Write.contents _ (number_fields numbers) _ parts in
    let less = Leaves-less g.W.Write.contents _ _ _ _ (number_fields (take 4 numbers)) (number_fields (drop 4 numbers)) _ all refl c.in_ok-put_numbers.ensures.ok in
    Breaks-last g.W.Write.contents _ _ _ _ (number_fields (drop 4 numbers)) _ c.put_numbers-2.result less (ap number_fields (take_rest numbers 4)) c.put_numbers-2.ensures.err
