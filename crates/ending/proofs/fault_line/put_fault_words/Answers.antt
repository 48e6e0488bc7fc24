-- Part after part.
use Rattle.std.proofs.Common.{◌∙◌, ap, refl}
use Rattle.std.proofs.lemmas.Result.{err_from_is_err_and}
use Rattle.text_io.specs.FaultName.{fault_name}
use Rattle.text_io.specs.Text.{spaced_numbers}
use Rattle.text_io.specs.Laws.Putting.{Leaves-broken, Puts-last, Breaks-last}
use Rattle.ending.proofs.LineParts.{numbers_of, from_numbers, from_name, first-left, name-left, numbers-left, end-left}
use Rattle.ending.proofs.fault_line.put_fault_words.Goals as goal

pub returns-in_err-put-clause-err : goal.returns-in_err-put-clause-err
returns-in_err-put-clause-err g c =
    let p = err_from_is_err_and c.from_residual.result c.from_residual.ensures.1 in
    let words = c.args.words in
    rw p.1 (Leaves-broken g.W.Write.contents _ _ _ _ c.args.head.now (from_name words c.args.end.now) _ (first-left g.W.Write.contents c.args.head.now words c.args.end.now _) refl
    c.in_err-put.ensures.err)

pub returns-in_err-put-2-clause-err : goal.returns-in_err-put-2-clause-err
returns-in_err-put-2-clause-err g c =
    let p = err_from_is_err_and c.from_residual-in_err-put-2.result c.from_residual-in_err-put-2.ensures.1 in
    let words = c.args.words in
    let name = name-left g.W.Write.contents c.args.head.now words c.args.end.now _ _ c.in_ok-put.ensures.ok in
    rw p.1 (Leaves-broken g.W.Write.contents _ _ _ _ (fault_name words.name) (from_numbers words c.args.end.now) _ name (c.as_bytes.ensures.value ∙ c.name.ensures) c.in_err-put-2.ensures.err)

pub returns-in_err-put_numbers-clause-err : goal.returns-in_err-put_numbers-clause-err
returns-in_err-put_numbers-clause-err g c =
    let p = err_from_is_err_and c.from_residual-in_err-put_numbers.result c.from_residual-in_err-put_numbers.ensures.1 in
    let words = c.args.words in
    let name = name-left g.W.Write.contents c.args.head.now words c.args.end.now _ _ c.in_ok-put.ensures.ok in
    let numbers = numbers-left g.W.Write.contents c.args.head.now words c.args.end.now _ _ _ _ name (c.as_bytes.ensures.value ∙ c.name.ensures) c.in_ok-put-2.ensures.ok in
    rw p.1 (Leaves-broken g.W.Write.contents _ _ _ _ (spaced_numbers (numbers_of words)) c.args.end.now _ numbers (ap spaced_numbers c.numbers.ensures) c.in_err-put_numbers.ensures.err)

pub returns-clause-ok : goal.returns-clause-ok
returns-clause-ok g c =
    let words = c.args.words in
    let head = c.args.head.now in
    let name = name-left g.W.Write.contents head words c.args.end.now _ _ c.in_ok-put.ensures.ok in
    let numbers = numbers-left g.W.Write.contents head words c.args.end.now _ _ _ _ name (c.as_bytes.ensures.value ∙ c.name.ensures) c.in_ok-put-2.ensures.ok in
    let end = end-left g.W.Write.contents head words c.args.end.now _ _ _ _ numbers (ap spaced_numbers c.numbers.ensures) c.in_ok-put_numbers.ensures.ok in
    Puts-last g.W.Write.contents _ _ _ _ c.args.end.now _ c.put-3.result end refl c.put-3.ensures.ok

pub returns-clause-err : goal.returns-clause-err
returns-clause-err g c =
    let words = c.args.words in
    let head = c.args.head.now in
    let name = name-left g.W.Write.contents head words c.args.end.now _ _ c.in_ok-put.ensures.ok in
    let numbers = numbers-left g.W.Write.contents head words c.args.end.now _ _ _ _ name (c.as_bytes.ensures.value ∙ c.name.ensures) c.in_ok-put-2.ensures.ok in
    let end = end-left g.W.Write.contents head words c.args.end.now _ _ _ _ numbers (ap spaced_numbers c.numbers.ensures) c.in_ok-put_numbers.ensures.ok in
    Breaks-last g.W.Write.contents _ _ _ _ c.args.end.now _ c.put-3.result end refl c.put-3.ensures.err
