-- The number, a space, and then the digits of the bytes.
use Rattle.std.proofs.Common.{[], ◌∷◌, ◌++◌, refl, codes}
use Rattle.std.proofs.lemmas.Result.{err_from_is_err_and}
use Rattle.hex.specs.Hex.{encode_lower}
use Rattle.text_io.specs.Text.{space, spaced_numbers}
use Rattle.text_io.specs.Laws.Putting.{Leaves-all, Leaves-less, Leaves-broken, Puts-last, Breaks-last}
use Rattle.event_text.proofs.reply_writer.put_said.Goals as goal

pub returns-in_err-put_numbers-clause-err : goal.returns-in_err-put_numbers-clause-err
returns-in_err-put_numbers-clause-err g c =
    let p = err_from_is_err_and c.from_residual.result c.from_residual.ensures.1 in
    let front = codes "said" ++ spaced_numbers (c.args.number ∷ []) in
    let rest = space ∷ encode_lower c.args.bytes.now in
    rw p.1 (Leaves-broken g.W.Write.contents _ _ _ _ front rest _ (Leaves-all g.W.Write.contents _ (front ++ rest) (front ++ rest) refl) refl
    c.in_err-put_numbers.ensures.err)

pub returns-in_err-put_byte-clause-err : goal.returns-in_err-put_byte-clause-err
returns-in_err-put_byte-clause-err g c =
    let p = err_from_is_err_and c.from_residual-in_err-put_byte.result c.from_residual-in_err-put_byte.ensures.1 in
    let front = codes "said" ++ spaced_numbers (c.args.number ∷ []) in
    let digits = encode_lower c.args.bytes.now in
    let all = Leaves-all g.W.Write.contents _ (front ++ space ∷ digits) (front ++ space ∷ digits) refl in
    let less = Leaves-less g.W.Write.contents _ _ _ _ front (space ∷ digits) _ all refl c.in_ok-put_numbers.ensures.ok in
    rw p.1 (Leaves-broken g.W.Write.contents _ _ _ _ (space ∷ []) digits _ less refl c.in_err-put_byte.ensures.err)

pub returns-clause-ok : goal.returns-clause-ok
returns-clause-ok g c =
    let front = codes "said" ++ spaced_numbers (c.args.number ∷ []) in
    let digits = encode_lower c.args.bytes.now in
    let all = Leaves-all g.W.Write.contents _ (front ++ space ∷ digits) (front ++ space ∷ digits) refl in
    let less = Leaves-less g.W.Write.contents _ _ _ _ front (space ∷ digits) _ all refl c.in_ok-put_numbers.ensures.ok in
    let last = Leaves-less g.W.Write.contents _ _ _ _ (space ∷ []) digits _ less refl c.in_ok-put_byte.ensures.ok in
    Puts-last g.W.Write.contents _ _ _ _ digits _ c.put_hexadecimal.result last refl c.put_hexadecimal.ensures.ok

pub returns-clause-err : goal.returns-clause-err
returns-clause-err g c =
    let front = codes "said" ++ spaced_numbers (c.args.number ∷ []) in
    let digits = encode_lower c.args.bytes.now in
    let all = Leaves-all g.W.Write.contents _ (front ++ space ∷ digits) (front ++ space ∷ digits) refl in
    let less = Leaves-less g.W.Write.contents _ _ _ _ front (space ∷ digits) _ all refl c.in_ok-put_numbers.ensures.ok in
    let last = Leaves-less g.W.Write.contents _ _ _ _ (space ∷ []) digits _ less refl c.in_ok-put_byte.ensures.ok in
    Breaks-last g.W.Write.contents _ _ _ _ digits _ c.put_hexadecimal.result last refl c.put_hexadecimal.ensures.err
