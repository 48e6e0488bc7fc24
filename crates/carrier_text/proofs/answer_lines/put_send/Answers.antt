-- A word, the digits of the message, and an LF.
use Rattle.std.proofs.Common.{[], ◌∷◌, ◌++◌, refl, codes}
use Rattle.std.proofs.lemmas.Result.{err_from_is_err_and}
use Rattle.hex.specs.Hex.{encode_lower}
use Rattle.text_io.specs.Text.{line_feed}
use Rattle.text_io.specs.Laws.Putting.{Puts-trans, Puts-then, Breaks-then, Breaks-text, Breaks-text-after}
use Rattle.carrier_text.specs.AnswerLines.{send_line}
use Rattle.carrier_text.proofs.answer_lines.put_send.Goals as goal

pub returns-in_err-put-clause-err : goal.returns-in_err-put-clause-err
returns-in_err-put-clause-err g c =
    let p = err_from_is_err_and c.from_residual.result c.from_residual.ensures.1 in
    rw p.1 (Breaks-text g.W.Write.contents _ _ (codes "send ") (encode_lower c.args.bytes.now ++ line_feed ∷ []) _ refl c.in_err-put.ensures.err)

pub returns-in_err-put_hexadecimal-clause-err : goal.returns-in_err-put_hexadecimal-clause-err
returns-in_err-put_hexadecimal-clause-err g c =
    let p = err_from_is_err_and c.from_residual-in_err-put_hexadecimal.result c.from_residual-in_err-put_hexadecimal.ensures.1 in
    rw p.1 (Breaks-text-after g.W.Write.contents _ _ _ (codes "send ") (encode_lower c.args.bytes.now) (line_feed ∷ []) _ refl c.in_ok-put.ensures.ok c.in_err-put_hexadecimal.ensures.err)

pub returns-clause-ok : goal.returns-clause-ok
returns-clause-ok g c =
    let line = Puts-trans g.W.Write.contents _ _ _ (codes "send ") (encode_lower c.args.bytes.now) c.in_ok-put.ensures.ok c.in_ok-put_hexadecimal.ensures.ok in
    Puts-then g.W.Write.contents _ _ _ (send_line c.args.bytes.now) (line_feed ∷ []) _ c.put-2.result refl line c.put-2.ensures.ok

pub returns-clause-err : goal.returns-clause-err
returns-clause-err g c =
    let line = Puts-trans g.W.Write.contents _ _ _ (codes "send ") (encode_lower c.args.bytes.now) c.in_ok-put.ensures.ok c.in_ok-put_hexadecimal.ensures.ok in
    Breaks-then g.W.Write.contents _ _ _ (send_line c.args.bytes.now) (line_feed ∷ []) _ c.put-2.result refl line c.put-2.ensures.err
