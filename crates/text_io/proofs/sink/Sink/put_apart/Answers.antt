-- One call after the other.
use Rattle.std.proofs.Common.{[], ◌∷◌}
use Rattle.std.proofs.lemmas.Result.{err_from_is_err_and, on_ok_weaker, on_err_weaker}
use Rattle.text_io.specs.Laws.Putting.{Puts-trans, Breaks-after, Breaks-more}
use Rattle.text_io.proofs.sink.Sink.put_apart.Goals as goal

pub returns-in_err-put_byte-clause-err : goal.returns-in_err-put_byte-clause-err
returns-in_err-put_byte-clause-err g c =
    let p = err_from_is_err_and c.from_residual.result c.from_residual.ensures.1 in
    rw p.1 (Breaks-more g.W.Write.contents _ _ (c.args.separator ∷ []) c.args.bytes.now c.in_err-put_byte.ensures.err)

pub returns-clause-ok : goal.returns-clause-ok
returns-clause-ok g c =
    on_ok_weaker c.put.result (Puts-trans g.W.Write.contents _ c.put_byte.new.self _ (c.args.separator ∷ []) c.args.bytes.now c.in_ok-put_byte.ensures.ok) c.put.ensures.ok

pub returns-clause-err : goal.returns-clause-err
returns-clause-err g c =
    on_err_weaker c.put.result (Breaks-after g.W.Write.contents _ c.put_byte.new.self _ (c.args.separator ∷ []) c.args.bytes.now c.in_ok-put_byte.ensures.ok) c.put.ensures.err
