-- Bytes that have no room are sent behind those held back.
use Rattle.std.proofs.Common.{[], refl}
use Rattle.std.proofs.lemmas.Result.{err_from_is_err_and}
use Rattle.text_io.specs.Laws.Putting.{Breaks-more}
use Rattle.text_io.proofs.SinkLemmas.{Puts-send, Breaks-send}
use Rattle.text_io.proofs.sink.Sink.put_past.Goals as goal

pub returns-in_err-hand_on-clause-err : goal.returns-in_err-hand_on-clause-err
returns-in_err-hand_on-clause-err g c =
    let p = err_from_is_err_and c.from_residual.result c.from_residual.ensures.1 in
    rw p.1 (Breaks-more g.W.Write.contents _ _ [] c.args.bytes.now c.in_err-hand_on.ensures.err)

pub returns-then-room-bytes-clause-ok : goal.returns-then-room-bytes-clause-ok
returns-then-room-bytes-clause-ok g c = Puts-send g.W.Write.contents _ c.hand_on.new.self _ c.args.bytes.now c.send.result
    c.in_ok-hand_on.ensures.ok c.in_ok-hand_on.ensures.none_held refl refl c.send.ensures

pub returns-then-room-bytes-clause-err : goal.returns-then-room-bytes-clause-err
returns-then-room-bytes-clause-err g c = Breaks-send g.W.Write.contents _ c.hand_on.new.self _ c.args.bytes.now c.send.result
    c.in_ok-hand_on.ensures.ok c.in_ok-hand_on.ensures.none_held refl c.send.ensures
