-- The line, and then its LF.
use Rattle.std.proofs.Common.{[], ◌∷◌, ◌++◌, refl}
use Rattle.std.proofs.lemmas.Result.{err_from_is_err_and}
use Rattle.text_io.specs.Text.{line_feed}
use Rattle.model.specs.Replies.{answer_of}
use Rattle.text_io.specs.Laws.Putting.{Leaves-all, Leaves-less, Leaves-broken, Puts-last, Breaks-last}
use Rattle.event_text.specs.ReplyText.{reply_line}
use Rattle.event_text.proofs.reply_writer.put_reply.Goals as goal

pub returns-in_err-put_line-clause-err : goal.returns-in_err-put_line-clause-err
returns-in_err-put_line-clause-err g c =
    let p = err_from_is_err_and c.from_residual.result c.from_residual.ensures.1 in
    let line = reply_line (answer_of c.args.reply.now) in
    let all = Leaves-all g.W.Write.contents _ (line ++ line_feed ∷ []) (line ++ line_feed ∷ []) refl in
    rw p.1 (Leaves-broken g.W.Write.contents _ _ _ _ line (line_feed ∷ []) _ all refl c.in_err-put_line.ensures.err)

pub returns-clause-ok : goal.returns-clause-ok
returns-clause-ok g c =
    let line = reply_line (answer_of c.args.reply.now) in
    let all = Leaves-all g.W.Write.contents _ (line ++ line_feed ∷ []) (line ++ line_feed ∷ []) refl in
    let less = Leaves-less g.W.Write.contents _ _ _ _ line (line_feed ∷ []) _ all refl c.in_ok-put_line.ensures.ok in
    Puts-last g.W.Write.contents _ _ _ _ (line_feed ∷ []) _ c.put_byte.result less refl c.put_byte.ensures.ok

pub returns-clause-err : goal.returns-clause-err
returns-clause-err g c =
    let line = reply_line (answer_of c.args.reply.now) in
    let all = Leaves-all g.W.Write.contents _ (line ++ line_feed ∷ []) (line ++ line_feed ∷ []) refl in
    let less = Leaves-less g.W.Write.contents _ _ _ _ line (line_feed ∷ []) _ all refl c.in_ok-put_line.ensures.ok in
    Breaks-last g.W.Write.contents _ _ _ _ (line_feed ∷ []) _ c.put_byte.result less refl c.put_byte.ensures.err
