-- Each turn puts the first of the lines that are left.
use Rattle.std.proofs.Common.{◌+◌, ◌≤◌, [], ◌∷◌, ◌++◌, length, drop, map, refl, ap, subst, arith}
use Rattle.std.proofs.lemmas.List.{at_drop_more, drop_all}
use Rattle.std.proofs.lemmas.Result.{err_from_is_err_and}
use Rattle.text_io.specs.Text.{line_feed}
use Rattle.model.specs.Replies.{answer_of}
use Rattle.text_io.specs.Sink.{Leaves}
use Rattle.text_io.specs.Laws.Putting.{Leaves-less, Leaves-broken, Puts-last, Breaks-last}
use Rattle.event_text.specs.ReplyText.{reply_line, replies_text}
use Rattle.event_text.proofs.reply_writer.put_replies.Goals as goal

pub returns-in_err-put_reply-clause-err : goal.returns-in_err-put_reply-clause-err
returns-in_err-put_reply-clause-err g c =
    let p = err_from_is_err_and c.from_residual.result c.from_residual.ensures.1 in
    let reply = c.reply-item.result in
    let left = replies_text (map answer_of (drop (c.loop-reply.reply-index + 1) c.args.replies.now)) in
    let next = subst (Leaves g.W.Write.contents _ _ _)
    (at_drop_more (λ rs. replies_text (map answer_of rs)) c.args.replies.now c.loop-reply.reply-index reply c.loop-reply-test.true) c.loop-reply.invariant in
    rw p.1 (Leaves-broken g.W.Write.contents _ _ _ _ _ left _ next (ap (λ k. reply_line (answer_of k) ++ line_feed ∷ []) c.reply-item.is) c.in_err-put_reply.ensures.err)

pub loop-reply-preserved : goal.loop-reply-preserved
loop-reply-preserved g c =
    let reply = c.reply-item.result in
    let left = replies_text (map answer_of (drop (c.loop-reply.reply-index + 1) c.args.replies.now)) in
    let next = subst (Leaves g.W.Write.contents _ _ _)
    (at_drop_more (λ rs. replies_text (map answer_of rs)) c.args.replies.now c.loop-reply.reply-index reply c.loop-reply-test.true) c.loop-reply.invariant in
    Leaves-less g.W.Write.contents _ _ _ _ _ left _ next (ap (λ k. reply_line (answer_of k) ++ line_feed ∷ []) c.reply-item.is) c.in_ok-put_reply.ensures.ok

pub returns-clause-ok : goal.returns-clause-ok
returns-clause-ok g c =
    let past : length c.args.replies.now ≤ c.loop-reply.reply-index = omega arith in
    let none = ap (λ rs. replies_text (map answer_of rs)) (drop_all c.loop-reply.reply-index c.args.replies.now past) in
    Puts-last g.W.Write.contents _ _ _ _ [] _ c.hand_on.result (subst (Leaves g.W.Write.contents _ _ _) none c.loop-reply.invariant) refl c.hand_on.ensures.ok

pub returns-clause-err : goal.returns-clause-err
returns-clause-err g c =
    let past : length c.args.replies.now ≤ c.loop-reply.reply-index = omega arith in
    let none = ap (λ rs. replies_text (map answer_of rs)) (drop_all c.loop-reply.reply-index c.args.replies.now past) in
    Breaks-last g.W.Write.contents _ _ _ _ [] _ c.hand_on.result (subst (Leaves g.W.Write.contents _ _ _) none c.loop-reply.invariant) refl c.hand_on.ensures.err
