-- The lines of the replies that follow are left.
use Rattle.std.proofs.Common.{drop, map}
use Rattle.model.specs.Replies.{answer_of}
use Rattle.text_io.specs.Sink.{Leaves}
use Rattle.event_text.specs.ReplyText.{replies_text}
use Rattle.event_text.proofs.reply_writer.put_replies.Given as goal

abbrev pub invariant-loop-reply : goal.invariant-loop-reply
invariant-loop-reply g l =
    Leaves g.W.Write.contents l.fn.sink l.sink (replies_text (map answer_of l.replies)) (replies_text (map answer_of (drop l.reply-index l.replies)))
