-- A reply as the answer that it gives.
use Rattle.model.specs.declared.reply.Reply.{Reply}
use Rattle.model.specs.declared.reply.Reply.TheVariants as reply
use Rattle.model.specs.History.{Answer, moving, arrived, said, heard, at, between, armed, refused}

abbrev pub answer_of : Reply → Answer
answer_of (reply.Moving c) = moving c
answer_of (reply.Arrived c) = arrived c
answer_of (reply.Said m bytes) = said m bytes.items
answer_of (reply.Heard j n) = heard j n
answer_of (reply.At c k) = at c k
answer_of (reply.Between u v k) = between u v k
answer_of reply.Armed = armed
answer_of (reply.Refused why) = refused why
