-- What is read is all that the bytes tell.
use Rattle.std.proofs.Common.{refl, sym}
use Rattle.agent.specs.declared.message.Message.TheVariants.{One, Two}
use Rattle.robot.proofs.StaleLemmas.{word_of}
use Rattle.robot.proofs.stale.stale_word.Goals as goal

pub returns-in-Ok-One : goal.returns-in-Ok-One
returns-in-Ok-One c tt is =
    let read = c.in-Ok-One.ensures in
    word_of tt c.args.part.now.agent c.args.done c.args.bytes.now c.in-Ok-One.field-0 (One c.in-Ok-One.finished) read.each_one read.each_two read.reads read.in_range c.in-Ok-One.field-0-is
    c.in-Ok-One.finished.from c.number_said.result c.more_than.result refl (c.number_said.ensures tt is) c.more_than.ensures

pub returns-in-Ok-Two : goal.returns-in-Ok-Two
returns-in-Ok-Two c tt is =
    let read = c.in-Ok-Two.ensures in
    word_of tt c.args.part.now.agent c.args.done c.args.bytes.now c.in-Ok-Two.field-0 (Two c.in-Ok-Two.told) read.each_one read.each_two read.reads read.in_range c.in-Ok-Two.field-0-is
    c.from.result c.number_told.result c.more_than-in-Ok-Two.result (sym c.from.ensures) (c.number_told.ensures tt is) c.more_than-in-Ok-Two.ensures
