-- Each part and each byte is one more of the line; then comes what ends it.
use Rattle.std.proofs.Common.{◌+◌, ◌-◌, ◌<◌, length, arith}
use borrow.Rule.Slice.PartMut.{put_mid}
use Rattle.text_io.specs.Text.{line_feed}
use Rattle.text_io.specs.Laws.Taking.{Takes-byte}
use Rattle.text_io.proofs.LineTaking.{HasPart-none, HasPart-more, HasPart-byte, line_ended, input_ended, line_too_long, reader_failed}
use Rattle.text_io.proofs.source.Source.take_line.Goals as goal

pub loop-b-init : goal.loop-b-init
loop-b-init g c = HasPart-none g.R.Read.remaining _ _

pub returns-in-Ok-eq10-clause-taken : goal.returns-in-Ok-eq10-clause-taken
returns-in-Ok-eq10-clause-taken g c = λ first before h.
    let part = HasPart-more g.R.Read.remaining _ _ _ c.loop-b.room c.take_part-count.new.room c.loop-b.count _ c.loop-b.invariant
    c.take_part-count.auto.room c.take_part-count.ensures.count c.take_part-count.ensures.copied c.take_part-count.ensures.takes in
    let feed = Takes-byte g.R.Read.remaining _ _ _ line_feed c.in-Ok-eq10.field-0-test c.in-Ok-eq10.ensures.0 in
    line_ended g.R.Read.remaining first _ _ _ before _ _ part feed c.in-Ok-eq10.ensures.1 h

pub returns-then-count-room-clause-taken : goal.returns-then-count-room-clause-taken
returns-then-count-room-clause-taken g c = λ first before h.
    let part = HasPart-more g.R.Read.remaining _ _ _ c.loop-b.room c.take_part-count.new.room c.loop-b.count _ c.loop-b.invariant
    c.take_part-count.auto.room c.take_part-count.ensures.count c.take_part-count.ensures.copied c.take_part-count.ensures.takes in
    line_too_long g.R.Read.remaining first _ _ _ before _ _ c.in-Ok.b part c.if-count-room.true c.in-Ok.b-test.1 c.in-Ok.ensures.0 c.in-Ok.ensures.1 h

pub loop-b-preserved : goal.loop-b-preserved
loop-b-preserved g c =
    let part = HasPart-more g.R.Read.remaining _ _ _ c.loop-b.room c.take_part-count.new.room c.loop-b.count _ c.loop-b.invariant
    c.take_part-count.auto.room c.take_part-count.ensures.count c.take_part-count.ensures.copied c.take_part-count.ensures.takes in
    let inside = part.in_room in
    let other = c.if-count-room.false in
    let some : c.loop-b.count + c.take_part-count.result
    < length (put_mid c.loop-b.count (length c.loop-b.room - c.loop-b.count) c.loop-b.room c.take_part-count.new.room) = omega arith in
    HasPart-byte g.R.Read.remaining _ _ _ _ _ c.in-Ok.b part some c.in-Ok.b-test.1 c.in-Ok.ensures.0

pub returns-in-Err-End-clause-taken : goal.returns-in-Err-End-clause-taken
returns-in-Err-End-clause-taken g c = λ first before h.
    let part = HasPart-more g.R.Read.remaining _ _ _ c.loop-b.room c.take_part-count.new.room c.loop-b.count _ c.loop-b.invariant
    c.take_part-count.auto.room c.take_part-count.ensures.count c.take_part-count.ensures.copied c.take_part-count.ensures.takes in
    input_ended g.R.Read.remaining first _ _ _ before _ _ _ part c.in-Err-End.field-0-is c.in-Err-End.ensures h

pub returns-in-Err-Failure-clause-taken : goal.returns-in-Err-Failure-clause-taken
returns-in-Err-Failure-clause-taken g c = λ first before h.
    let part = HasPart-more g.R.Read.remaining _ _ _ c.loop-b.room c.take_part-count.new.room c.loop-b.count _ c.loop-b.invariant
    c.take_part-count.auto.room c.take_part-count.ensures.count c.take_part-count.ensures.copied c.take_part-count.ensures.takes in
    reader_failed g.R.Read.remaining first _ _ _ before _ _ _ part c.in-Err-Failure.field-0-is c.in-Err-Failure.ensures h
