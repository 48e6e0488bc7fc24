-- What was taken of the line, and how it came to its end.
use Rattle.std.proofs.Common.{◌<◌, length, take, refl, arith, length-take-le}
use Rattle.robot.proofs.InputLemmas.{has_rest, is_over, over_at_line_feed}
use Rattle.robot.proofs.input_lines.next_line.Goals as goal

pub returns-in-WithLineFeed-clause-came : goal.returns-in-WithLineFeed-clause-came
returns-in-WithLineFeed-clause-came g c = λ first before h.
    let taken = c.in-WithLineFeed.ensures.taken first before h in
    (take c.in-WithLineFeed.count c.take_line.new.room, (taken.in_room, refl), taken.taken)

pub returns-in-AtEnd-eq0-clause-came : goal.returns-in-AtEnd-eq0-clause-came
returns-in-AtEnd-eq0-clause-came g c = λ first before h.
    over_at_line_feed g.R.Read.remaining first _ before c.take_line.new.room c.in-AtEnd-eq0.field-0 c.in-AtEnd-eq0.field-0-test
    (c.in-AtEnd-eq0.ensures.taken first before h)

pub returns-in-AtEnd-clause-came : goal.returns-in-AtEnd-clause-came
returns-in-AtEnd-clause-came g c = λ first before h.
    let taken = c.in-AtEnd.ensures.taken first before h in
    let line = take c.in-AtEnd.count c.take_line.new.room in
    let some : 0 < length line = omega (arith, length-take-le c.in-AtEnd.count c.take_line.new.room taken.in_room, c.in-AtEnd.count-test) in
    (line, (taken.in_room, refl), some, is_over g.R.Read.remaining first _ before line taken.come taken.spent taken.failures)

pub returns-in-Failed-clause-came : goal.returns-in-Failed-clause-came
returns-in-Failed-clause-came g c = λ first before h.
    let failed = c.in-Failed.ensures.taken first before h in
    (failed.line, has_rest g.R.Read.remaining first _ before failed.line failed.come, failed.failures)
