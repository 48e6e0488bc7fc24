-- Each line as it was taken, and what followed the last one.
use Rattle.std.proofs.Common.{◌≡◌, ◌++◌, ◌∷◌, [], take, ◌∙◌, arith, length-append, length-take}
use Rattle.std.proofs.lemmas.Bool.Decides.{not_from_Decides}
use Rattle.std.proofs.lemmas.Result.{err_from_is_err_and}
use Rattle.text_io.specs.Reading.{by_line_feed, line_number}
use Rattle.plan_text.specs.Code.PlanLines.{due_seen}
use Rattle.plan_text.proofs.TextRead.{HasRead-push}
use Rattle.plan_text.proofs.LinesRead.{refused_line, unfinished, long_line, failed, ended_plan, failed_after, text_after}
use Rattle.plan_text.proofs.plan_reader.read_lines.Goals as goal

pub slice_bounds-room-end : goal.slice_bounds-room-end
slice_bounds-room-end g c =
    let inv = c.lines.invariant in
    let t = c.in-WithLineFeed.ensures.taken _ inv.0 inv.1 in
    t.in_room

pub slice_bounds-add_line-end : goal.slice_bounds-add_line-end
slice_bounds-add_line-end g c =
    let inv = c.lines.invariant in
    let t = c.in-WithLineFeed.ensures.taken _ inv.0 inv.1 in
    omega (arith, t.in_room, length-take c.in-WithLineFeed.count c.take_line.new.room)

pub returns-in_err-add_line-in-WithLineFeed-clause-reads : goal.returns-in_err-add_line-in-WithLineFeed-clause-reads
returns-in_err-add_line-in-WithLineFeed-clause-reads g c =
    let p = err_from_is_err_and c.from_residual.result c.from_residual.ensures.1 in
    let inv = c.lines.invariant in
    rw (p.1, p.2) (refused_line g.R.Read.remaining _ _ inv.0 c.take_line.new.room c.in-WithLineFeed.count
    (due_seen c.lines.progress.due c.lines.progress.plan) c.lines.progress.plan c.lines.number c.in_err-add_line-in-WithLineFeed.field-0.0 inv.3
    (c.in-WithLineFeed.ensures.taken _ inv.0 inv.1) inv.2 (c.in_err-add_line-in-WithLineFeed.ensures inv.0 inv.2))

pub lines-preserved : goal.lines-preserved
lines-preserved g c =
    let inv = c.lines.invariant in
    let t = c.in-WithLineFeed.ensures.taken _ inv.0 inv.1 in
    let line = take c.in-WithLineFeed.count c.take_line.new.room in
    let read = HasRead-push (due_seen c.lines.progress.due c.lines.progress.plan) c.lines.progress.plan inv.0 line
    (due_seen c.add_line.new.self.due c.add_line.new.self.plan) c.add_line.new.self.plan inv.2 (c.in_ok-add_line-in-WithLineFeed.ensures inv.0 inv.2) in
    let number : c.saturating_add-number.result ≡ line_number (inv.0 ++ line ∷ []) =
    omega (arith, c.saturating_add-number.ensures, inv.3, length-append inv.0 (line ∷ [])) in
    (inv.0 ++ line ∷ [], t.taken, read, number, c.in-WithLineFeed.ensures.same_reader ∙ inv.4, omega (arith, c.take_line.auto.room, inv.5))

pub returns-in-AtEnd-clause-reads : goal.returns-in-AtEnd-clause-reads
returns-in-AtEnd-clause-reads g c =
    let inv = c.lines.invariant in
    unfinished g.R.Read.remaining _ _ inv.0 c.take_line.new.room c.in-AtEnd.field-0 (due_seen c.lines.progress.due c.lines.progress.plan)
    c.lines.progress.plan c.lines.number inv.3 (omega (arith, c.take_line.auto.room, inv.5)) (c.in-AtEnd.ensures.taken _ inv.0 inv.1) inv.2
    (c.is_line_due.ensures.0 c.lines-test.true)

pub returns-in-TooLong-clause-reads : goal.returns-in-TooLong-clause-reads
returns-in-TooLong-clause-reads g c =
    let inv = c.lines.invariant in
    long_line g.R.Read.remaining _ _ inv.0 c.take_line.new.room (due_seen c.lines.progress.due c.lines.progress.plan)
    c.lines.progress.plan c.lines.number inv.3 (omega (arith, c.take_line.auto.room, inv.5)) (c.in-TooLong.ensures.taken _ inv.0 inv.1) inv.2
    (c.is_line_due.ensures.0 c.lines-test.true)

pub returns-in-Failed-clause-reads : goal.returns-in-Failed-clause-reads
returns-in-Failed-clause-reads g c =
    let inv = c.lines.invariant in
    failed g.R.Read.remaining _ _ (c.places.ensures.stands by_line_feed) (c.places.ensures.last by_line_feed) c.places.ensures.written_end inv.0
    c.take_line.new.room (due_seen c.lines.progress.due c.lines.progress.plan) c.lines.progress.plan (omega (arith, c.take_line.auto.room, inv.5))
    (c.in-Failed.ensures.taken _ inv.0 inv.1) inv.2 (c.is_line_due.ensures.0 c.lines-test.true)

pub returns-in-AtEnd-take_line-clause-reads : goal.returns-in-AtEnd-take_line-clause-reads
returns-in-AtEnd-take_line-clause-reads g c =
    let inv = c.lines.invariant in
    ended_plan g.R.Read.remaining _ _ inv.0 c.take_line-2.new.room c.in-AtEnd-take_line.field-0 (due_seen c.lines.progress.due c.lines.progress.plan)
    c.lines.progress.plan (omega (arith, c.take_line-2.auto.room)) (c.in-AtEnd-take_line.ensures.taken _ inv.0 inv.1) inv.2
    (not_from_Decides c.is_line_due.result c.is_line_due.ensures c.lines-test.false)

pub returns-in-Failed-take_line-clause-reads : goal.returns-in-Failed-take_line-clause-reads
returns-in-Failed-take_line-clause-reads g c =
    let inv = c.lines.invariant in
    failed_after g.R.Read.remaining _ _ (c.places.ensures.stands by_line_feed) (c.places.ensures.last by_line_feed) c.places.ensures.written_end inv.0
    c.take_line-2.new.room (due_seen c.lines.progress.due c.lines.progress.plan) c.lines.progress.plan (omega (arith, c.take_line-2.auto.room))
    (c.in-Failed-take_line.ensures.taken _ inv.0 inv.1) inv.2 (not_from_Decides c.is_line_due.result c.is_line_due.ensures c.lines-test.false)

pub returns-in-WithLineFeed-take_line-clause-reads : goal.returns-in-WithLineFeed-take_line-clause-reads
returns-in-WithLineFeed-take_line-clause-reads g c =
    let inv = c.lines.invariant in
    text_after g.R.Read.remaining _ _ inv.0 c.take_line-2.new.room c.take_line-2.result (due_seen c.lines.progress.due c.lines.progress.plan)
    c.lines.progress.plan c.lines.number c.in-WithLineFeed-take_line.is inv.3 (omega (arith, c.take_line-2.auto.room))
    (c.take_line-2.ensures.taken _ inv.0 inv.1) inv.2 (not_from_Decides c.is_line_due.result c.is_line_due.ensures c.lines-test.false)
