-- Each line as it was taken, and what the whole text is at its end.
use Rattle.std.proofs.Common.{◌≡◌, ◌++◌, ◌∷◌, [], take, ◌∙◌, subst, arith, length-append, length-take}
use Rattle.std.proofs.lemmas.Result.{err_from_is_err_and}
use Rattle.text_io.specs.Reading.{by_input, line_number}
use Rattle.scenario.specs.Code.Parsing.{due_after, RefusesLine}
use Rattle.text_io.specs.Source.{source_reader}
use Rattle.scenario.proofs.AtHandLemmas.{come_at_hand}
use Rattle.scenario.proofs.LinesRead.{one_at_hand, none_at_hand, reads_push, last_line, end_line, refused_line, refused_end, ended, ended_within, long_line, failed}
use Rattle.scenario.proofs.scen_reader.read_lines.Goals as goal

pub returns-in_err-add_line_at_hand-clause-reads : goal.returns-in_err-add_line_at_hand-clause-reads
returns-in_err-add_line_at_hand-clause-reads g c =
    let p = err_from_is_err_and c.from_residual.result c.from_residual.ensures.1 in
    let inv = c.lines.invariant in
    let at = c.in_err-add_line_at_hand.ensures in
    let come = come_at_hand g.R.Read.remaining (source_reader c.args.source.now) c.lines.source inv.0 at.1.0 inv.1 at.1.1 in
    rw (p.1, p.2, at.0) (refused_line g.R.Read.remaining _ _ inv.0 at.1.0 c.lines.progress.has_version c.lines.progress.rows.items c.in_err-add_line_at_hand.field-0.0
    come inv.1.failures (inv.2, inv.3) (subst (λ n. RefusesLine (due_after c.lines.progress.has_version) n at.1.0 c.in_err-add_line_at_hand.field-0.0) inv.4 at.1.2))

pub lines-preserved-then-branch : goal.lines-preserved-then-branch
lines-preserved-then-branch g c =
    one_at_hand g.R.Read.remaining c.args.source.now c.lines.source c.add_line_at_hand.new.source c.lines.progress c.add_line_at_hand.new.self c.lines.number _ _ c.in_ok-add_line_at_hand.ensures
    c.if-branch.true c.saturating_add-number.ensures c.lines.invariant

pub slice_bounds-room-end : goal.slice_bounds-room-end
slice_bounds-room-end g c =
    let inv = none_at_hand g.R.Read.remaining c.args.source.now c.lines.source c.add_line_at_hand.new.source c.lines.progress c.add_line_at_hand.new.self c.lines.number _
    c.in_ok-add_line_at_hand.ensures c.if-branch.false c.lines.invariant in
    let t = c.in-WithLineFeed.ensures.taken _ inv.0 inv.1 in
    t.in_room

pub slice_bounds-add_line-end : goal.slice_bounds-add_line-end
slice_bounds-add_line-end g c =
    let inv = none_at_hand g.R.Read.remaining c.args.source.now c.lines.source c.add_line_at_hand.new.source c.lines.progress c.add_line_at_hand.new.self c.lines.number _
    c.in_ok-add_line_at_hand.ensures c.if-branch.false c.lines.invariant in
    let t = c.in-WithLineFeed.ensures.taken _ inv.0 inv.1 in
    omega (arith, t.in_room, length-take c.in-WithLineFeed.count c.take_line.new.room)

pub add_line-requires-clause-line : goal.add_line-requires-clause-line
add_line-requires-clause-line g c =
    let inv = none_at_hand g.R.Read.remaining c.args.source.now c.lines.source c.add_line_at_hand.new.source c.lines.progress c.add_line_at_hand.new.self c.lines.number _
    c.in_ok-add_line_at_hand.ensures c.if-branch.false c.lines.invariant in
    let t = c.in-WithLineFeed.ensures.taken _ inv.0 inv.1 in
    last_line inv.0 _ t.taken.are_lines

pub returns-in_err-add_line-in-WithLineFeed-clause-reads : goal.returns-in_err-add_line-in-WithLineFeed-clause-reads
returns-in_err-add_line-in-WithLineFeed-clause-reads g c =
    let p = err_from_is_err_and c.from_residual-in_err-add_line-in-WithLineFeed.result c.from_residual-in_err-add_line-in-WithLineFeed.ensures.1 in
    let inv = none_at_hand g.R.Read.remaining c.args.source.now c.lines.source c.add_line_at_hand.new.source c.lines.progress c.add_line_at_hand.new.self c.lines.number _
    c.in_ok-add_line_at_hand.ensures c.if-branch.false c.lines.invariant in
    let t = c.in-WithLineFeed.ensures.taken _ inv.0 inv.1 in
    rw (p.1, p.2) (refused_line g.R.Read.remaining _ _ inv.0 (take c.in-WithLineFeed.count c.take_line.new.room) c.add_line_at_hand.new.self.has_version c.add_line_at_hand.new.self.rows.items
    c.in_err-add_line-in-WithLineFeed.field-0.0 t.come t.failures (inv.2, inv.3)
    (subst (λ n. RefusesLine (due_after c.add_line_at_hand.new.self.has_version) n (take c.in-WithLineFeed.count c.take_line.new.room) c.in_err-add_line-in-WithLineFeed.field-0.0)
    inv.4 c.in_err-add_line-in-WithLineFeed.ensures))

pub lines-preserved : goal.lines-preserved
lines-preserved g c =
    let inv = none_at_hand g.R.Read.remaining c.args.source.now c.lines.source c.add_line_at_hand.new.source c.lines.progress c.add_line_at_hand.new.self c.lines.number _
    c.in_ok-add_line_at_hand.ensures c.if-branch.false c.lines.invariant in
    let t = c.in-WithLineFeed.ensures.taken _ inv.0 inv.1 in
    let line = take c.in-WithLineFeed.count c.take_line.new.room in
    let more = reads_push inv.0 line c.add_line_at_hand.new.self.has_version c.add_line.new.self.has_version c.add_line_at_hand.new.self.rows.items
    c.add_line.new.self.rows.items (inv.2, inv.3) c.in_ok-add_line-in-WithLineFeed.ensures in
    let number : c.saturating_add-number-in-WithLineFeed.result ≡ line_number (inv.0 ++ line ∷ []) =
    omega (arith, c.saturating_add-number-in-WithLineFeed.ensures, inv.4, length-append inv.0 (line ∷ [])) in
    (inv.0 ++ line ∷ [], t.taken, more.0, more.1, number, c.in-WithLineFeed.ensures.same_reader ∙ inv.5)

pub slice_bounds-room-end-in-AtEnd : goal.slice_bounds-room-end-in-AtEnd
slice_bounds-room-end-in-AtEnd g c =
    let inv = none_at_hand g.R.Read.remaining c.args.source.now c.lines.source c.add_line_at_hand.new.source c.lines.progress c.add_line_at_hand.new.self c.lines.number _
    c.in_ok-add_line_at_hand.ensures c.if-branch.false c.lines.invariant in
    let t = c.in-AtEnd.ensures.taken _ inv.0 inv.1 in
    t.in_room

pub slice_bounds-add_line-end-in-AtEnd : goal.slice_bounds-add_line-end-in-AtEnd
slice_bounds-add_line-end-in-AtEnd g c =
    let inv = none_at_hand g.R.Read.remaining c.args.source.now c.lines.source c.add_line_at_hand.new.source c.lines.progress c.add_line_at_hand.new.self c.lines.number _
    c.in_ok-add_line_at_hand.ensures c.if-branch.false c.lines.invariant in
    let t = c.in-AtEnd.ensures.taken _ inv.0 inv.1 in
    omega (arith, t.in_room, length-take c.in-AtEnd.count c.take_line.new.room)

pub add_line-requires-in-AtEnd-clause-line : goal.add_line-requires-in-AtEnd-clause-line
add_line-requires-in-AtEnd-clause-line g c =
    let inv = none_at_hand g.R.Read.remaining c.args.source.now c.lines.source c.add_line_at_hand.new.source c.lines.progress c.add_line_at_hand.new.self c.lines.number _
    c.in_ok-add_line_at_hand.ensures c.if-branch.false c.lines.invariant in
    let t = c.in-AtEnd.ensures.taken _ inv.0 inv.1 in
    end_line c.places.ensures.are_lines t.come.front inv.0 _ (t.come.judged by_input)

pub returns-in_err-add_line-in-AtEnd-clause-reads : goal.returns-in_err-add_line-in-AtEnd-clause-reads
returns-in_err-add_line-in-AtEnd-clause-reads g c =
    let p = err_from_is_err_and c.from_residual-in_err-add_line-in-AtEnd.result c.from_residual-in_err-add_line-in-AtEnd.ensures.1 in
    let inv = none_at_hand g.R.Read.remaining c.args.source.now c.lines.source c.add_line_at_hand.new.source c.lines.progress c.add_line_at_hand.new.self c.lines.number _
    c.in_ok-add_line_at_hand.ensures c.if-branch.false c.lines.invariant in
    rw (p.1, p.2) (refused_end g.R.Read.remaining _ _ inv.0 c.take_line.new.room c.in-AtEnd.count c.add_line_at_hand.new.self.has_version c.add_line_at_hand.new.self.rows.items
    c.in_err-add_line-in-AtEnd.field-0.0 (c.in-AtEnd.ensures.taken _ inv.0 inv.1) (inv.2, inv.3)
    (subst (λ n. RefusesLine (due_after c.add_line_at_hand.new.self.has_version) n (take c.in-AtEnd.count c.take_line.new.room) c.in_err-add_line-in-AtEnd.field-0.0)
    inv.4 c.in_err-add_line-in-AtEnd.ensures))

pub scenario-requires : goal.scenario-requires
scenario-requires g c is =
    let inv = none_at_hand g.R.Read.remaining c.args.source.now c.lines.source c.add_line_at_hand.new.source c.lines.progress c.add_line_at_hand.new.self c.lines.number _
    c.in_ok-add_line_at_hand.ensures c.if-branch.false c.lines.invariant in
    ended_within g.R.Read.remaining _ _ c.places.ensures.are_lines (c.places.ensures.last by_input) inv.0 c.take_line.new.room c.in-AtEnd.count
    c.add_line_at_hand.new.self.has_version c.add_line-in-AtEnd.new.self.has_version c.add_line_at_hand.new.self.rows.items c.add_line-in-AtEnd.new.self.rows.items
    is (c.in-AtEnd.ensures.taken _ inv.0 inv.1) (inv.2, inv.3) c.in_ok-add_line-in-AtEnd.ensures

pub returns-in-AtEnd-clause-reads : goal.returns-in-AtEnd-clause-reads
returns-in-AtEnd-clause-reads g c =
    let inv = none_at_hand g.R.Read.remaining c.args.source.now c.lines.source c.add_line_at_hand.new.source c.lines.progress c.add_line_at_hand.new.self c.lines.number _
    c.in_ok-add_line_at_hand.ensures c.if-branch.false c.lines.invariant in
    ended g.R.Read.remaining _ _ c.places.ensures.are_lines (c.places.ensures.last by_input) inv.0 c.take_line.new.room c.in-AtEnd.count
    c.add_line_at_hand.new.self.has_version c.add_line-in-AtEnd.new.self.has_version c.add_line_at_hand.new.self.rows.items c.add_line-in-AtEnd.new.self.rows.items
    c.scenario.result c.scenario.ensures (c.in-AtEnd.ensures.taken _ inv.0 inv.1) (inv.2, inv.3) c.in_ok-add_line-in-AtEnd.ensures

pub returns-in-TooLong-clause-reads : goal.returns-in-TooLong-clause-reads
returns-in-TooLong-clause-reads g c =
    let inv = none_at_hand g.R.Read.remaining c.args.source.now c.lines.source c.add_line_at_hand.new.source c.lines.progress c.add_line_at_hand.new.self c.lines.number _
    c.in_ok-add_line_at_hand.ensures c.if-branch.false c.lines.invariant in
    long_line g.R.Read.remaining _ _ inv.0 c.take_line.new.room c.add_line_at_hand.new.self.has_version c.add_line_at_hand.new.self.rows.items c.lines.number inv.4
    (omega (arith, c.take_line.auto.room)) (c.in-TooLong.ensures.taken _ inv.0 inv.1) (inv.2, inv.3)

pub returns-in-Failed-clause-reads : goal.returns-in-Failed-clause-reads
returns-in-Failed-clause-reads g c =
    let inv = none_at_hand g.R.Read.remaining c.args.source.now c.lines.source c.add_line_at_hand.new.source c.lines.progress c.add_line_at_hand.new.self c.lines.number _
    c.in_ok-add_line_at_hand.ensures c.if-branch.false c.lines.invariant in
    failed g.R.Read.remaining _ _ (c.places.ensures.stands by_input) inv.0 c.take_line.new.room c.add_line_at_hand.new.self.has_version c.add_line_at_hand.new.self.rows.items
    (omega (arith, c.take_line.auto.room)) (c.in-Failed.ensures.taken _ inv.0 inv.1) (inv.2, inv.3)
