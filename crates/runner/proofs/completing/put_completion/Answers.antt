-- The number of events, and then in each turn the first of the lines that are left.
use Rattle.std.proofs.Common.{◌+◌, ◌≤◌, [], ◌∷◌, ◌++◌, length, drop, refl, ap, subst, arith, codes}
use Rattle.std.proofs.lemmas.List.{at_drop_more, drop_all}
use Rattle.std.proofs.lemmas.Result.{err_from_is_err_and}
use Rattle.text_io.specs.Text.{line_feed}
use Rattle.model.specs.declared.event.Event.TheVariants.{Start}
use Rattle.text_io.specs.Sink.{Leaves}
use Rattle.text_io.specs.Laws.Putting.{Leaves-all, Leaves-less, Leaves-broken, Leaves-none}
use Rattle.event_text.specs.EventLine.{event_lines_text}
use Rattle.runner.specs.Completing.{numbered_line, completion_text}
use Rattle.runner.proofs.completing.put_completion.Goals as goal

pub returns-in_err-put_numbered-clause-err : goal.returns-in_err-put_numbered-clause-err
returns-in_err-put_numbered-clause-err g c =
    let p = err_from_is_err_and c.from_residual.result c.from_residual.ensures.1 in
    let events = c.args.events.now in
    let first = numbered_line (codes "complete") (length events) ++ line_feed ∷ [] in
    let all = Leaves-all g.W.Write.contents _ (completion_text events) (first ++ event_lines_text events) refl in
    rw p.1 (Leaves-broken g.W.Write.contents _ _ _ _ first (event_lines_text events) _ all refl c.in_err-put_numbered.ensures.err)

pub loop-event-init : goal.loop-event-init
loop-event-init g c =
    let events = c.args.events.now in
    let first = numbered_line (codes "complete") (length events) ++ line_feed ∷ [] in
    let all = Leaves-all g.W.Write.contents _ (completion_text events) (first ++ event_lines_text events) refl in
    Leaves-less g.W.Write.contents _ _ _ _ first (event_lines_text events) _ all refl c.in_ok-put_numbered.ensures.ok

pub returns-in_err-put_event-clause-err : goal.returns-in_err-put_event-clause-err
returns-in_err-put_event-clause-err g c =
    let p = err_from_is_err_and c.from_residual-in_err-put_event.result c.from_residual-in_err-put_event.ensures.1 in
    let left = event_lines_text (drop (c.loop-event.event-index + 1) c.args.events.now) in
    let next = subst (Leaves g.W.Write.contents _ _ _)
    (at_drop_more event_lines_text c.args.events.now c.loop-event.event-index (Start 0) c.loop-event-test.true) c.loop-event.invariant in
    rw p.1 (Leaves-broken g.W.Write.contents _ _ _ _ _ left _ next refl c.in_err-put_event.ensures.err)

pub loop-event-preserved : goal.loop-event-preserved
loop-event-preserved g c =
    let left = event_lines_text (drop (c.loop-event.event-index + 1) c.args.events.now) in
    let next = subst (Leaves g.W.Write.contents _ _ _)
    (at_drop_more event_lines_text c.args.events.now c.loop-event.event-index (Start 0) c.loop-event-test.true) c.loop-event.invariant in
    Leaves-less g.W.Write.contents _ _ _ _ _ left _ next refl c.in_ok-put_event.ensures.ok

pub returns-clause-ok : goal.returns-clause-ok
returns-clause-ok g c =
    let past : length c.args.events.now ≤ c.loop-event.event-index = omega arith in
    let none = ap event_lines_text (drop_all c.loop-event.event-index c.args.events.now past) in
    Leaves-none g.W.Write.contents _ _ _ (subst (Leaves g.W.Write.contents _ _ _) none c.loop-event.invariant)
