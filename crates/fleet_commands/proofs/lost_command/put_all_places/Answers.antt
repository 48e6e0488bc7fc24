-- Each turn puts the line of the first of the places that are left.
use Rattle.std.proofs.Common.{◌+◌, ◌≤◌, ◌∷◌, ◌++◌, [], ap, arith, subst}
use Rattle.std.proofs.lemmas.Result.{err_from_is_err_and}
use Rattle.text_io.specs.Text.{line_feed}
use Rattle.text_io.specs.Sink.{Leaves}
use Rattle.text_io.specs.Laws.Putting.{Leaves-broken, Leaves-less, Leaves-none}
use Rattle.event_text.specs.ReplyText.{reply_line}
use Rattle.fleet_commands.specs.LostPlaces.{place_line, places_text}
use Rattle.fleet_commands.proofs.PlaceLemmas.{places-end, places-next}
use Rattle.fleet_commands.proofs.lost_command.put_all_places.Goals as goal

pub returns-in_err-put_reply-clause-err : goal.returns-in_err-put_reply-clause-err
returns-in_err-put_reply-clause-err g c = λ table is.
    let p = err_from_is_err_and c.from_residual.result c.from_residual.ensures.1 in
    let k = c.loop-number.number in
    let last = c.args.places.last in
    let within : k ≤ last = omega arith in
    let next = subst (Leaves g.W.Write.contents _ _ _) (places-next is.track k last within) (c.loop-number.invariant table is) in
    rw p.1 (Leaves-broken g.W.Write.contents _ _ _ _ (place_line is.track k ++ line_feed ∷ []) (places_text is.track (k + 1) last) _ next
    (ap (λ reply. reply_line reply ++ line_feed ∷ []) (c.place.ensures table is)) c.in_err-put_reply.ensures.err)

pub loop-number-preserved : goal.loop-number-preserved
loop-number-preserved g c = λ table is.
    let k = c.loop-number.number in
    let last = c.args.places.last in
    let within : k ≤ last = omega arith in
    let next = subst (Leaves g.W.Write.contents _ _ _) (places-next is.track k last within) (c.loop-number.invariant table is) in
    Leaves-less g.W.Write.contents _ _ _ _ (place_line is.track k ++ line_feed ∷ []) (places_text is.track (k + 1) last) _ next
    (ap (λ reply. reply_line reply ++ line_feed ∷ []) (c.place.ensures table is)) c.in_ok-put_reply.ensures.ok

pub returns-clause-ok : goal.returns-clause-ok
returns-clause-ok g c = λ table is.
    let past = c.loop-number-test.false in
    Leaves-none g.W.Write.contents _ _ _ (subst (Leaves g.W.Write.contents _ _ _) (places-end is.track c.loop-number.number c.args.places.last (omega (arith, past)))
    (c.loop-number.invariant table is))
