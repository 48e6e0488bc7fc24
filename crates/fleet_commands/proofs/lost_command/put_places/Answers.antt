-- Nothing more is put.
use Rattle.std.proofs.Common.{[], append-nil}
use Rattle.std.proofs.lemmas.Result.{err_from_is_err_and}
use Rattle.text_io.specs.Laws.Putting.{Breaks-then, Puts-then}
use Rattle.fleet_commands.specs.LostPlaces.{places_text}
use Rattle.fleet_commands.proofs.lost_command.put_places.Goals as goal

pub returns-in_err-put_all_places-clause-err : goal.returns-in_err-put_all_places-clause-err
returns-in_err-put_all_places-clause-err g c = λ table is.
    let p = err_from_is_err_and c.from_residual.result c.from_residual.ensures.1 in
    rw p.1 (c.in_err-put_all_places.ensures.err table is)

pub returns-clause-ok : goal.returns-clause-ok
returns-clause-ok g c = λ table is.
    let text = places_text is.track c.args.places.first c.args.places.last in
    Puts-then g.W.Write.contents _ _ _ text [] _ c.hand_on.result (append-nil text) (c.in_ok-put_all_places.ensures.ok table is) c.hand_on.ensures.ok

pub returns-clause-err : goal.returns-clause-err
returns-clause-err g c = λ table is.
    let text = places_text is.track c.args.places.first c.args.places.last in
    Breaks-then g.W.Write.contents _ _ _ text [] _ c.hand_on.result (append-nil text) (c.in_ok-put_all_places.ensures.ok table is) c.hand_on.ensures.err
