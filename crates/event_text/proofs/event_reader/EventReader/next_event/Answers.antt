-- The line of an event is read behind the header, or there is none.
use Rattle.std.proofs.lemmas.Result.{err_from_is_err_and}
use Rattle.event_text.specs.Laws.Stopping.{stopped_as}
use Rattle.event_text.proofs.event_reader.EventReader.next_event.Goals as goal

pub returns-in_err-_version-clause-next : goal.returns-in_err-_version-clause-next
returns-in_err-_version-clause-next g c headers first events h =
    let p = err_from_is_err_and c.from_residual.result c.from_residual.ensures.1 in
    let taken = c.in_err-_version.ensures.taken headers first events h in
    rw (p.1, p.2) (stopped_as g.R.Read.remaining first _ headers _ _ events _ taken.1 taken.0)

pub returns-clause-next : goal.returns-clause-next
returns-clause-next g c headers first events h =
    let taken = c.in_ok-_version.ensures.taken headers first events h in
    c.read_line.ensures.next headers first events c.in_ok-_version._version taken.0 taken.1
