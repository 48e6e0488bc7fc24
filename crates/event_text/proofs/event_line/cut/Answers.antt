-- A part ends at the first space.
use Rattle.std.proofs.Common.{◌+◌, Some, take, sym, ap, ◌∙◌}
use Rattle.std.proofs.lemmas.List.{take_rest}
use Rattle.event_text.proofs.EventLemmas.{cut-nowhere, cut-found}
use Rattle.event_text.proofs.event_line.cut.Goals as goal

pub returns-in_err-place : goal.returns-in_err-place
returns-in_err-place c = rw c.from_residual.ensures (cut-nowhere c.args.bytes.now c.in_err-place.ensures)

pub returns : goal.returns
returns c =
    let bytes = c.args.bytes.now in
    let place = c.in_ok-place.place in
    cut-found bytes place c.in_ok-place.ensures.0 c.in_ok-place.ensures.1
    ∙ ap (λ xs. Some (take place bytes, xs)) (sym (take_rest bytes (place + 1)))
