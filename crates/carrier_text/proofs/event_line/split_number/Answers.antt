-- The number ends at the first space.
use Rattle.carrier_text.proofs.CoordinateLemmas.{no_number_leads, number_before}
use Rattle.carrier_text.proofs.event_line.split_number.Goals as goal

pub returns-in_err-place : goal.returns-in_err-place
returns-in_err-place c = rw c.from_residual.ensures (λ n rest h. no_number_leads c.args.bytes.now rest n h.1 c.in_err-place.ensures)

pub returns-in_err-number : goal.returns-in_err-number
returns-in_err-number c =
    rw c.from_residual-in_err-number.ensures
    (λ n rest h.
    let found = c.in_ok-place.ensures in
    c.in_err-number.ensures n (h.0, number_before c.args.bytes.now rest n c.in_ok-place.place h.0 h.1 found.0 found.1))
