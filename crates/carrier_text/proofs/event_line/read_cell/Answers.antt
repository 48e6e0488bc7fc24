-- What stands behind the first space is the row.
use Rattle.std.proofs.Common.{sym, ◌∙◌}
use Rattle.carrier_text.proofs.CoordinateLemmas.{number_split}
use Rattle.carrier_text.proofs.event_line.read_cell.Goals as goal

pub returns-in_err-y : goal.returns-in_err-y
returns-in_err-y c =
    rw c.from_residual-in_err-y.ensures
    (λ cell h.
    let lead = c.in_ok-x.ensures in
    let same = number_split c.in_ok-x.x cell.x c.in_ok-x.rest.now _ lead.0 h.0.0 (sym lead.1 ∙ h.1) in
    c.in_err-y.ensures cell.y (h.0.1, same.1))
