-- Each number but the last has a space behind it.
use Rattle.std.proofs.Common.{sym, ◌∙◌}
use Rattle.carrier_text.proofs.CoordinateLemmas.{number_split}
use Rattle.carrier_text.proofs.event_line.read_cells.Goals as goal

pub returns-in_err-y : goal.returns-in_err-y
returns-in_err-y c =
    rw c.from_residual-in_err-y.ensures
    (λ u v h.
    let lead = c.in_ok-x.ensures in
    let same = number_split c.in_ok-x.x u.x c.in_ok-x.rest.now _ lead.0 h.0.0 (sym lead.1 ∙ h.2) in
    c.in_err-y.ensures u.y _ (h.0.1, same.1))

pub returns-in_err-to : goal.returns-in_err-to
returns-in_err-to c =
    rw c.from_residual-in_err-to.ensures
    (λ u v h.
    let lead = c.in_ok-x.ensures in
    let same = number_split c.in_ok-x.x u.x c.in_ok-x.rest.now _ lead.0 h.0.0 (sym lead.1 ∙ h.2) in
    let next = c.in_ok-y.ensures in
    let more = number_split c.in_ok-y.y u.y c.in_ok-y.rest.now _ next.0 h.0.1 (sym next.1 ∙ same.1) in
    c.in_err-to.ensures v (h.1, more.1))
