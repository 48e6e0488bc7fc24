-- The tests are the six parts of a diagonal step.
use Rattle.std.proofs.Common.{sym, ◌∙◌}
use Rattle.std.proofs.lemmas.Bool.{false≢true}
use Rattle.grid.proofs.step.is_diagonal.Goals.{then-share_corner, else-share_corner}
use Rattle.grid.proofs.step.is_diagonal.Goals as goal

pub returns-then-leads_round : goal.returns-then-leads_round
returns-then-leads_round c =
    let last = c.leads_round-then-leads_round in
    elim c.if-share_corner.branch [
      | then-share_corner w ↦
          let corner = c.share_corner.ensures.0 w.if-share_corner.true in
          let way = w.leads_round.ensures.0 (sym w.value-is ∙ c.if-leads_round.true) in (
            λ h. let other = last.ensures.0 h in
                record { columns = corner.0; rows = corner.1; first = way.0; first_on = way.1; second = other.0; second_on = other.1 },
            λ h. last.ensures.1 (h.second, h.second_on),
          )
      | else-share_corner w ↦ absurd (false≢true (sym w.if-share_corner.false ∙ (sym w.value-is ∙ c.if-leads_round.true)))
    ]
