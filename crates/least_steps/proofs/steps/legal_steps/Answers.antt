-- Each step leads where its number says, since no cell of a map has the greatest column or row.
use Rattle.std.proofs.Common.{◌≡◌, ◌+◌, ◌-◌, ◌*◌, arith, sym, subst}
use Rattle.std.specs.Prelude.{◌↔◌, IsTrue}
use Rattle.grid.specs.Map.{IsDiagonalStep, IsStraightStep}
use Rattle.least_steps.specs.Code.Steps.{AreLegal, set_with}
use Rattle.least_steps.specs.Laws.Ways.{on_map}
use Rattle.least_steps.proofs.StepLemmas.{all_legal}
use Rattle.least_steps.proofs.steps.legal_steps.Goals as goal

pub returns : goal.returns
returns c =
    let m = c.args.map.now in
    let u = c.args.cell in
    let inside = on_map m u c.requires.on in
    let column = inside.0 in
    let row = inside.1 in
    let wide = c.requires.map.size.width_limit in
    let high = c.requires.map.size.height_limit in
    let more_x = c.saturating_add-east.ensures in
    let more_y = c.saturating_add-south.ensures in
    let west : c.saturating_sub-west.result ≡ u.x - 1 = c.saturating_sub-west.ensures in
    let north : c.saturating_sub-north.result ≡ u.y - 1 = c.saturating_sub-north.ensures in
    let east : c.saturating_add-east.result ≡ u.x + 1 = omega (arith, more_x, column, wide) in
    let south : c.saturating_add-south.result ≡ u.y + 1 = omega (arith, more_y, row, high) in
    let n = c.is_step-to_north.result in
    let w = c.is_step-to_west.result in
    let e = c.is_step-to_east.result in
    let s = c.is_step-to_south.result in
    let nw = c.leads_aslant-northwest.result in
    let ne = c.leads_aslant-northeast.result in
    let sw = c.leads_aslant-southwest.result in
    let se = c.leads_aslant-southeast.result in
    subst (λ k. AreLegal m u (k * 16 + c.set_of-straight.result)) (sym c.set_of-diagonal.ensures)
    (subst (λ k. AreLegal m u (set_with nw ne sw se * 16 + k)) (sym c.set_of-straight.ensures)
    (all_legal m u n w e s nw ne sw se
    (subst (λ y. IsTrue n ↔ IsStraightStep m u (record { x = u.x; y = y })) north c.is_step-to_north.ensures)
    (subst (λ x. IsTrue w ↔ IsStraightStep m u (record { x = x; y = u.y })) west c.is_step-to_west.ensures)
    (subst (λ x. IsTrue e ↔ IsStraightStep m u (record { x = x; y = u.y })) east c.is_step-to_east.ensures)
    (subst (λ y. IsTrue s ↔ IsStraightStep m u (record { x = u.x; y = y })) south c.is_step-to_south.ensures)
    (subst (λ x. IsTrue nw ↔ IsDiagonalStep m u (record { x = x; y = u.y - 1 })) west
    (subst (λ y. IsTrue nw ↔ IsDiagonalStep m u (record { x = c.saturating_sub-west.result; y = y })) north c.leads_aslant-northwest.ensures))
    (subst (λ x. IsTrue ne ↔ IsDiagonalStep m u (record { x = x; y = u.y - 1 })) east
    (subst (λ y. IsTrue ne ↔ IsDiagonalStep m u (record { x = c.saturating_add-east.result; y = y })) north c.leads_aslant-northeast.ensures))
    (subst (λ x. IsTrue sw ↔ IsDiagonalStep m u (record { x = x; y = u.y + 1 })) west
    (subst (λ y. IsTrue sw ↔ IsDiagonalStep m u (record { x = c.saturating_sub-west.result; y = y })) south c.leads_aslant-southwest.ensures))
    (subst (λ x. IsTrue se ↔ IsDiagonalStep m u (record { x = x; y = u.y + 1 })) east
    (subst (λ y. IsTrue se ↔ IsDiagonalStep m u (record { x = c.saturating_add-east.result; y = y })) south c.leads_aslant-southeast.ensures))))
