-- The cell's place is in the list.
use Rattle.std.proofs.Common.{◌≡◌, ◌∙◌, ◌+◌, ◌*◌, ◌<◌, length, Some, arith, refl, ap, subst}
use Rattle.std.specs.Prelude.{slice_get}
use Rattle.std.proofs.lemmas.Option.{slice_get_read}
use Rattle.grid.specs.Map.{Grid}
use Rattle.least_costs.specs.Code.Ways.{AreWays}
use Rattle.least_costs.proofs.legal_steps.LegalSteps.from.Goals as goal

pub returns-in-Some : goal.returns-in-Some
returns-in-Some c =
    let cell = c.args.cell in
    let all = c.self.inside.ways.items in
    let m = c.self.inside.map.now in
    let ways = c.index.result.now in
    let wide = c.self.invariant.same_width in
    let at : c.in-Some.place ≡ cell.y * m.width + cell.x = c.in-Some.ensures.0 ∙ ap (λ w. cell.y * w + cell.x) wide in
    let left : cell.x < m.width = subst (λ w. cell.x < w) wide c.in-Some.ensures.1 in
    let within : c.in-Some.place < length all = omega (arith, c.in-Some.ensures.2, c.len.ensures, c.self.inside.ways.ok.0) in
    let is = slice_get_read all (length all) c.in-Some.place ways refl within c.index.ensures in
    subst (λ (m : Grid). AreWays m cell ways) c.self.view_is (c.self.invariant.legal cell ways left (subst (λ k. slice_get all k ≡ Some ways) at is))
