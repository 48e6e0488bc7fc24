-- The character at the place of the cell has the terrain there.
use Rattle.std.proofs.Common.{◌≡◌, ◌+◌, ◌*◌, ◌<◌, get_or, length, arith, refl, ap, subst, ◌∙◌}
use Rattle.grid.specs.Map.{terrain_at}
use Rattle.grid.specs.Terrain.{terrain_of}
use Rattle.grid.proofs.TerrainLemmas.{terrain_at-on_map}
use Rattle.grid.proofs.map.Map.terrain.Goals as goal

pub returns-then-y-self : goal.returns-then-y-self
returns-then-y-self c =
    let m = c.self.inside in
    let v = m.characters in
    let count : length v.items ≡ m.width * m.height = omega (arith, c.self.invariant.1) in
    let x = c.from-x.ensures in
    let y = c.from-y.ensures in
    let at = ap (λ a. a * m.width + c.from-x.result) y ∙ ap (λ b. c.args.cell.y * m.width + b) x in
    c.from_character.ensures ∙ ap terrain_of (c.index.ensures ∙ ap (λ i. get_or m.characters.items i c.index.result.now) at)
    ∙ terrain_at-on_map _ c.args.cell m.characters.items c.index.result.now refl c.self.invariant.2 count
    (subst (λ a. a < m.width) x c.if-x-self.true) (subst (λ a. a < m.height) y c.if-y-self.true)
    ∙ ap (λ v. terrain_at v c.args.cell) c.self.view_is
