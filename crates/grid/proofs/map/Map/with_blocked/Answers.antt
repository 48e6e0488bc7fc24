-- The characters are still those of terrain, and those of the map with the cell blocked.
use Rattle.std.proofs.Common.{◌+◌, ◌*◌, ◌<◌, IsTrue, Some, map, refl, sym, ap, subst, ◌∙◌}
use Rattle.std.specs.Prelude.{slice_set}
use Rattle.grid.specs.contracts.map.Map.{the_view}
use Rattle.grid.specs.Map.{with_blocked}
use Rattle.grid.specs.Terrain.{is_terrain, kind_of}
use Rattle.grid.proofs.BlockLemmas.{are_terrain-set, blocked-is}
use Rattle.grid.proofs.map.Map.with_blocked.Goals as goal

pub invariant_of-self : goal.invariant_of-self
invariant_of-self c =
    let m = c.self.inside in
    let b = c.character.result in (
      c.self.invariant.0,
      c.self.invariant.1,
      are_terrain-set m.characters.items _ b (subst (λ n. IsTrue (is_terrain n)) (sym c.character.ensures) refl) c.self.invariant.2,
    )

pub returns-then-y-self : goal.returns-then-y-self
returns-then-y-self c =
    let m = c.self.inside in
    let cell = c.args.cell in
    let x = c.from-x.ensures in
    let y = c.from-y.ensures in
    let at = ap (λ a. a * m.width + c.from-x.result) y ∙ ap (λ b. cell.y * m.width + b) x in
    ap (λ a. Some (record {
      width = m.width;
      height = m.height;
      terrain = map kind_of (slice_set m.characters.items a c.character.result);
    })) at
    ∙ sym (blocked-is (the_view m) cell m.characters.items c.character.result refl c.character.ensures
    (subst (λ a. a < m.width) x c.if-x-self.true) (subst (λ a. a < m.height) y c.if-y-self.true))
    ∙ ap (λ v. with_blocked v cell) c.self.view_is
