-- Each character is that of its terrain.
use Rattle.std.proofs.Common.{map, sym, ap, ◌∙◌}
use Rattle.grid.specs.Terrain.{character_of}
use Rattle.grid.proofs.TerrainLemmas.{map-character_of-kind}
use Rattle.grid.proofs.map.Map.characters.Goals as goal

pub returns : goal.returns
returns c = c.as_slice.ensures.value ∙ sym (map-character_of-kind c.self.inside.characters.items c.self.invariant.2)
    ∙ ap (λ m. map character_of m.terrain) c.self.view_is
