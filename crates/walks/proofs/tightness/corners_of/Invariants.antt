use Rattle.std.proofs.Common.{◌≡◌, ℕ, ◌+◌, ◌<◌, ◌≤◌, length, get_or, map}
use Rattle.std.specs.Prelude.{slice_index}
use Rattle.grid.specs.Terrain.{terrain_of, character_of}
use Rattle.walks.specs.Code.Tightness.{ground_of, number_of}
use Rattle.walks.proofs.tightness.corners_of.Given as goal

-- the grounds of the cells before are told, and none of those behind
abbrev pub invariant-loop-i : goal.invariant-loop-i
invariant-loop-i l = record {
  grounds : length l.corners.grounds ≡ 65;
  keys : length l.corners.keys ≡ 65;
  told : (k : ℕ) → k < l.i
      → slice_index l.corners.grounds k ≡ number_of (ground_of (terrain_of (get_or (map character_of l.map.terrain) (l.first + k) 0)));
  rest : (k : ℕ) → l.i ≤ k → slice_index l.corners.grounds k ≡ 0;
}
