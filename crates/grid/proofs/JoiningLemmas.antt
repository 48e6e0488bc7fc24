-- The characters of a map tell where a straight step may lead.
use Rattle.std.proofs.Common.{◌≡◌, ◌∙◌, ℕ, ◌<◌, ◌+◌, ◌*◌, Bool, true, false, length, get_or, map, Some, refl, sym, ap, subst}
use Rattle.std.specs.Prelude.{◌==◌, ◌&&◌, ◌||◌, IsTrue, nat_lt}
use Rattle.std.proofs.lemmas.Bool.{and_from, cond-true, lt-ltb}
use Rattle.std.proofs.lemmas.List.{get_or-map}
use Rattle.std.proofs.lemmas.Nat.{mul-add-lt}
use Rattle.std.proofs.lemmas.Option.{slice_get-get_or}
use Rattle.grid.specs.declared.cell.Cell.{Cell}
use Rattle.grid.specs.declared.terrain.Terrain.{Terrain}
use Rattle.grid.specs.declared.terrain.Terrain.TheVariants.{Floor, Grass, Void, OutOfBounds, Trees, Swamp, Water}
use Rattle.grid.specs.Terrain.{Class, blocked, character_of, class_of, joins, land, swamp, water}
use Rattle.grid.specs.Map.{AreJoined, Grid, IsMap, terrain_at}
use Rattle.grid.specs.Code.Joining.{is_land_character, joins_by}

abbrev is_land_class : Class → Bool
is_land_class land = true
is_land_class swamp = true
is_land_class _ = false

abbrev is_water_class : Class → Bool
is_water_class water = true
is_water_class _ = false

land-character : (t : Terrain) → is_land_character (character_of t) ≡ is_land_class (class_of t)
land-character Floor = refl
land-character Grass = refl
land-character Void = refl
land-character OutOfBounds = refl
land-character Trees = refl
land-character Swamp = refl
land-character Water = refl

water-character : (t : Terrain) → (character_of t == 87) ≡ is_water_class (class_of t)
water-character Floor = refl
water-character Grass = refl
water-character Void = refl
water-character OutOfBounds = refl
water-character Trees = refl
water-character Swamp = refl
water-character Water = refl

joins_class : (c d : Class) → ((is_land_class c && is_land_class d) || (is_water_class c && is_water_class d)) ≡ joins c d
joins_class land land = refl
joins_class land swamp = refl
joins_class land water = refl
joins_class land blocked = refl
joins_class swamp land = refl
joins_class swamp swamp = refl
joins_class swamp water = refl
joins_class swamp blocked = refl
joins_class water land = refl
joins_class water swamp = refl
joins_class water water = refl
joins_class water blocked = refl
joins_class blocked land = refl
joins_class blocked swamp = refl
joins_class blocked water = refl
joins_class blocked blocked = refl

joins-characters : (t u : Terrain) → joins_by (character_of t) (character_of u) ≡ joins (class_of t) (class_of u)
joins-characters t u = simp (land-character, water-character) (joins_class (class_of t) (class_of u))

-- the place of a cell, row by row
abbrev place_in : Grid → Cell → ℕ
place_in m c = c.y * m.width + c.x

-- a cell within the map, its terrain and its character
module _ (m : Grid) (is_map : IsMap m) (c : Cell) (column : c.x < m.width) (row : c.y < m.height) where
  within : place_in m c < length m.terrain
  within = subst (λ k. place_in m c < k) (sym is_map.cells) (mul-add-lt c.y m.width c.x m.height row column)

  there : terrain_at m c ≡ Some (get_or m.terrain (place_in m c) Floor)
  there =
      cond-true (nat_lt c.x m.width && nat_lt c.y m.height) _ _ (and_from (nat_lt c.x m.width) (nat_lt c.y m.height) (lt-ltb c.x m.width column) (lt-ltb c.y m.height row))
      ∙ slice_get-get_or m.terrain (place_in m c) Floor within

  character : (i : ℕ) → i ≡ place_in m c → get_or (map character_of m.terrain) i 0 ≡ character_of (get_or m.terrain (place_in m c) Floor)
  character i at = ap (λ k. get_or (map character_of m.terrain) k 0) at ∙ get_or-map character_of m.terrain (place_in m c) Floor 0 within

pub joined-characters : (m : Grid) → IsMap m → (u v : Cell) (i j : ℕ) → (u.x < m.width) × (u.y < m.height) → (v.x < m.width) × (v.y < m.height)
    → i ≡ place_in m u → j ≡ place_in m v
    → IsTrue (joins_by (get_or (map character_of m.terrain) i 0) (get_or (map character_of m.terrain) j 0)) ≡ AreJoined (terrain_at m u) (terrain_at m v)
joined-characters m is_map u v i j u_in v_in at_u at_v =
    let t = get_or m.terrain (place_in m u) Floor in
    let s = get_or m.terrain (place_in m v) Floor in
    ap (λ b. IsTrue (joins_by b (get_or (map character_of m.terrain) j 0))) (character m is_map u u_in.0 u_in.1 i at_u)
    ∙ ap (λ b. IsTrue (joins_by (character_of t) b)) (character m is_map v v_in.0 v_in.1 j at_v)
    ∙ ap IsTrue (joins-characters t s)
    ∙ ap (λ o. AreJoined o (Some s)) (sym (there m is_map u u_in.0 u_in.1))
    ∙ ap (λ o. AreJoined (terrain_at m u) o) (sym (there m is_map v v_in.0 v_in.1))
