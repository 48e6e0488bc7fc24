-- The characters of terrain.
use Rattle.std.proofs.Common.{◌≡◌, ℕ, ◌+◌, ◌*◌, ◌<◌, ltb, arith, Bool, true, false, cond, eqb, List, [], ◌∷◌, length, get_or, Some, None, map, refl, sym, ap, ◌∙◌}
use Rattle.std.specs.Prelude.{Option, IsTrue, is_some, unwrap_or, ◌&&◌, slice_get, option_map}
use Rattle.std.specs.List.{list_all}
use Rattle.std.proofs.lemmas.Bool.{and_parts, false≢true, true_from_ne_false, eqb-true, lt-ltb}
use Rattle.std.proofs.lemmas.Nat.{mul-add-lt}
use Rattle.std.proofs.lemmas.List.Folds.{list_all_at}
use Rattle.std.proofs.lemmas.Option.{slice_get-map, slice_get-get_or}
use Rattle.grid.specs.declared.terrain.Terrain.{Terrain}
use Rattle.grid.specs.declared.terrain.Terrain.TheVariants.{Floor, Grass, Void, OutOfBounds, Trees, Swamp, Water}
use Rattle.grid.specs.declared.cell.Cell.{Cell}
use Rattle.grid.specs.Map.{Grid, terrain_at}
use Rattle.grid.specs.Terrain.{character_of, terrain_of, is_terrain, kind_of}

-- a character that has a terrain
some_from : (o : Option Terrain) → is_some o ≡ true → o ≡ Some (unwrap_or o Void)
some_from None h = absurd (false≢true h)
some_from (Some t) h = refl

pub terrain_of-kind : (b : ℕ) → IsTrue (is_terrain b) → terrain_of b ≡ Some (kind_of b)
terrain_of-kind b h = some_from (terrain_of b) h

-- the character of a chain of tests
character-chosen : (t : Bool) (b n : ℕ) (x : Terrain) (rest : Option Terrain) → eqb b n ≡ t → character_of x ≡ n
    → (is_some rest ≡ true → character_of (unwrap_or rest Void) ≡ b)
    → is_some (cond t (Some x) rest) ≡ true → character_of (unwrap_or (cond t (Some x) rest) Void) ≡ b
character-chosen true b n x rest e c others h = c ∙ sym (eqb-true b n e)
character-chosen false b n x rest e c others h = others h

-- a terrain character is that of its terrain
pub character_of-kind : (b : ℕ) → IsTrue (is_terrain b) → character_of (kind_of b) ≡ b
character_of-kind b =
    character-chosen (eqb b 46) b 46 Floor _ refl refl
    (character-chosen (eqb b 71) b 71 Grass _ refl refl
    (character-chosen (eqb b 64) b 64 Void _ refl refl
    (character-chosen (eqb b 79) b 79 OutOfBounds _ refl refl
    (character-chosen (eqb b 84) b 84 Trees _ refl refl
    (character-chosen (eqb b 83) b 83 Swamp _ refl refl
    (character-chosen (eqb b 87) b 87 Water None refl refl
    (λ h. absurd (false≢true h))))))))

pub map-character_of-kind : (bytes : List ℕ) → IsTrue (list_all is_terrain bytes) → map character_of (map kind_of bytes) ≡ bytes
map-character_of-kind [] h = refl
map-character_of-kind (b ∷ bytes) h =
    let both = and_parts (is_terrain b) (list_all is_terrain bytes) h in
    ap (λ c. c ∷ map character_of (map kind_of bytes)) (character_of-kind b both.0) ∙ ap (λ l. b ∷ l) (map-character_of-kind bytes both.1)

-- each of the characters is terrain
pub is_terrain-at : (bytes : List ℕ) (i d : ℕ) → IsTrue (list_all is_terrain bytes) → i < length bytes → IsTrue (is_terrain (get_or bytes i d))
is_terrain-at bytes i d h in_range = true_from_ne_false _ (λ other. false≢true (sym (list_all_at is_terrain bytes i d in_range other) ∙ h))

-- the terrain at a place
pub terrain-at : (bytes : List ℕ) (i d : ℕ) → IsTrue (list_all is_terrain bytes) → i < length bytes
    → terrain_of (get_or bytes i d) ≡ slice_get (map kind_of bytes) i
terrain-at bytes i d h in_range = terrain_of-kind (get_or bytes i d) (is_terrain-at bytes i d h in_range)
    ∙ sym (slice_get-map kind_of bytes i ∙ ap (option_map kind_of) (slice_get-get_or bytes i d in_range))

-- the terrain at a cell that is on the map
pub terrain_at-on_map : (m : Grid) (c : Cell) (bytes : List ℕ) (d : ℕ) → m.terrain ≡ map kind_of bytes → IsTrue (list_all is_terrain bytes)
    → length bytes ≡ m.width * m.height → c.x < m.width → c.y < m.height → terrain_of (get_or bytes (c.y * m.width + c.x) d) ≡ terrain_at m c
terrain_at-on_map m c bytes d e h count column row =
    let at = c.y * m.width + c.x in
    let in_range : at < length bytes = omega (arith, count, mul-add-lt c.y m.width c.x m.height row column) in
    terrain-at bytes at d h in_range ∙ ap (λ l. slice_get l at) (sym e)
    ∙ sym (ap (λ t. cond (t && ltb c.y m.height) (slice_get m.terrain at) None) (lt-ltb c.x m.width column)
    ∙ ap (λ t. cond t (slice_get m.terrain at) None) (lt-ltb c.y m.height row))
