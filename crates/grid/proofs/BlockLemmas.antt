-- What a map with a cell blocked leaves as it was.
use Rattle.std.proofs.Common.{◌≡◌, ◌≢◌, ℕ, zero, suc, ◌+◌, ◌*◌, ◌/◌, ◌%◌, ◌<◌, Bool, true, false, cond, ltb, List, [], ◌∷◌, map, None, Some, refl, sym, ap, ◌∙◌}
use Rattle.std.specs.Prelude.{IsTrue, ◌&&◌, slice_get, slice_set}
use Rattle.std.specs.List.{list_all}
use Rattle.std.proofs.lemmas.Bool.{and_parts, and_from, lt-ltb, ltb-true}
use Rattle.std.proofs.lemmas.List.{map-set}
use Rattle.std.proofs.lemmas.Nat.{div-mul-add, mod-mul-add}
use Rattle.std.proofs.lemmas.Option.{none-some, same_Some}
use Rattle.text_io.specs.Laws.Lists.{set_there}
use Rattle.grid.specs.declared.cell.Cell.{Cell}
use Rattle.grid.specs.declared.terrain.Terrain.TheVariants.{Void}
use Rattle.grid.specs.Map.{Grid, terrain_at, with_blocked}
use Rattle.grid.specs.Terrain.{is_terrain, kind_of}

-- whether a cell is on the map
abbrev is_on : Grid → Cell → Bool
is_on m c = ltb c.x m.width && ltb c.y m.height

-- its place in the list
abbrev place : Grid → Cell → ℕ
place m c = c.y * m.width + c.x

-- cells of the map that have one place are one
same_place : (m : Grid) (c d : Cell) → is_on m c ≡ true → is_on m d ≡ true → place m c ≡ place m d → c ≡ d
same_place m c d on on' same =
    let left : c.x < m.width = ltb-true c.x m.width (and_parts (ltb c.x m.width) (ltb c.y m.height) on).0 in
    let left' : d.x < m.width = ltb-true d.x m.width (and_parts (ltb d.x m.width) (ltb d.y m.height) on').0 in
    let row : c.y ≡ d.y = sym (div-mul-add c.y m.width c.x left) ∙ ap (λ n. n / m.width) same ∙ div-mul-add d.y m.width d.x left' in
    let column : c.x ≡ d.x = sym (mod-mul-add c.y m.width c.x left) ∙ ap (λ n. n % m.width) same ∙ mod-mul-add d.y m.width d.x left' in
    λ i. record { x = column i; y = row i }

pub others-stay : (m blocked : Grid) (c other : Cell) → with_blocked m c ≡ Some blocked → other ≢ c
    → terrain_at blocked other ≡ terrain_at m other
others-stay m blocked c other is apart = go (is_on m c) refl is
  where
    n : Grid
    n = record { width = m.width; height = m.height; terrain = slice_set m.terrain (place m c) Void }

    same : is_on m c ≡ true → (on : Bool) → is_on m other ≡ on
        → cond on (slice_get (slice_set m.terrain (place m c) Void) (place m other)) None ≡ cond on (slice_get m.terrain (place m other)) None
    same here false e = refl
    same here true e = set_there m.terrain (place m c) (place m other) Void (λ one. apart (same_place m other c e here one))

    go : (on : Bool) → is_on m c ≡ on → cond on (Some n) None ≡ Some blocked → terrain_at blocked other ≡ terrain_at m other
    go false e none = absurd (none-some blocked none)
    go true e some = ap (λ g. terrain_at g other) (sym (same_Some _ _ some)) ∙ same e (is_on m other) refl

-- characters of terrain with another one in the place of one
pub are_terrain-set : (bytes : List ℕ) (at b : ℕ) → IsTrue (is_terrain b) → IsTrue (list_all is_terrain bytes)
    → IsTrue (list_all is_terrain (slice_set bytes at b))
are_terrain-set [] at b one all = refl
are_terrain-set (a ∷ bytes) zero b one all =
    and_from (is_terrain b) (list_all is_terrain bytes) one (and_parts (is_terrain a) (list_all is_terrain bytes) all).1
are_terrain-set (a ∷ bytes) (suc at) b one all =
    let parts = and_parts (is_terrain a) (list_all is_terrain bytes) all in
    and_from (is_terrain a) (list_all is_terrain (slice_set bytes at b)) parts.0 (are_terrain-set bytes at b one parts.1)

-- the map of such characters
pub blocked-is : (m : Grid) (c : Cell) (bytes : List ℕ) (b : ℕ) → m.terrain ≡ map kind_of bytes → b ≡ 64
    → c.x < m.width → c.y < m.height
    → with_blocked m c
    ≡ Some (record { width = m.width; height = m.height; terrain = map kind_of (slice_set bytes (place m c) b) })
blocked-is m c bytes b e is column row =
    ap (λ on. cond (on && ltb c.y m.height) (Some blocked) None) (lt-ltb c.x m.width column)
    ∙ ap (λ on. cond on (Some blocked) None) (lt-ltb c.y m.height row)
    ∙ ap (λ terrain. Some (record { width = m.width; height = m.height; terrain = terrain }))
    (ap (λ l. slice_set l (place m c) Void) e ∙ ap (λ k. slice_set (map kind_of bytes) (place m c) (kind_of k)) (sym is)
    ∙ sym (map-set kind_of bytes (place m c) b))
  where
    blocked : Grid
    blocked = record { width = m.width; height = m.height; terrain = slice_set m.terrain (place m c) Void }
