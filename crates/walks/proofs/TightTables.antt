-- A table is tight exactly where each block of four cells keeps.
use Rattle.std.proofs.Common.{◌≡◌, ℕ, ◌+◌, ◌<◌, Bool, true, false, cond, zero, suc, List, replicate, get_or, length, map, ◌*◌, Some, None, inl, inr, arith, refl, sym, ap, subst, ◌∙◌}
use Rattle.std.specs.Prelude.{Option, IsTrue, ◌↔◌, ◌&&◌, ◌-◌, ◌≤◌, nat_lt, slice_get, slice_index, bit_and}
use Rattle.std.proofs.lemmas.Bool.{cases_lt, and_parts, and_from, ltb-true, lt-ltb, cond-true}
use Rattle.std.proofs.lemmas.List.{get_or-map}
use Rattle.std.proofs.lemmas.Nat.{mul-le}
use Rattle.std.proofs.lemmas.Option.{slice_get-get_or}
use Rattle.std.specs.Int.Bits.{and_zero_l, and_zero_r}
use Rattle.grid.specs.declared.cell.Cell.{Cell}
use Rattle.grid.specs.declared.terrain.Terrain.{Terrain}
use Rattle.grid.specs.declared.terrain.Terrain.TheVariants.{Floor, Grass, Void, OutOfBounds, Trees, Swamp, Water}
use Rattle.grid.specs.Terrain.{Class, land, swamp, water, blocked, class_of, joins, character_of, terrain_of}
use Rattle.grid.specs.Map.{Grid, IsMap, terrain_at, AreNext, ShareSide, AreJoined, IsStraightStep, IsDiagonalStep}
use Rattle.scenario.specs.declared.length.Length.{Length}
use Rattle.walks.specs.declared.tightness.Corner.{Corner}
use Rattle.walks.specs.declared.tightness.Corners.{Corners}
use Rattle.walks.specs.Certificate.{entry_of, Bounds, IsTight}
use Rattle.walks.specs.Code.Tightness.{Ground, open_land, open_water, no_ground, ground_of_class}
use Rattle.walks.specs.Code.Tightness.{ground_of, number_of, corner_at, AreWithinStep, AreSame}
use Rattle.walks.specs.Code.Tightness.{KeepsSide, KeepsBlock, KeepsBlockAt, KeepsBlockIn, KeepsRows}
use Rattle.walks.specs.Code.Tightness.{TellsSame, AreCorners, corner_in}
use Rattle.walks.specs.declared.length_table.Entries.{Entries}
use Rattle.walks.specs.Code.KeyParts.{number_of_entry}
use Rattle.walks.specs.Code.Distances.{beyond_number}
use Rattle.walks.specs.Code.TableEntries.{entry_number, number_on, IsBeyond}
use Rattle.walks.specs.Laws.OctileSteps.{AreBeside}
use Rattle.walks.proofs.DistanceLemmas.{beyond_near}
use Rattle.walks.proofs.KeyLemmas.{BoundEachOther, within_from, from_within}

-- ---- what holds of each number below another

pub all_below_next : (P : ℕ → Type 0) (n : ℕ) → ((k : ℕ) → k < n → P k) → P n → (k : ℕ) → k < n + 1 → P k
all_below_next P n h last k less = elim (cases_lt k n) [ inl before ↦ h k before | inr most ↦ subst P (omega (arith, less, most)) last ]

-- ---- what a row holds, and what the map and the table say

pub told_back : (p c : Corner) → TellsSame p c → TellsSame c p
told_back p c t = (sym t.0, λ some. sym (t.1 (λ none. some (t.0 ∙ none))))

same_told : (a b e f : Corner) → TellsSame a e → TellsSame b f → AreSame e f → AreSame a b
same_told a b e f p q same none = same (ap (λ g. bit_and g f.grounds) (sym p.0) ∙ ap (bit_and a.grounds) (sym q.0) ∙ none)

first_some : (e f : Corner) → AreSame e f → e.grounds ≡ 0 → ⊥
first_some e f same none = same (ap (λ g. bit_and g f.grounds) none ∙ and_zero_l f.grounds)

second_some : (e f : Corner) → AreSame e f → f.grounds ≡ 0 → ⊥
second_some e f same none = same (ap (bit_and e.grounds) none ∙ and_zero_r e.grounds)

within_told : (step : ℕ) (a b e f : Corner) → TellsSame a e → TellsSame b f → (e.grounds ≡ 0 → ⊥) → (f.grounds ≡ 0 → ⊥)
    → AreWithinStep step a.key b.key → AreWithinStep step e.key f.key
within_told step a b e f p q first second within =
    subst (λ k. AreWithinStep step k f.key) (p.1 first) (subst (AreWithinStep step a.key) (q.1 second) within)

side_told : (a b e f : Corner) → TellsSame a e → TellsSame b f → KeepsSide a b → KeepsSide e f
side_told a b e f p q keeps same =
    within_told 6625109 a b e f p q (first_some e f same) (second_some e f same) (keeps (same_told a b e f p q same))

pub block_told : (a e b f c g d h : Corner) → TellsSame a e → TellsSame b f → TellsSame c g → TellsSame d h → KeepsBlock a b c d → KeepsBlock e f g h
block_told a e b f c g d h p q r s keeps = (
  side_told a b e f p q keeps.0,
  side_told a c e g p r keeps.1,
  λ same.
      let within = keeps.2 (same_told a b e f p q same.0, same_told a c e g p r same.1, same_told a d e h p s same.2) in (
        within_told 9369319 a d e h p s (first_some e f same.0) (second_some e h same.2) within.0,
        within_told 9369319 b c f g q r (second_some e f same.0) (second_some e g same.1) within.1,
      ),
)

-- the blocks of two rows keep exactly where those of the map and the table do
pub rows_from_held : (m : Grid) (numbers : ℕ → ℕ → ℕ) (left right y : ℕ) (upper lower : Corners)
    → AreCorners m numbers left right y upper → AreCorners m numbers left right (y + 1) lower → KeepsRows (right - left) upper lower
    → (x : ℕ) → left ≤ x → x < right → KeepsBlockAt m numbers x y
rows_from_held m numbers left right y upper lower above below keeps x least less =
    let next : x + 1 - left ≡ x - left + 1 = omega (arith, least) in
    block_told (corner_in upper (x - left)) (corner_at m numbers x y) (corner_in upper (x - left + 1)) (corner_at m numbers (x + 1) y)
    (corner_in lower (x - left)) (corner_at m numbers x (y + 1)) (corner_in lower (x - left + 1)) (corner_at m numbers (x + 1) (y + 1))
    (above x least (omega (arith, less))) (subst (λ i. TellsSame (corner_in upper i) (corner_at m numbers (x + 1) y)) next (above (x + 1) (omega (arith, least)) (omega (arith, less))))
    (below x least (omega (arith, less))) (subst (λ i. TellsSame (corner_in lower i) (corner_at m numbers (x + 1) (y + 1))) next (below (x + 1) (omega (arith, least)) (omega (arith, less))))
    (keeps (x - left) (omega (arith, least, less)))

pub held_from_rows : (m : Grid) (numbers : ℕ → ℕ → ℕ) (left right y : ℕ) (upper lower : Corners)
    → AreCorners m numbers left right y upper → AreCorners m numbers left right (y + 1) lower
    → ((x : ℕ) → left ≤ x → x < right → KeepsBlockAt m numbers x y) → KeepsRows (right - left) upper lower
held_from_rows m numbers left right y upper lower above below keeps i less =
    let x : ℕ = left + i in
    let here : x - left ≡ i = omega arith in
    let next : x + 1 - left ≡ i + 1 = omega arith in
    block_told (corner_at m numbers x y) (corner_in upper i) (corner_at m numbers (x + 1) y) (corner_in upper (i + 1))
    (corner_at m numbers x (y + 1)) (corner_in lower i) (corner_at m numbers (x + 1) (y + 1)) (corner_in lower (i + 1))
    (subst (λ k. TellsSame (corner_at m numbers x y) (corner_in upper k)) here (told_back _ (corner_at m numbers x y) (above x (omega arith) (omega (arith, less)))))
    (subst (λ k. TellsSame (corner_at m numbers (x + 1) y) (corner_in upper k)) next (told_back _ (corner_at m numbers (x + 1) y) (above (x + 1) (omega arith) (omega (arith, less)))))
    (subst (λ k. TellsSame (corner_at m numbers x (y + 1)) (corner_in lower k)) here (told_back _ (corner_at m numbers x (y + 1)) (below x (omega arith) (omega (arith, less)))))
    (subst (λ k. TellsSame (corner_at m numbers (x + 1) (y + 1)) (corner_in lower k)) next (told_back _ (corner_at m numbers (x + 1) (y + 1)) (below (x + 1) (omega arith) (omega (arith, less)))))
    (keeps x (omega arith) (omega (arith, less)))

-- of one block more
pub rows_next : (i : ℕ) (upper lower : Corners) (a b c d : Corner) → a ≡ corner_in upper i → b ≡ corner_in upper (i + 1) → c ≡ corner_in lower i
    → d ≡ corner_in lower (i + 1) → (before last : Bool) → (IsTrue before ↔ KeepsRows i upper lower) → (IsTrue last ↔ KeepsBlock a b c d)
    → (IsTrue (before && last) ↔ KeepsRows (i + 1) upper lower)
rows_next i upper lower a b c d p q r s before last rows block =
    let held : KeepsBlock a b c d ≡ KeepsBlockIn upper lower i =
    ap (λ e. KeepsBlock e b c d) p ∙ ap (λ e. KeepsBlock (corner_in upper i) e c d) q
    ∙ ap (λ e. KeepsBlock (corner_in upper i) (corner_in upper (i + 1)) e d) r
    ∙ ap (λ e. KeepsBlock (corner_in upper i) (corner_in upper (i + 1)) (corner_in lower i) e) s in (
      λ both. let parts = and_parts before last both in all_below_next (KeepsBlockIn upper lower) i (rows.0 parts.0) (subst (λ t. t) held (block.0 parts.1)),
      λ all. and_from before last (rows.1 (λ k less. all k (omega (arith, less)))) (block.1 (subst (λ t. t) (sym held) (all i (omega arith)))),
    )

pub no_grounds : (n i : ℕ) → slice_index (replicate n 0) i ≡ 0
no_grounds zero i = refl
no_grounds (suc n) zero = refl
no_grounds (suc n) (suc i) = no_grounds n i

-- ---- grounds, and the terrains that join

class_joined : (p q : Class) → (ground_of_class p ≡ no_ground → ⊥) → ground_of_class p ≡ ground_of_class q → IsTrue (joins p q)
class_joined land land h e = refl
class_joined land swamp h e = refl
class_joined land water h e = cc
class_joined land blocked h e = cc
class_joined swamp land h e = refl
class_joined swamp swamp h e = refl
class_joined swamp water h e = cc
class_joined swamp blocked h e = cc
class_joined water land h e = cc
class_joined water swamp h e = cc
class_joined water water h e = refl
class_joined water blocked h e = cc
class_joined blocked q h e = absurd (h refl)

class_same : (p q : Class) → IsTrue (joins p q) → (ground_of_class p ≡ no_ground → ⊥) × (ground_of_class p ≡ ground_of_class q)
class_same land land h = (λ e. cc, refl)
class_same land swamp h = (λ e. cc, refl)
class_same land water h = cc
class_same land blocked h = cc
class_same swamp land h = (λ e. cc, refl)
class_same swamp swamp h = (λ e. cc, refl)
class_same swamp water h = cc
class_same swamp blocked h = cc
class_same water land h = cc
class_same water swamp h = cc
class_same water water h = (λ e. cc, refl)
class_same water blocked h = cc
class_same blocked land h = cc
class_same blocked swamp h = cc
class_same blocked water h = cc
class_same blocked blocked h = cc

joined_from_same : (s t : Option Terrain) → (ground_of s ≡ no_ground → ⊥) → ground_of s ≡ ground_of t → AreJoined s t
joined_from_same None t h e = absurd (h refl)
joined_from_same (Some s) None h e = absurd (h e)
joined_from_same (Some s) (Some t) h e = class_joined (class_of s) (class_of t) h e

same_from_joined : (s t : Option Terrain) → AreJoined s t → (ground_of s ≡ no_ground → ⊥) × (ground_of s ≡ ground_of t)
same_from_joined None t h = absurd h
same_from_joined (Some s) None h = absurd h
same_from_joined (Some s) (Some t) h = class_same (class_of s) (class_of t) h

-- ---- cells of one ground

abbrev ground_at : Grid → ℕ → ℕ → Ground
ground_at m x y = ground_of (terrain_at m (record { x = x; y = y }))

abbrev Alike : Ground → Ground → Type 0
Alike g h = (g ≡ no_ground → ⊥) × (g ≡ h)

abbrev Meet : Ground → Ground → Type 0
Meet g h = bit_and (number_of g) (number_of h) ≡ 0 → ⊥

alike_from : (g h : Ground) → Meet g h → Alike g h
alike_from open_land open_land e = (λ f. cc, refl)
alike_from open_land open_water e = absurd (e refl)
alike_from open_land no_ground e = absurd (e refl)
alike_from open_water open_land e = absurd (e refl)
alike_from open_water open_water e = (λ f. cc, refl)
alike_from open_water no_ground e = absurd (e refl)
alike_from no_ground open_land e = absurd (e refl)
alike_from no_ground open_water e = absurd (e refl)
alike_from no_ground no_ground e = absurd (e refl)

same_from : (g h : Ground) → Alike g h → Meet g h
same_from open_land open_land e = λ f. omega (arith, f)
same_from open_land open_water e = (let f = e.1 in cc)
same_from open_land no_ground e = (let f = e.1 in cc)
same_from open_water open_land e = (let f = e.1 in cc)
same_from open_water open_water e = λ f. omega (arith, f)
same_from open_water no_ground e = (let f = e.1 in cc)
same_from no_ground h e = absurd (e.0 refl)

flip : (p q : Ground) → Alike p q → Alike q p
flip p q h = (λ e. h.0 (h.1 ∙ e), sym h.1)

via : (a p q : Ground) → Alike a p → Alike a q → Alike p q
via a p q h k = (λ e. h.0 (h.1 ∙ e), sym h.1 ∙ k.1)

round : (p q r : Ground) → Alike p q → Alike q r → Alike p r
round p q r h k = (h.0, h.1 ∙ k.1)

same_from_step : (m : Grid) (u v : Cell) → IsStraightStep m u v → Alike (ground_at m u.x u.y) (ground_at m v.x v.y)
same_from_step m u v step = same_from_joined (terrain_at m u) (terrain_at m v) step.joined

step_from_same : (m : Grid) (u v : Cell) → ShareSide u v → Alike (ground_at m u.x u.y) (ground_at m v.x v.y) → IsStraightStep m u v
step_from_same m u v side same = record { side = side; joined = joined_from_same (terrain_at m u) (terrain_at m v) same.0 same.1 }

on_map_by : (b : Bool) (t : Option Terrain) → (ground_of (cond b t None) ≡ no_ground → ⊥) → b ≡ true
on_map_by true t h = refl
on_map_by false t h = absurd (h refl)

-- what isn't blocked is on the map
on_map : (m : Grid) (x y : ℕ) → (ground_at m x y ≡ no_ground → ⊥) → (x < m.width) × (y < m.height)
on_map m x y h =
    let both = and_parts (nat_lt x m.width) (nat_lt y m.height) (on_map_by (nat_lt x m.width && nat_lt y m.height) (slice_get m.terrain _) h) in
    (ltb-true x m.width both.0, ltb-true y m.height both.1)

-- ---- what is read of a cell

no_number : (g : Ground) → ((g ≡ no_ground → ⊥) → ⊥) → number_of g ≡ 0
no_number open_land h = absurd (h (λ e. cc))
no_number open_water h = absurd (h (λ e. cc))
no_number no_ground h = refl

-- off the map there are no grounds
pub told_off : (m : Grid) (numbers : ℕ → ℕ → ℕ) (x y : ℕ) (p : Corner) → ((x < m.width) × (y < m.height) → ⊥) → p.grounds ≡ 0
    → TellsSame p (corner_at m numbers x y)
told_off m numbers x y p off none =
    let zero = no_number (ground_at m x y) (λ some. off (on_map m x y some)) in
    (none ∙ sym zero, λ some. absurd (some zero))

read_back : (t : Terrain) → terrain_of (character_of t) ≡ Some t
read_back Floor = refl
read_back Grass = refl
read_back Void = refl
read_back OutOfBounds = refl
read_back Trees = refl
read_back Swamp = refl
read_back Water = refl

pub place_within : (x y width height : ℕ) → x < width → y < height → y * width + x < width * height
place_within x y width height column row =
    let rows = mul-le (y + 1) width height width (omega (arith, row)) (omega arith) in
    omega (arith, rows, column)

-- on the map it is what the character of the cell and its number say
pub told_on : (m : Grid) (numbers : ℕ → ℕ → ℕ) (x y i : ℕ) (p : Corner) → IsMap m → x < m.width → y < m.height → i ≡ y * m.width + x
    → p.grounds ≡ number_of (ground_of (terrain_of (get_or (map character_of m.terrain) i 0))) → p.key ≡ numbers x y
    → TellsSame p (corner_at m numbers x y)
told_on m numbers x y i p is_map column row at grounds key =
    let count = is_map.cells in
    let within = place_within x y m.width m.height column row in
    let inside : i < length m.terrain = omega (arith, count, at, within) in
    let t = get_or m.terrain i Floor in
    let here : terrain_at m (record { x = x; y = y }) ≡ Some t =
    cond-true (nat_lt x m.width && nat_lt y m.height) _ _ (and_from (nat_lt x m.width) (nat_lt y m.height) (lt-ltb x m.width column) (lt-ltb y m.height row))
    ∙ ap (slice_get m.terrain) (sym at) ∙ slice_get-get_or m.terrain i Floor inside in (
      grounds ∙ ap (λ c. number_of (ground_of (terrain_of c))) (get_or-map character_of m.terrain i Floor 0 inside)
          ∙ ap (λ o. number_of (ground_of o)) (read_back t ∙ sym here),
      λ some. key,
    )

-- ---- numbers of which those of neighbouring cells are near

-- where the numbers of two neighbouring cells are near in the one way, so are they in the other
abbrev pub Carries : Grid → (before after : ℕ → ℕ → ℕ) → Type 0
Carries m before after =
    (step x y i j : ℕ) → AreBeside step x y i j → (x < m.width) × (y < m.height) → (i < m.width) × (j < m.height)
    → AreWithinStep step (before x y) (before i j) → AreWithinStep step (after x y) (after i j)

pub block_carried : (m : Grid) (before after : ℕ → ℕ → ℕ) → Carries m before after → (x y : ℕ) → KeepsBlockAt m before x y → KeepsBlockAt m after x y
block_carried m before after carries x y keeps =
    let on : (i j : ℕ) → Alike (ground_at m x y) (ground_at m i j) → ((x < m.width) × (y < m.height)) × ((i < m.width) × (j < m.height)) =
    λ i j h. (on_map m x y h.0, on_map m i j (flip (ground_at m x y) (ground_at m i j) h).0) in (
      λ same.
          let both = on (x + 1) y (alike_from (ground_at m x y) (ground_at m (x + 1) y) same) in
          carries 6625109 x y (x + 1) y (inl (refl, omega arith)) both.0 both.1 (keeps.0 same),
      λ same.
          let both = on x (y + 1) (alike_from (ground_at m x y) (ground_at m x (y + 1)) same) in
          carries 6625109 x y x (y + 1) (inl (refl, omega arith)) both.0 both.1 (keeps.1 same),
      λ same.
          let beside = on (x + 1) y (alike_from (ground_at m x y) (ground_at m (x + 1) y) same.0) in
          let below = on x (y + 1) (alike_from (ground_at m x y) (ground_at m x (y + 1)) same.1) in
          let across = on (x + 1) (y + 1) (alike_from (ground_at m x y) (ground_at m (x + 1) (y + 1)) same.2) in
          let within = keeps.2 same in (
            carries 9369319 x y (x + 1) (y + 1) (inr (refl, omega arith, omega arith)) across.0 across.1 within.0,
            carries 9369319 (x + 1) y x (y + 1) (inr (refl, omega arith, omega arith)) beside.1 below.1 within.1,
          ),
    )

-- where a search found no keys, each block keeps
pub beyond_block : (m : Grid) (entries : Entries) (left right x y : ℕ) → IsBeyond entries m.width left right y → left ≤ x → x < right
    → KeepsBlockAt m (number_on entries m.width) x y
beyond_block m entries left right x y beyond least less =
    let b = beyond.0 in
    let near : (step u v i j : ℕ) → left ≤ u → u ≤ right → y ≤ v → v ≤ y + 1 → left ≤ i → i ≤ right → y ≤ j → j ≤ y + 1 → AreBeside step u v i j
    → AreWithinStep step (number_on entries m.width u v) (number_on entries m.width i j) =
    λ step u v i j u_least u_most v_least v_most i_least i_most j_least j_most beside.
    subst (λ k. AreWithinStep step k (number_on entries m.width i j)) (sym (beyond.1 u v u_least u_most v_least v_most))
    (subst (AreWithinStep step (beyond_number b u v)) (sym (beyond.1 i j i_least i_most j_least j_most)) (beyond_near b step u v i j beside)) in (
      λ same. near 6625109 x y (x + 1) y (omega arith) (omega arith) (omega arith) (omega arith) (omega arith) (omega arith) (omega arith) (omega arith) (inl (refl, omega arith)),
      λ same. near 6625109 x y x (y + 1) (omega arith) (omega arith) (omega arith) (omega arith) (omega arith) (omega arith) (omega arith) (omega arith) (inl (refl, omega arith)),
      λ same. (
        near 9369319 x y (x + 1) (y + 1) (omega arith) (omega arith) (omega arith) (omega arith) (omega arith) (omega arith) (omega arith) (omega arith) (inr (refl, omega arith, omega arith)),
        near 9369319 (x + 1) y x (y + 1) (omega arith) (omega arith) (omega arith) (omega arith) (omega arith) (omega arith) (omega arith) (omega arith) (inr (refl, omega arith, omega arith)),
      ),
    )

-- ---- a tight table keeps each block

diagonal_from_same : (m : Grid) (u v : Cell) → AreNext u.x v.x → AreNext u.y v.y
    → Alike (ground_at m u.x u.y) (ground_at m u.x v.y) → Alike (ground_at m u.x v.y) (ground_at m v.x v.y)
    → Alike (ground_at m u.x u.y) (ground_at m v.x u.y) → Alike (ground_at m v.x u.y) (ground_at m v.x v.y)
    → IsDiagonalStep m u v
diagonal_from_same m u v columns rows first first_on second second_on =
    let below : Cell = record { x = u.x; y = v.y } in
    let beside : Cell = record { x = v.x; y = u.y } in
    record {
      columns = columns;
      rows = rows;
      first = step_from_same m u below (inl (refl, rows)) first;
      first_on = step_from_same m below v (inr (refl, columns)) first_on;
      second = step_from_same m u beside (inr (refl, columns)) second;
      second_on = step_from_same m beside v (inl (refl, rows)) second_on;
    }

pub block_from_tight : (m : Grid) (table : List (Option Length)) → IsTight m table → (x y : ℕ)
    → KeepsBlock (corner_at m (entry_number table m.width) x y) (corner_at m (entry_number table m.width) (x + 1) y) (corner_at m (entry_number table m.width) x (y + 1))
    (corner_at m (entry_number table m.width) (x + 1) (y + 1))
block_from_tight m table tight x y =
    let a : Cell = record { x = x; y = y } in
    let b : Cell = record { x = x + 1; y = y } in
    let c : Cell = record { x = x; y = y + 1 } in
    let d : Cell = record { x = x + 1; y = y + 1 } in
    let p = ground_at m x y in
    let q = ground_at m (x + 1) y in
    let r = ground_at m x (y + 1) in
    let s = ground_at m (x + 1) (y + 1) in (
      λ same. let h = alike_from p q same in within_from 1 0 (entry_of m table a) (entry_of m table b) (omega arith) (
        tight.straight a b (step_from_same m a b (inr (refl, inr refl)) h),
        tight.straight b a (step_from_same m b a (inr (refl, inl refl)) (flip p q h)),
      ),
      λ same. let h = alike_from p r same in within_from 1 0 (entry_of m table a) (entry_of m table c) (omega arith) (
        tight.straight a c (step_from_same m a c (inl (refl, inr refl)) h),
        tight.straight c a (step_from_same m c a (inl (refl, inl refl)) (flip p r h)),
      ),
      λ same.
          let pq = alike_from p q same.0 in
          let pr = alike_from p r same.1 in
          let ps = alike_from p s same.2 in
          let qs = via p q s pq ps in
          let rs = via p r s pr ps in
          let qp = flip p q pq in
          let rp = flip p r pr in
          let sq = flip q s qs in
          let sr = flip r s rs in (
            within_from 0 1 (entry_of m table a) (entry_of m table d) (omega arith) (
              tight.diagonal a d (diagonal_from_same m a d (inr refl) (inr refl) pr rs pq qs),
              tight.diagonal d a (diagonal_from_same m d a (inl refl) (inl refl) sq qp sr rp),
            ),
            within_from 0 1 (entry_of m table b) (entry_of m table c) (omega arith) (
              tight.diagonal b c (diagonal_from_same m b c (inl refl) (inr refl) qs sr qp pr),
              tight.diagonal c b (diagonal_from_same m c b (inr refl) (inl refl) rp pq rs sq),
            ),
          ),
    )

-- ---- a table of which each block keeps is tight

abbrev pub AllBlocks : Grid → List (Option Length) → Type 0
AllBlocks m table = (y : ℕ) → y < m.height → (x : ℕ) → x < m.width → KeepsBlockAt m (entry_number table m.width) x y

side_right : (m : Grid) (table : List (Option Length)) → AllBlocks m table → (x y i j : ℕ) → i ≡ x + 1 → j ≡ y
    → KeepsSide (corner_at m (entry_number table m.width) x y) (corner_at m (entry_number table m.width) i j)
side_right m table rows x y i j e f same =
    let on = on_map m x y (alike_from (ground_at m x y) (ground_at m i j) same).0 in
    let keeps = rows y on.1 x on.0 in
    subst (λ k. KeepsSide (corner_at m (entry_number table m.width) x y) (corner_at m (entry_number table m.width) k j)) (sym e)
    (subst (λ k. KeepsSide (corner_at m (entry_number table m.width) x y) (corner_at m (entry_number table m.width) (x + 1) k)) (sym f) keeps.0) same

side_below : (m : Grid) (table : List (Option Length)) → AllBlocks m table → (x y i j : ℕ) → i ≡ x → j ≡ y + 1
    → KeepsSide (corner_at m (entry_number table m.width) x y) (corner_at m (entry_number table m.width) i j)
side_below m table rows x y i j e f same =
    let on = on_map m x y (alike_from (ground_at m x y) (ground_at m i j) same).0 in
    let keeps = rows y on.1 x on.0 in
    subst (λ k. KeepsSide (corner_at m (entry_number table m.width) x y) (corner_at m (entry_number table m.width) k j)) (sym e)
    (subst (λ k. KeepsSide (corner_at m (entry_number table m.width) x y) (corner_at m (entry_number table m.width) x k)) (sym f) keeps.1) same

abbrev Diagonals : Grid → List (Option Length) → (x y i j : ℕ) → Type 0
Diagonals m table x y i j =
    Alike (ground_at m x y) (ground_at m i y) → Alike (ground_at m x y) (ground_at m x j)
    → Alike (ground_at m x y) (ground_at m i j)
    → AreWithinStep 9369319 (corner_at m (entry_number table m.width) x y).key (corner_at m (entry_number table m.width) i j).key
    × AreWithinStep 9369319 (corner_at m (entry_number table m.width) i y).key (corner_at m (entry_number table m.width) x j).key

diagonals : (m : Grid) (table : List (Option Length)) → AllBlocks m table → (x y i j : ℕ) → i ≡ x + 1 → j ≡ y + 1 → Diagonals m table x y i j
diagonals m table rows x y i j e f =
    subst (λ k. Diagonals m table x y k j) (sym e) (subst (λ k. Diagonals m table x y (x + 1) k) (sym f)
    (λ beside below across.
    let here = ground_at m x y in
    let on = on_map m x y beside.0 in
    (rows y on.1 x on.0).2
    (same_from here (ground_at m (x + 1) y) beside, same_from here (ground_at m x (y + 1)) below, same_from here (ground_at m (x + 1) (y + 1)) across)))

straight_bounds : (p q : Option Length) → AreWithinStep 6625109 (number_of_entry p) (number_of_entry q) → BoundEachOther 1 0 p q
straight_bounds p q h = from_within 1 0 p q (omega arith) (omega arith) h

diagonal_bounds : (p q : Option Length) → AreWithinStep 9369319 (number_of_entry p) (number_of_entry q) → BoundEachOther 0 1 p q
diagonal_bounds p q h = from_within 0 1 p q (omega arith) (omega arith) h

straight_by : (m : Grid) (table : List (Option Length)) → AllBlocks m table → (u v : Cell) → IsStraightStep m u v → ShareSide u v
    → Bounds 1 0 (entry_of m table u) (entry_of m table v)
straight_by m table rows u v step (inl (e, inl f)) =
    let same = same_from (ground_at m v.x v.y) (ground_at m u.x u.y) (flip (ground_at m u.x u.y) (ground_at m v.x v.y) (same_from_step m u v step)) in
    (straight_bounds (entry_of m table v) (entry_of m table u) (side_below m table rows v.x v.y u.x u.y e f same)).1
straight_by m table rows u v step (inl (e, inr f)) =
    (straight_bounds (entry_of m table u) (entry_of m table v) (side_below m table rows u.x u.y v.x v.y (sym e) f
    (same_from (ground_at m u.x u.y) (ground_at m v.x v.y) (same_from_step m u v step)))).0
straight_by m table rows u v step (inr (e, inl f)) =
    let same = same_from (ground_at m v.x v.y) (ground_at m u.x u.y) (flip (ground_at m u.x u.y) (ground_at m v.x v.y) (same_from_step m u v step)) in
    (straight_bounds (entry_of m table v) (entry_of m table u) (side_right m table rows v.x v.y u.x u.y f e same)).1
straight_by m table rows u v step (inr (e, inr f)) =
    (straight_bounds (entry_of m table u) (entry_of m table v) (side_right m table rows u.x u.y v.x v.y f (sym e)
    (same_from (ground_at m u.x u.y) (ground_at m v.x v.y) (same_from_step m u v step)))).0

diagonal_by : (m : Grid) (table : List (Option Length)) → AllBlocks m table → (u v : Cell) → IsDiagonalStep m u v → AreNext u.x v.x → AreNext u.y v.y
    → Bounds 0 1 (entry_of m table u) (entry_of m table v)
diagonal_by m table rows u v step columns lines =
    let below : Cell = record { x = u.x; y = v.y } in
    let beside : Cell = record { x = v.x; y = u.y } in
    let p = ground_at m u.x u.y in
    let q = ground_at m u.x v.y in
    let r = ground_at m v.x u.y in
    let s = ground_at m v.x v.y in
    let pq = same_from_step m u below step.first in
    let qs = same_from_step m below v step.first_on in
    let pr = same_from_step m u beside step.second in
    let rs = same_from_step m beside v step.second_on in
    let ps = round p q s pq qs in
    elim columns [
      | inl left ↦ elim lines [
        | inl up ↦ (diagonal_bounds (entry_of m table v) (entry_of m table u)
            (diagonals m table rows v.x v.y u.x u.y left up (flip q s qs) (flip r s rs) (flip p s ps)).0).1
        | inr down ↦ (diagonal_bounds (entry_of m table u) (entry_of m table v)
            (diagonals m table rows v.x u.y u.x v.y left down (flip p r pr) rs (round r p q (flip p r pr) pq)).1).0
      ]
      | inr right ↦ elim lines [
        | inl up ↦ (diagonal_bounds (entry_of m table v) (entry_of m table u)
            (diagonals m table rows u.x v.y v.x u.y right up qs (flip p q pq) (round q p r (flip p q pq) pr)).1).1
        | inr down ↦ (diagonal_bounds (entry_of m table u) (entry_of m table v)
            (diagonals m table rows u.x u.y v.x v.y right down pr pq ps).0).0
      ]
    ]

pub tight_from_blocks : (m : Grid) (table : List (Option Length)) → AllBlocks m table → IsTight m table
tight_from_blocks m table rows = record {
  straight = λ u v step. straight_by m table rows u v step step.side;
  diagonal = λ u v step. diagonal_by m table rows u v step step.columns step.rows;
}
