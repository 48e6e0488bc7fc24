-- A table is tight exactly where the numbers of its cells keep.
use Rattle.std.proofs.Common.{◌≡◌, ℕ, ◌+◌, ◌*◌, ◌/◌, ◌%◌, ◌^◌, ◌<◌, ◌≤◌, Bool, true, false, cond, List, [], ◌∷◌, Vec, Global, length, get_or, map, None, arith, refl, sym, ap, subst, ◌∙◌}
use Rattle.std.specs.Prelude.{Option, ◌&&◌, nat_lt, nat_eq}
use Rattle.std.proofs.lemmas.Bool.{and_parts, ltb-true, cond-true, eqb-true, eq-eqb}
use Rattle.std.proofs.lemmas.List.{get_or_past, get_or-map, length-map}
use Rattle.std.proofs.lemmas.List.FromFn.{length-map-range_with_len, get_or-map-range_with_len}
use Rattle.std.proofs.lemmas.Nat.{div-mul-add, mod-mul-add}
use Rattle.grid.specs.Map.{Grid}
use Rattle.walks.specs.declared.keys.Key.{Key}
use Rattle.scenario.specs.declared.length.Length.{Length}
use Rattle.walks.specs.declared.tiles.Tiles.{Tiles}
use Rattle.walks.specs.declared.length_table.Entries.{Entries}
use Rattle.walks.specs.declared.length_table.Entries.TheVariants.{Listed, Found}
use Rattle.walks.specs.Certificate.{IsTight}
use Rattle.walks.specs.Code.KeyParts.{number_of_entry, number_within, length_of_number, length_of_parts, straight_in, diagonal_in}
use Rattle.walks.specs.Code.TileKeys.{number_at, place_entry, length_from}
use Rattle.walks.specs.Code.TableEntries.{table_entries, entry_number, number_on, number_as}
use Rattle.walks.specs.Code.Tightness.{AreWithinStep, KeepsBlockAt}
use Rattle.std.proofs.lemmas.Simd.{map-map}
use Rattle.walks.proofs.KeyNumbers.{length_back, number_back}
use Rattle.walks.proofs.TileLemmas.{cells_tell}
use Rattle.walks.proofs.TightTables.{Carries, block_carried, block_from_tight, tight_from_blocks, place_within}

-- ---- the entries of all places

pub found-length : (t : Tiles) → length (table_entries (Found t)) ≡ t.width * t.height
unfolding table_entries
found-length t = length-map-range_with_len (place_entry t) 0 (t.width * t.height)

pub listed-length : (keys : Vec Key Global) → length (table_entries (Listed keys)) ≡ length keys.items
unfolding table_entries
listed-length keys = length-map keys.items (λ k. length_of_number k.value)

pub listed_here : (keys : Vec Key Global) (place : ℕ) (key : Key) → place < length keys.items → key ≡ get_or keys.items place key
    → get_or (table_entries (Listed keys)) place None ≡ length_of_number key.value
unfolding table_entries
listed_here keys place key inside is =
    get_or-map (λ k. length_of_number k.value) keys.items place key None inside ∙ ap (λ k. length_of_number k.value) (sym is)

pub listed_past : (keys : Vec Key Global) (place : ℕ) → length keys.items ≤ place → get_or (table_entries (Listed keys)) place None ≡ None
listed_past keys place past = let e = listed-length keys in get_or_past (table_entries (Listed keys)) place None (omega (arith, e, past))

pub found_past : (t : Tiles) (place : ℕ) → t.width * t.height ≤ place → get_or (table_entries (Found t)) place None ≡ None
found_past t place past = let e = found-length t in get_or_past (table_entries (Found t)) place None (omega (arith, e, past))

kept_by : (v : ℕ) (o : Option Length) (b : Bool) → (b ≡ true → number_of_entry o ≡ v) → number_of_entry (cond b o None) ≡ cond b v (2 ^ 62)
kept_by v o true h = h refl
kept_by v o false h = refl

-- the number of the length of a key
pub number_kept : (k : Key) → number_of_entry (length_of_number k.value) ≡ number_within (2 ^ 62) k.value
unfolding length_of_number
number_kept k =
    let v = k.value in
    let inside = nat_lt 0 v && nat_lt v (2 ^ 62) in
    kept_by v (length_of_parts (straight_in v) (diagonal_in v)) inside
    (λ h.
    let parts = and_parts (nat_lt 0 v) (nat_lt v (2 ^ 62)) h in
    let some = ltb-true 0 v parts.0 in
    let small = ltb-true v (2 ^ 62) parts.1 in
    sym (ap number_of_entry (cond-true inside (length_of_parts (straight_in v) (diagonal_in v)) None h)) ∙ number_back v (k.of_length some small) some small)

-- the tiles of a map of another width tell nothing of its cells
pub other_width : (t : Tiles) (width x y : ℕ) → (t.width ≡ width → ⊥) → number_on (Found t) width x y ≡ entry_number (table_entries (Found t)) width x y
other_width t width x y other = by_test (nat_eq t.width width) refl where
  by_test : (b : Bool) → nat_eq t.width width ≡ b → number_as b t (table_entries (Found t)) width x y ≡ entry_number (table_entries (Found t)) width x y
  by_test true e = absurd (other (eqb-true t.width width e))
  by_test false e = refl

pub same_width : (t : Tiles) (width x y : ℕ) → t.width ≡ width → number_on (Found t) width x y ≡ number_at t x y
same_width t width x y same = ap (λ b. number_as b t (table_entries (Found t)) width x y) (eq-eqb t.width width same)

pub found_here : (t : Tiles) (place : ℕ) → place < t.width * t.height → get_or (table_entries (Found t)) place None ≡ place_entry t place
unfolding table_entries
found_here t place within = get_or-map-range_with_len (place_entry t) 0 (t.width * t.height) place place None within (omega arith)

all_back : (es : List (Option Length)) → map (λ e. length_of_number (number_of_entry e)) es ≡ es
all_back [] = refl
all_back (e ∷ es) = ap (λ f. f ∷ map (λ e. length_of_number (number_of_entry e)) es) (length_back e) ∙ ap (λ l. e ∷ l) (all_back es)

pub entries_back : (keys : Vec Key Global) (es : List (Option Length)) → map (λ k. k.value) keys.items ≡ map number_of_entry es → table_entries (Listed keys) ≡ es
unfolding table_entries
entries_back keys es same =
    sym (map-map length_of_number (λ k. k.value) keys.items) ∙ ap (map length_of_number) same ∙ map-map length_of_number number_of_entry es ∙ all_back es

-- ---- cells and places

told_at : (t : Tiles) (m : Grid) (x y : ℕ) → t.width ≡ m.width → length (table_entries (Found t)) ≡ m.width * m.height → x < m.width → y < m.height
    → entry_number (table_entries (Found t)) m.width x y ≡ number_of_entry (length_from (number_at t x y))
told_at t m x y same cells column row =
    let long = found-length t in
    let within = place_within x y m.width m.height column row in
    let inside : y * m.width + x < t.width * t.height = omega (arith, cells, long, within) in
    let row_of : (y * m.width + x) / t.width ≡ y = ap (λ w. (y * m.width + x) / w) same ∙ div-mul-add y m.width x column in
    let column_of : (y * m.width + x) % t.width ≡ x = ap (λ w. (y * m.width + x) % w) same ∙ mod-mul-add y m.width x column in
    ap number_of_entry (found_here t (y * m.width + x) inside ∙ ap (λ i. length_from (number_at t i ((y * m.width + x) / t.width))) column_of
    ∙ ap (λ j. length_from (number_at t x j)) row_of)

-- ---- the numbers of cells, and those of their entries

tell_both : (step a b p q : ℕ) → a ≡ p → b ≡ q → AreWithinStep step p q → AreWithinStep step a b
tell_both step a b p q e f h = subst (λ k. AreWithinStep step k b) (sym e) (subst (AreWithinStep step p) (sym f) h)

forth_by : (m : Grid) (t : Tiles) (b : Bool) → nat_eq t.width m.width ≡ b → length (table_entries (Found t)) ≡ m.width * m.height
    → Carries m (entry_number (table_entries (Found t)) m.width) (number_as b t (table_entries (Found t)) m.width)
forth_by m t false e cells step x y i j beside here there h = h
forth_by m t true e cells step x y i j beside here there h =
    let same = eqb-true t.width m.width e in
    (cells_tell t step x y i j beside).0
    (tell_both step _ _ _ _ (sym (told_at t m x y same cells here.0 here.1)) (sym (told_at t m i j same cells there.0 there.1)) h)

back_by : (m : Grid) (t : Tiles) (b : Bool) → nat_eq t.width m.width ≡ b → length (table_entries (Found t)) ≡ m.width * m.height
    → Carries m (number_as b t (table_entries (Found t)) m.width) (entry_number (table_entries (Found t)) m.width)
back_by m t false e cells step x y i j beside here there h = h
back_by m t true e cells step x y i j beside here there h =
    let same = eqb-true t.width m.width e in
    tell_both step _ _ _ _ (told_at t m x y same cells here.0 here.1) (told_at t m i j same cells there.0 there.1)
    ((cells_tell t step x y i j beside).1 h)

to_numbers : (m : Grid) (entries : Entries) → length (table_entries entries) ≡ m.width * m.height → Carries m (entry_number (table_entries entries) m.width) (number_on entries m.width)
to_numbers m (Listed keys) cells = λ step x y i j beside here there h. h
to_numbers m (Found t) cells = forth_by m t (nat_eq t.width m.width) refl cells

from_numbers : (m : Grid) (entries : Entries) → length (table_entries entries) ≡ m.width * m.height → Carries m (number_on entries m.width) (entry_number (table_entries entries) m.width)
from_numbers m (Listed keys) cells = λ step x y i j beside here there h. h
from_numbers m (Found t) cells = back_by m t (nat_eq t.width m.width) refl cells

-- ---- a table is tight exactly where the numbers of its cells keep

pub blocks_from_tight : (m : Grid) (entries : Entries) → length (table_entries entries) ≡ m.width * m.height → IsTight m (table_entries entries)
    → (x y : ℕ) → KeepsBlockAt m (number_on entries m.width) x y
blocks_from_tight m entries cells tight x y =
    block_carried m (entry_number (table_entries entries) m.width) (number_on entries m.width) (to_numbers m entries cells) x y
    (block_from_tight m (table_entries entries) tight x y)

pub tight_from_numbers : (m : Grid) (entries : Entries) → length (table_entries entries) ≡ m.width * m.height
    → ((y : ℕ) → y < m.height → (x : ℕ) → x < m.width → KeepsBlockAt m (number_on entries m.width) x y) → IsTight m (table_entries entries)
tight_from_numbers m entries cells keeps =
    tight_from_blocks m (table_entries entries)
    (λ y row x column. block_carried m (number_on entries m.width) (entry_number (table_entries entries) m.width) (from_numbers m entries cells) x y (keeps y row x column))
