-- The cells in order, each with its number: each comes once, and a look-up by cell finds its number.
use Rattle.std.proofs.Common.{◌≡◌, ℕ, zero, suc, ◌+◌, ◌<◌, List, [], ◌∷◌, ◌++◌, length, get_or, take, Some, None, true, Bool, inl, inr, arith, refl, sym, ap, ◌∙◌}
use Rattle.std.specs.Prelude.{Option, option_map, slice_get}
use Rattle.std.specs.Map.{lookup}
use Rattle.std.proofs.lemmas.Bool.{cases_Bool}
use Rattle.std.proofs.lemmas.List.{length-map, map_more, length-take-le, get_or-take}
use Rattle.std.proofs.lemmas.Map.Entries.{lookup_head, lookup_tail, place_from_lookup}
use Rattle.std.proofs.lemmas.Option.{slice_get-map, slice_get-get_or, slice_get_within, get_or_from_slice_get, same_Some}
use Rattle.indexmap.specs.IndexMap.{IndexMap, insert_entry}
use Rattle.indexmap.proofs.CallerLemmas.{insert_entry-new}
use Rattle.grid.specs.declared.cell.Cell.{Cell}
use Rattle.depgraph.specs.Code.Numbers.{no_cell, AreDistinct}
use Rattle.depgraph.specs.Code.Orders.{numbered}

-- ---- what stands at a place

abbrev with_number : List Cell → ℕ → Cell × ℕ
with_number names n = (get_or names n no_cell, n)

no_value : {X : Type 0} (x : X) → Some x ≡ None → ⊥
no_value x is = cc

pub numbered-at : (names : List Cell) (order : List ℕ) (m : ℕ) (c : Cell) (n : ℕ) → slice_get (numbered names order) m ≡ Some (c, n) → (slice_get order m ≡ Some n) × (c ≡ get_or names n no_cell)
numbered-at names order m c n at = by (slice_get order m) refl where
  by : (o : Option ℕ) → slice_get order m ≡ o → (slice_get order m ≡ Some n) × (c ≡ get_or names n no_cell)
  by None is = absurd (no_value (c, n) (sym at ∙ slice_get-map (with_number names) order m ∙ ap (option_map (with_number names)) is))
  by (Some x) is =
      let own : with_number names x ≡ (c, n) = same_Some (with_number names x) (c, n) (sym (ap (option_map (with_number names)) is) ∙ sym (slice_get-map (with_number names) order m) ∙ at) in
      let number : x ≡ n = ap (λ p. p.1) own in
      (is ∙ ap Some number, sym (ap (λ p. p.0) own) ∙ ap (λ k. get_or names k no_cell) number)

pub numbered-none : (names : List Cell) (order : List ℕ) (m : ℕ) → slice_get (numbered names order) m ≡ None → slice_get order m ≡ None
numbered-none names order m none = by (slice_get order m) refl where
  by : (o : Option ℕ) → slice_get order m ≡ o → slice_get order m ≡ None
  by None is = is
  by (Some x) is = absurd (no_value (with_number names x) (sym (ap (option_map (with_number names)) is) ∙ sym (slice_get-map (with_number names) order m) ∙ none))

numbered-get : (names : List Cell) (order : List ℕ) (m n : ℕ) → slice_get order m ≡ Some n → slice_get (numbered names order) m ≡ Some (get_or names n no_cell, n)
numbered-get names order m n at = slice_get-map (with_number names) order m ∙ ap (option_map (with_number names)) at

pub length-numbered : (names : List Cell) (order : List ℕ) → length (numbered names order) ≡ length order
length-numbered names order = length-map order (with_number names)

-- ---- where cells are compared

module _ (eq : Cell → Cell → Bool) where
  -- a look-up that finds nothing has passed each entry
  absent : (k : Cell) (entries : List (Cell × ℕ)) → lookup (eq k) entries ≡ None → (m : ℕ) (c : Cell) (n : ℕ) → slice_get entries m ≡ Some (c, n) → eq k c ≡ true → ⊥
  absent k [] none m c n at hit = (let within = slice_get_within {A = Cell × ℕ} [] m (c, n) at in omega (arith, within))
  absent k (e ∷ entries) none zero c n at hit =
      let own : eq k e.0 ≡ true = ap (λ p. eq k p.0) (same_Some e (c, n) at) ∙ hit in
      no_value e.1 (sym (lookup_head (eq k) e entries own) ∙ none)
  absent k (e ∷ entries) none (suc m) c n at hit = elim (cases_Bool (eq k e.0)) [
    | inl found ↦ no_value e.1 (sym (lookup_head (eq k) e entries found) ∙ none)
    | inr other ↦ absent k entries (sym (lookup_tail (eq k) e entries other) ∙ none) m c n at hit
  ]

  pub not_found : (names : List Cell) (order : List ℕ) (k : Cell) → eq k k ≡ true → lookup (eq k) (numbered names order) ≡ None → (m n : ℕ) → slice_get order m ≡ Some n → get_or names n no_cell ≡ k →
      ⊥
  not_found names order k own none m n at is = absent k (numbered names order) none m (get_or names n no_cell) n (numbered-get names order m n at) (ap (eq k) is ∙ own)

  module _ (same : (c d : Cell) → eq c d ≡ true → c ≡ d) where
    pub found : (names : List Cell) (order : List ℕ) (k : Cell) (n : ℕ) → lookup (eq k) (numbered names order) ≡ Some n → (m : ℕ) × (slice_get order m ≡ Some n) × (get_or names n no_cell ≡ k)
    found names order k n is =
        let place = place_from_lookup (eq k) (numbered names order) n is in
        let at = numbered-at names order place.0 place.1 n place.2 in
        (place.0, at.0, sym at.1 ∙ sym (same k place.1 place.3))

    -- each cell goes last
    module _ (names : List Cell) (order : List ℕ) (distinct : AreDistinct names) (known : (m : ℕ) → m < length order → get_or order m 0 < length names)
        (different : (m l n : ℕ) → slice_get order m ≡ Some n → slice_get order l ≡ Some n → m ≡ l) where
      is_new_at : (i : ℕ) (k : Cell) → i < length order → slice_get names (get_or order i 0) ≡ Some k → (o : Option ℕ) → lookup (eq k) (numbered names (take i order)) ≡ o
          → lookup (eq k) (numbered names (take i order)) ≡ None
      is_new_at i k less named None is = is
      is_new_at i k less named (Some n) is =
          let place = found names (take i order) k n is in
          let j = place.0 in
          let inside = slice_get_within (take i order) j n place.1 in
          let long = length-take-le i order (omega (arith, less)) in
          let before : j < i = omega (arith, inside, long) in
          let at : slice_get order j ≡ Some n
          = slice_get-get_or order j 0 (omega (arith, before, less)) ∙ ap Some (sym (get_or-take i order j 0 before) ∙ get_or_from_slice_get (take i order) j n 0 place.1) in
          let within = known j (omega (arith, before, less)) in
          let is_n = get_or_from_slice_get order j n 0 at in
          let one : n ≡ get_or order i 0 = distinct n (get_or order i 0) k (slice_get-get_or names n no_cell (omega (arith, within, is_n)) ∙ ap Some place.2) named in
          let never = different j i n at (slice_get-get_or order i 0 less ∙ ap Some (sym one)) in
          absurd (omega (arith, never, before))

      is_new : (i : ℕ) → i < length order → lookup (eq (get_or names (get_or order i 0) no_cell)) (numbered names (take i order)) ≡ None
      is_new i less =
          is_new_at i (get_or names (get_or order i 0) no_cell) less (slice_get-get_or names (get_or order i 0) no_cell (known i less))
          (lookup (eq (get_or names (get_or order i 0) no_cell)) (numbered names (take i order))) refl

      pub one_more : {S : Type 0} (m : IndexMap Cell ℕ S) (i : ℕ) → i < length order → m.entries ≡ numbered names (take i order)
          → insert_entry eq m.entries (get_or names (get_or order i 0) no_cell) (get_or order i 0) ≡ numbered names (take (i + 1) order)
      one_more m i less are =
          insert_entry-new eq m (get_or names (get_or order i 0) no_cell) (get_or order i 0) (ap (lookup (eq (get_or names (get_or order i 0) no_cell))) are ∙ is_new i less)
          ∙ ap (λ l. l ++ with_number names (get_or order i 0) ∷ []) are
          ∙ sym (map_more (with_number names) order i 0 less)
