-- Lists to which one is added, in which one is set, and from which one is removed.
use Rattle.std.proofs.Common.{◌≡◌, ◌≢◌, ◌∙◌, ℕ, ◌+◌, ◌-◌, ◌<◌, ◌≤◌, ◌⊎◌, List, [], ◌∷◌, ◌++◌, length, Some, inl, inr, arith, refl, sym, ap, subst}
use Rattle.std.specs.Prelude.{slice_get, slice_set}
use Rattle.std.specs.List.{swap_remove}
use Rattle.std.proofs.lemmas.Bool.{cases_lt, cases_order}
use Rattle.std.proofs.Math.ListN.{get_or}
use Rattle.std.proofs.lemmas.List.{get_or-set_other, get_or-set_same, get_or-take, get_or_append_left, get_or_push, length-append, length-set, length-take-le}
use Rattle.std.proofs.lemmas.Option.{get_or_from_slice_get, same_Some, slice_get-get_or, slice_get_past, slice_get_within}
use Rattle.text_io.specs.Laws.Lists.{set_here, set_there}

pub get-left : {A : Type 0} (xs : List A) (x : A) (i : ℕ) (y : A) → slice_get xs i ≡ Some y → slice_get (xs ++ x ∷ []) i ≡ Some y
get-left xs x i y is =
    let within = slice_get_within xs i y is in
    let all = length-append xs (x ∷ []) in
    slice_get-get_or (xs ++ x ∷ []) i y (omega (arith, within, all)) ∙ ap Some (get_or_append_left xs (x ∷ []) y i within ∙ get_or_from_slice_get xs i y y is)

pub get-last : {A : Type 0} (xs : List A) (x : A) → slice_get (xs ++ x ∷ []) (length xs) ≡ Some x
get-last xs x =
    let all = length-append xs (x ∷ []) in
    slice_get-get_or (xs ++ x ∷ []) (length xs) x (omega (arith, all)) ∙ ap Some (get_or_push xs x x (length xs) refl)

-- each is the new one, or was there
pub get-added : {A : Type 0} (xs : List A) (x : A) (i : ℕ) (y : A) → slice_get (xs ++ x ∷ []) i ≡ Some y → (x ≡ y) ⊎ (slice_get xs i ≡ Some y)
get-added xs x i y is =
    let within = slice_get_within (xs ++ x ∷ []) i y is in
    let all = length-append xs (x ∷ []) in
    elim (cases_lt i (length xs)) [
      | inl old ↦
          inr (slice_get-get_or xs i y old
          ∙ ap Some (sym (get_or_append_left xs (x ∷ []) y i old) ∙ get_or_from_slice_get (xs ++ x ∷ []) i y y is))
      | inr past ↦
          let last : length xs ≡ i = omega (arith, within, all, past) in
          inl (same_Some x y (sym (get-last xs x) ∙ ap (slice_get (xs ++ x ∷ [])) last ∙ is))
    ]

-- one more place
pub at_or_before : {A : Type 0} (P : A → Type 0) (xs : List A) (i : ℕ) (d : A) → i < length xs → ((k : ℕ) (x : A) → k < i → slice_get xs k ≡ Some x → P x)
    → ((x : A) → slice_get xs i ≡ Some x → P x) → (k : ℕ) (x : A) → k < i + 1 → slice_get xs k ≡ Some x → P x
at_or_before P xs i d within before here k x less is = elim (cases_lt k i) [
  | inl earlier ↦ before k x earlier is
  | inr past ↦ let same : k ≡ i = omega (arith, less, past) in here x (sym (ap (slice_get xs) same) ∙ is)
]

pub differ : (i j : ℕ) → (i < j) ⊎ (j < i) → i ≢ j
differ i j (inl less) same = omega (arith, less, same)
differ i j (inr more) same = omega (arith, more, same)

-- ---- a list from which one is removed, and the last comes into its place

module _ {A : Type 0} (xs : List A) (i : ℕ) (d : A) (within : i < length xs) where
  abbrev last : A
  last = get_or xs (length xs - 1) d

  count : length xs - 1 ≤ length (slice_set xs i last)
  count = let same = length-set xs i last in omega (arith, same)

  short : length (swap_remove xs i d) ≡ length xs - 1
  short = length-take-le (length xs - 1) (slice_set xs i last) count

  reads : (k : ℕ) → k < length xs - 1 → slice_get (swap_remove xs i d) k ≡ slice_get (slice_set xs i last) k
  reads k less =
      slice_get-get_or (swap_remove xs i d) k d (omega (arith, short, less))
      ∙ ap Some (get_or-take (length xs - 1) (slice_set xs i last) k d less)
      ∙ sym (slice_get-get_or (slice_set xs i last) k d (omega (arith, count, less)))

  at_end : slice_get xs (length xs - 1) ≡ Some last
  at_end = slice_get-get_or xs (length xs - 1) d (omega (arith, within))

  -- each other one is still there
  pub still-there : (j : ℕ) (x : A) → slice_get xs j ≡ Some x → (j ≡ i) ⊎ ((k : ℕ) × (slice_get (swap_remove xs i d) k ≡ Some x))
  still-there j x is = elim (cases_order j i) [
    | inl same ↦ inl same
    | inr other ↦ elim (cases_lt j (length xs - 1)) [
      | inl before ↦ inr (j, reads j before ∙ set_there xs i j last (differ j i other) ∙ is)
      | inr past ↦
          let inside = slice_get_within xs j x is in
          let at : j ≡ length xs - 1 = omega (arith, inside, past) in
          inr (i, reads i (less j at other) ∙ set_here xs i last within ∙ sym at_end ∙ ap (slice_get xs) (sym at) ∙ is)
    ]
  ]
    where
      less : (j : ℕ) → j ≡ length xs - 1 → (j < i) ⊎ (i < j) → i < length xs - 1
      less j at (inl h) = omega (arith, at, h, within)
      less j at (inr h) = omega (arith, at, h)

  -- and each was
  pub was-there : (k : ℕ) (x : A) → slice_get (swap_remove xs i d) k ≡ Some x → (j : ℕ) × (slice_get xs j ≡ Some x)
  was-there k x is =
      let inside = slice_get_within (swap_remove xs i d) k x is in
      let less : k < length xs - 1 = omega (arith, inside, short) in
      elim (cases_order k i) [
        | inl same ↦ (length xs - 1, at_end ∙ sym (set_here xs i last within) ∙ ap (slice_get (slice_set xs i last)) (sym same) ∙ sym (reads k less) ∙ is)
        | inr other ↦ (k, sym (set_there xs i k last (differ k i other)) ∙ sym (reads k less) ∙ is)
      ]
