-- A list in which one is replaced, or to which one is added.
use Rattle.std.proofs.Common.{◌≡◌, ◌≢◌, ◌∙◌, ℕ, ◌<◌, ◌≤◌, ◌⊎◌, List, [], ◌∷◌, ◌++◌, get_or, length, Some, inl, inr, arith, refl, sym, ap, subst}
use Rattle.std.specs.Prelude.{slice_get, slice_set}
use Rattle.std.proofs.lemmas.Bool.{cases_lt, cases_order}
use Rattle.std.proofs.lemmas.List.{get_or_append_left, get_or_push, get_or-set_other, get_or-set_same, length-append, length-set}
use Rattle.std.proofs.lemmas.Option.{get_or_from_slice_get, same_Some, slice_get-get_or, slice_get_past, slice_get_within}

-- ---- one is replaced

pub get-set_same : {A : Type 0} (xs : List A) (i : ℕ) (x : A) → i < length xs → slice_get (slice_set xs i x) i ≡ Some x
get-set_same xs i x within =
    slice_get-get_or (slice_set xs i x) i x (subst (λ k. i < k) (sym (length-set xs i x)) within) ∙ ap Some (get_or-set_same xs i x x within)

pub get-set_other : {A : Type 0} (xs : List A) (i j : ℕ) (x : A) → j ≢ i → slice_get (slice_set xs i x) j ≡ slice_get xs j
get-set_other xs i j x differs = elim (cases_lt j (length xs)) [
  | inl within ↦
      slice_get-get_or (slice_set xs i x) j x (subst (λ k. j < k) (sym (length-set xs i x)) within)
      ∙ ap Some (get_or-set_other xs i j x x differs) ∙ sym (slice_get-get_or xs j x within)
  | inr past ↦ slice_get_past (slice_set xs i x) j (subst (λ k. k ≤ j) (sym (length-set xs i x)) past) ∙ sym (slice_get_past xs j past)
]

pub differs : (i j : ℕ) → (i < j) ⊎ (j < i) → i ≢ j
differs i j (inl less) same = omega (arith, less, same)
differs i j (inr more) same = omega (arith, more, same)

-- each is the new one, or as it was
pub get-set : {A : Type 0} (xs : List A) (i j : ℕ) (x y : A) → i < length xs → slice_get (slice_set xs i x) j ≡ Some y
    → ((j ≡ i) × (x ≡ y)) ⊎ (slice_get xs j ≡ Some y)
get-set xs i j x y within is = elim (cases_order j i) [
  | inl same ↦ inl (same, same_Some x y (sym (get-set_same xs i x within) ∙ ap (slice_get (slice_set xs i x)) (sym same) ∙ is))
  | inr other ↦ inr (sym (get-set_other xs i j x (differs j i other)) ∙ is)
]

-- ---- one is added

pub get-left : {A : Type 0} (xs : List A) (x : A) (i : ℕ) (y : A) → slice_get xs i ≡ Some y → slice_get (xs ++ x ∷ []) i ≡ Some y
get-left xs x i y is =
    let within = slice_get_within xs i y is in
    let all = length-append xs (x ∷ []) in
    slice_get-get_or (xs ++ x ∷ []) i y (omega (arith, within, all)) ∙ ap Some (get_or_append_left xs (x ∷ []) y i within ∙ get_or_from_slice_get xs i y y is)

pub get-last : {A : Type 0} (xs : List A) (x : A) → slice_get (xs ++ x ∷ []) (length xs) ≡ Some x
get-last xs x =
    let all = length-append xs (x ∷ []) in
    slice_get-get_or (xs ++ x ∷ []) (length xs) x (omega (arith, all)) ∙ ap Some (get_or_push xs x x (length xs) refl)

-- each is the new one, or was there
pub get-added : {A : Type 0} (xs : List A) (x : A) (i : ℕ) (y : A) → slice_get (xs ++ x ∷ []) i ≡ Some y
    → ((i ≡ length xs) × (x ≡ y)) ⊎ (slice_get xs i ≡ Some y)
get-added xs x i y is =
    let within = slice_get_within (xs ++ x ∷ []) i y is in
    let all = length-append xs (x ∷ []) in
    elim (cases_lt i (length xs)) [
      | inl old ↦
          inr (slice_get-get_or xs i y old
          ∙ ap Some (sym (get_or_append_left xs (x ∷ []) y i old) ∙ get_or_from_slice_get (xs ++ x ∷ []) i y y is))
      | inr past ↦
          let last : length xs ≡ i = omega (arith, within, all, past) in
          inl (sym last, same_Some x y (sym (get-last xs x) ∙ ap (slice_get (xs ++ x ∷ [])) last ∙ is))
    ]

-- what an index finds is there
pub read : {A : Type 0} (xs : List A) (i : ℕ) (x y : A) → i < length xs → x ≡ get_or xs i y → slice_get xs i ≡ Some x
read xs i x y within is = slice_get-get_or xs i y within ∙ ap Some (sym is)
