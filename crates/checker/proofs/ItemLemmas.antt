-- Items of lists of faults: where one stands after a push, and two rising lists of the same items.
use Rattle.std.proofs.Common.{◌≡◌, ℕ, zero, suc, ◌<◌, ◌≤◌, List, [], ◌∷◌, ◌++◌, length, take, Some, inl, inr, arith, refl, sym, ap, subst, ◌∙◌}
use Rattle.std.specs.Prelude.{◌⊎◌, slice_get}
use Rattle.std.proofs.lemmas.Bool.{cases_lt}
use Rattle.std.proofs.lemmas.List.{take_all, take_at, take-append-le, length-take-le}
use Rattle.std.proofs.lemmas.Option.{same_Some, none-some}
use Rattle.model.specs.declared.plan_fault.PlanFault.{PlanFault}
use Rattle.model.specs.Plan.{key_of, IsBefore}
use Rattle.checker.proofs.KeyLemmas.{before_trans, not_before}

-- ---- a push

pub which_pushed : (xs : List PlanFault) (y : PlanFault) (n : ℕ) (x : PlanFault) → slice_get (xs ++ y ∷ []) n ≡ Some x
    → (slice_get xs n ≡ Some x) ⊎ ((n ≡ length xs) × (x ≡ y))
which_pushed [] y zero x h = inr (refl, sym (same_Some y x h))
which_pushed [] y (suc n) x h = absurd (none-some x h)
which_pushed (z ∷ xs) y zero x h = inl h
which_pushed (z ∷ xs) y (suc n) x h = elim (which_pushed xs y n x h) [
  | inl before ↦ inl before
  | inr last ↦ inr ((let e = last.0 in omega (arith, e)), last.1)
]

pub kept_pushed : (xs ys : List PlanFault) (n : ℕ) (x : PlanFault) → slice_get xs n ≡ Some x → slice_get (xs ++ ys) n ≡ Some x
kept_pushed [] ys n x h = absurd (none-some x h)
kept_pushed (z ∷ xs) ys zero x h = h
kept_pushed (z ∷ xs) ys (suc n) x h = kept_pushed xs ys n x h

pub last_pushed : (xs : List PlanFault) (y : PlanFault) → (n : ℕ) × (slice_get (xs ++ y ∷ []) n ≡ Some y)
last_pushed [] y = (zero, refl)
last_pushed (z ∷ xs) y = let rest = last_pushed xs y in (suc rest.0, rest.1)

pub within_items : (xs : List PlanFault) (n : ℕ) (x : PlanFault) → slice_get xs n ≡ Some x → n < length xs
within_items [] n x h = absurd (none-some x h)
within_items (z ∷ xs) zero x h = omega arith
within_items (z ∷ xs) (suc n) x h = let rest = within_items xs n x h in omega (arith, rest)

-- ---- the first so many

pub take_pushed : (most : ℕ) (xs : List PlanFault) (y : PlanFault) → take most (take most xs ++ y ∷ []) ≡ take most (xs ++ y ∷ [])
take_pushed most xs y = elim (cases_lt (length xs) most) [
  | inl few ↦ ap (λ l. take most (l ++ y ∷ [])) (take_all most xs (omega (arith, few)))
  | inr many ↦ take_at (take most xs) (y ∷ []) most (length-take-le most xs many) ∙ sym (take-append-le most xs (y ∷ []) many)
]

pub take_full : (most : ℕ) (xs : List PlanFault) (y : PlanFault) → most ≤ length xs → take most (take most xs ++ y ∷ []) ≡ take most xs
take_full most xs y many = take_at (take most xs) (y ∷ []) most (length-take-le most xs many)

-- ---- two lists

abbrev Rising : List PlanFault → Type 0
Rising xs = (a b : ℕ) (f g : PlanFault) → slice_get xs a ≡ Some f → slice_get xs b ≡ Some g → a < b → IsBefore (key_of f) (key_of g)

abbrev Among : List PlanFault → PlanFault → Type 0
Among xs f = (n : ℕ) × (slice_get xs n ≡ Some f)

tail-rising : (x : PlanFault) (xs : List PlanFault) → Rising (x ∷ xs) → Rising xs
tail-rising x xs h = λ a b f g at_a at_b less. h (suc a) (suc b) f g at_a at_b (omega (arith, less))

-- an item is the first, or behind it
head-cases : (x : PlanFault) (xs : List PlanFault) (f : PlanFault) → Rising (x ∷ xs) → Among (x ∷ xs) f → (f ≡ x) ⊎ (Among xs f × IsBefore (key_of x) (key_of f))
head-cases x xs f h (zero, at) = inl (sym (same_Some x f at))
head-cases x xs f h (suc n, at) = inr ((n, at), h zero (suc n) x f refl at (omega arith))

same_heads : (x : PlanFault) (xs : List PlanFault) (y : PlanFault) (ys : List PlanFault) → Rising (x ∷ xs) → Rising (y ∷ ys) → Among (y ∷ ys) x → Among (x ∷ xs) y → x ≡ y
same_heads x xs y ys h k in_ys in_xs = elim (head-cases y ys x k in_ys) [
  | inl same ↦ same
  | inr later ↦ elim (head-cases x xs y h in_xs) [
    | inl same ↦ sym same
    | inr other ↦ absurd (not_before (key_of x) (before_trans (key_of x) (key_of y) (key_of x) other.1 later.1))
  ]
]

in_tail : (x : PlanFault) (xs : List PlanFault) (y : PlanFault) (ys : List PlanFault) (f : PlanFault) → Rising (x ∷ xs) → Rising (y ∷ ys) → x ≡ y → Among xs f → Among (y ∷ ys) f → Among ys f
in_tail x xs y ys f h k same at other = elim (head-cases y ys f k other) [
  | inl first ↦ absurd (not_before (key_of x) (subst (λ g. IsBefore (key_of x) (key_of g)) (first ∙ sym same) (h zero (suc at.0) x f refl at.1 (omega arith))))
  | inr later ↦ later.0
]

pub same_lists : (xs ys : List PlanFault) → Rising xs → Rising ys → ((f : PlanFault) → Among xs f → Among ys f) → ((f : PlanFault) → Among ys f → Among xs f) → xs ≡ ys
same_lists [] [] h k to from = refl
same_lists [] (y ∷ ys) h k to from = absurd (none-some y (from y (zero, refl)).1)
same_lists (x ∷ xs) [] h k to from = absurd (none-some x (to x (zero, refl)).1)
same_lists (x ∷ xs) (y ∷ ys) h k to from =
    let same = same_heads x xs y ys h k (to x (zero, refl)) (from y (zero, refl)) in
    let rest = same_lists xs ys (tail-rising x xs h) (tail-rising y ys k)
    (λ f at. in_tail x xs y ys f h k same at (to f (suc at.0, at.1)))
    (λ f at. in_tail y ys x xs f k h (sym same) at (from f (suc at.0, at.1))) in
    ap (λ z. z ∷ xs) same ∙ ap (λ zs. y ∷ zs) rest
