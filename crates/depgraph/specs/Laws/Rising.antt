-- Two lists in one strict order that have the same elements are one list.
use Rattle.std.proofs.Common.{◌≡◌, ℕ, zero, suc, ◌<◌, List, [], ◌∷◌}
use Rattle.std.proofs.Common.{Some, arith, refl, sym, ap, subst, ◌∙◌}
use Rattle.std.specs.Prelude.{slice_get}

-- the element stands in the list
abbrev pub StandsAmong : {X : Type 0} → List X → X → Type 0
StandsAmong xs x = (k : ℕ) × (slice_get xs k ≡ Some x)

-- each element comes before those behind it
abbrev pub RisesBy : {X : Type 0} → (X → X → Type 0) → List X → Type 0
RisesBy R xs =
    (k l : ℕ) (x y : _) → k < l → slice_get xs k ≡ Some x → slice_get xs l ≡ Some y → R x y

-- no two elements come before each other
abbrev pub IsStrict : {X : Type 0} → (X → X → Type 0) → List X → Type 0
IsStrict R xs = (x y : _) → StandsAmong xs x → StandsAmong xs y → R x y → R y x → ⊥

pub some_one : {X : Type 0} (x y : X) → Some x ≡ Some y → x ≡ y
some_one x y h = cc

later : {X : Type 0} (x : X) (xs : List X) (y : X) → StandsAmong xs y → StandsAmong (x ∷ xs) y
later x xs y (k, there) = (suc k, there)

rises-tail
    : {X : Type 0} (R : X → X → Type 0) (x : X) (xs : List X) → RisesBy R (x ∷ xs) → RisesBy R xs
rises-tail R x xs h k l y z less at_k at_l = h (suc k) (suc l) y z (omega (arith, less)) at_k at_l

rises-head : {X : Type 0} (R : X → X → Type 0) (x : X) (xs : List X) (y : X) → RisesBy R (x ∷ xs)
    → StandsAmong xs y → R x y
rises-head R x xs y h (k, there) = h 0 (suc k) x y (omega arith) refl there

strict-tail
    : {X : Type 0} (R : X → X → Type 0) (x : X) (xs : List X) → IsStrict R (x ∷ xs) → IsStrict R xs
strict-tail R x xs h y z in_y in_z = h y z (later x xs y in_y) (later x xs z in_z)

-- the head of the one list is that of the other
same_head : {X : Type 0} (R : X → X → Type 0) (x y : X) (xs ys : List X) → IsStrict R (x ∷ xs)
    → RisesBy R (x ∷ xs) → RisesBy R (y ∷ ys)
    → StandsAmong (y ∷ ys) x → StandsAmong (x ∷ xs) y → x ≡ y
same_head R x y xs ys strict rises other (zero, there) in_y = some_one x y (sym there)
same_head R x y xs ys strict rises other (suc k, there) (zero, here) = some_one x y here
same_head R x y xs ys strict rises other (suc k, there) (suc l, here) =
    absurd (strict x y (0, refl) (suc l, here) (rises-head R x xs y rises (l, here))
    (rises-head R y ys x other (k, there)))

-- what stands in the one tail stands in the other
tail_too : {X : Type 0} (R : X → X → Type 0) (x y z : X) (xs ys : List X) → IsStrict R (x ∷ xs)
    → RisesBy R (x ∷ xs) → x ≡ y → StandsAmong xs z
    → StandsAmong (y ∷ ys) z → StandsAmong ys z
tail_too R x y z xs ys strict rises same inside (suc k, there) = (k, there)
tail_too R x y z xs ys strict rises same inside (zero, there) =
    let one : x ≡ z = same ∙ some_one y z there in
    let before = rises-head R x xs z rises inside in
    absurd (strict x z (0, refl) (later x xs z inside) before
    (subst (λ v. R v x) one (subst (R x) (sym one) before)))

pub one_list : {X : Type 0} (R : X → X → Type 0) (xs ys : List X) → IsStrict R xs → IsStrict R ys
    → RisesBy R xs → RisesBy R ys
    → ((x : X) → StandsAmong xs x → StandsAmong ys x)
    → ((x : X) → StandsAmong ys x → StandsAmong xs x) → xs ≡ ys
one_list R [] [] strict other rises rises_too into back = refl
one_list R [] (y ∷ ys) strict other rises rises_too into back = let none = back y (0, refl) in cc
one_list R (x ∷ xs) [] strict other rises rises_too into back = let none = into x (0, refl) in cc
one_list R (x ∷ xs) (y ∷ ys) strict other rises rises_too into back =
    let same = same_head R x y xs ys strict rises rises_too (into x (0, refl)) (back y (0, refl)) in
    let rest = one_list R xs ys (strict-tail R x xs strict) (strict-tail R y ys other)
    (rises-tail R x xs rises) (rises-tail R y ys rises_too)
    (λ z inside. tail_too R x y z xs ys strict rises same inside (into z (later x xs z inside)))
    (λ z inside. tail_too R y x z ys xs other rises_too (sym same) inside
    (back z (later y ys z inside))) in
    ap (λ v. v ∷ xs) same ∙ ap (λ l. y ∷ l) rest
