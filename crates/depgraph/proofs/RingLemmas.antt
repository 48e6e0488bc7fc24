-- Elements of lists by their places: after a push, after a write, in a list of images, and in a ring.
use Rattle.std.proofs.Common.{◌≡◌, ℕ, zero, suc, ◌+◌, ◌-◌, ◌<◌, ◌≤◌, List, [], ◌∷◌, ◌++◌, length, get_or, map, take, drop, Some, inl, inr, arith, refl, sym, ap, ◌∙◌}
use Rattle.std.specs.Prelude.{◌⊎◌, nat_lt, option_map, slice_get}
use Rattle.std.proofs.Math.ListN.{set}
use Rattle.std.proofs.lemmas.Bool.{cases_lt, lt-ltb, le-ltb, cond-true, cond-false}
use Rattle.std.proofs.lemmas.List.{same_lists, take_all, take-append-le}
use Rattle.std.proofs.lemmas.Option.{none-some, same_Some, slice_get-get_or, slice_get-map, slice_get_within}
use Rattle.model.specs.Dependency.{following}

-- ---- a push

pub push-old : {X : Type 0} (xs : List X) (y x : X) (k : ℕ) → slice_get xs k ≡ Some x → slice_get (xs ++ y ∷ []) k ≡ Some x
push-old [] y x k h = absurd (none-some x h)
push-old (z ∷ xs) y x zero h = h
push-old (z ∷ xs) y x (suc k) h = push-old xs y x k h

pub push-new : {X : Type 0} (xs : List X) (y : X) → slice_get (xs ++ y ∷ []) (length xs) ≡ Some y
push-new [] y = refl
push-new (z ∷ xs) y = push-new xs y

pub push-cases : {X : Type 0} (xs : List X) (y x : X) (k : ℕ) → slice_get (xs ++ y ∷ []) k ≡ Some x → (slice_get xs k ≡ Some x) ⊎ ((k ≡ length xs) × (y ≡ x))
push-cases [] y x zero h = inr (refl, same_Some y x h)
push-cases [] y x (suc k) h = absurd (none-some x h)
push-cases (z ∷ xs) y x zero h = inl h
push-cases (z ∷ xs) y x (suc k) h = elim (push-cases xs y x k h) [ inl old ↦ inl old | inr new ↦ inr (ap suc new.0, new.1) ]

-- ---- a write

pub write-same : {X : Type 0} (xs : List X) (i : ℕ) (y : X) → i < length xs → slice_get (set xs i y) i ≡ Some y
write-same [] i y less = absurd (omega (arith, less))
write-same (x ∷ xs) zero y less = refl
write-same (x ∷ xs) (suc i) y less = write-same xs i y (omega (arith, less))

pub write-other : {X : Type 0} (xs : List X) (i k : ℕ) (y : X) → (k ≡ i → ⊥) → slice_get (set xs i y) k ≡ slice_get xs k
write-other [] i k y other = refl
write-other (x ∷ xs) zero zero y other = absurd (other refl)
write-other (x ∷ xs) zero (suc k) y other = refl
write-other (x ∷ xs) (suc i) zero y other = refl
write-other (x ∷ xs) (suc i) (suc k) y other = write-other xs i k y (λ e. other (ap suc e))

-- ---- images

pub map-get : {X Y : Type 0} (f : X → Y) (xs : List X) (k : ℕ) (y : Y) → slice_get (map f xs) k ≡ Some y → (x : X) × (slice_get xs k ≡ Some x) × (f x ≡ y)
map-get f [] k y there = absurd (none-some y there)
map-get f (x ∷ xs) zero y there = (x, refl, same_Some (f x) y there)
map-get f (x ∷ xs) (suc k) y there = map-get f xs k y there

pub map-from : {X Y : Type 0} (f : X → Y) (xs : List X) (k : ℕ) (x : X) → slice_get xs k ≡ Some x → slice_get (map f xs) k ≡ Some (f x)
map-from f xs k x there = slice_get-map f xs k ∙ ap (option_map f) there

-- ---- places in a ring

-- what is at a place
pub one_at : (xs : List ℕ) (k : ℕ) → k < length xs → (x : ℕ) × (slice_get xs k ≡ Some x)
one_at xs k less = (get_or xs k 0, slice_get-get_or xs k 0 less)

pub same_at : (xs : List ℕ) (k x y : ℕ) → slice_get xs k ≡ Some x → slice_get xs k ≡ Some y → x ≡ y
same_at xs k x y at_x at_y = same_Some x y (sym at_x ∙ at_y)

pub following-next : (agents : List ℕ) (place : ℕ) → place + 1 < length agents → following agents place ≡ slice_get agents (place + 1)
following-next agents place less =
    cond-true (nat_lt (place + 1) (length agents)) (slice_get agents (place + 1)) (slice_get agents 0) (lt-ltb (place + 1) (length agents) less)

pub following-first : (agents : List ℕ) (place : ℕ) → length agents ≤ place + 1 → following agents place ≡ slice_get agents 0
following-first agents place past =
    cond-false (nat_lt (place + 1) (length agents)) (slice_get agents (place + 1)) (slice_get agents 0) (le-ltb (place + 1) (length agents) past)

-- who follows is one of them
pub follower-within : (agents : List ℕ) (place j : ℕ) → following agents place ≡ Some j → (other : ℕ) × (slice_get agents other ≡ Some j)
follower-within agents place j h = elim (cases_lt (place + 1) (length agents)) [
  | inl less ↦ (place + 1, sym (following-next agents place less) ∙ h)
  | inr past ↦ (0, sym (following-first agents place past) ∙ h)
]

-- each has one that follows it
pub follower : (agents : List ℕ) (place : ℕ) → 0 < length agents → (j : ℕ) × (following agents place ≡ Some j)
follower agents place some = elim (cases_lt (place + 1) (length agents)) [
  | inl less ↦ (let next = one_at agents (place + 1) less in (next.0, following-next agents place less ∙ next.1))
  | inr past ↦ (let first = one_at agents 0 some in (first.0, following-first agents place past ∙ first.1))
]

-- and one that it follows
pub followed : (agents : List ℕ) (place i : ℕ) → slice_get agents place ≡ Some i → (before j : ℕ) × (slice_get agents before ≡ Some j) × (following agents before ≡ Some i)
followed agents zero i h =
    let some = slice_get_within agents 0 i h in
    let last = one_at agents (length agents - 1) (omega (arith, some)) in
    (length agents - 1, last.0, last.1, following-first agents (length agents - 1) (omega (arith, some)) ∙ h)
followed agents (suc place) i h =
    let less = slice_get_within agents (suc place) i h in
    let one = one_at agents place (omega (arith, less)) in
    let next : place + 1 ≡ suc place = omega arith in
    (place, one.0, one.1, following-next agents place (omega (arith, less)) ∙ ap (slice_get agents) next ∙ h)

pub same_by_places : (xs ys : List ℕ) → length xs ≡ length ys → ((k : ℕ) → k < length xs → slice_get xs k ≡ slice_get ys k) → xs ≡ ys
same_by_places xs ys long same = same_lists xs ys long (λ k d less.
    same_Some (get_or xs k d) (get_or ys k d) (sym (slice_get-get_or xs k d less) ∙ same k less ∙ slice_get-get_or ys k d (omega (arith, less, long))))

-- a list that was lent whole has what was written
pub written : {X : Type 0} (len : ℕ) (old new : List X) → len ≡ length old → length new ≡ length old → take len (new ++ drop (length new) old) ≡ new
written len old new is same = take-append-le len new (drop (length new) old) (omega (arith, is, same)) ∙ take_all len new (omega (arith, is, same))
