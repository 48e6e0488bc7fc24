-- Links of one agent more, which comes before those that have theirs.
use Rattle.std.proofs.Common.{◌≡◌, ℕ, ◌+◌, ◌<◌, ◌≤◌, ℤ, Bool, true, false, cond, List, length, get_or, None, Some, inl, inr, arith, refl, sym, ap, subst, ◌∙◌}
use Rattle.std.specs.Prelude.{◌⊎◌, ◌&&◌, not, Option, slice_get, slice_set}
use Rattle.std.specs.Ordering.{int_eq}
use Rattle.std.proofs.lemmas.Bool.{cases_lt, cases_Bool, and_parts, and_from, not-true, not-false, both_ways, false≢true, cond-true, cond-false}
use Rattle.std.proofs.lemmas.Bool.Decides.{Decides-int_eq}
use Rattle.std.proofs.lemmas.List.{get_or-set_other, get_or-set_same, length-set}
use Rattle.std.proofs.lemmas.Option.{slice_get-get_or, same_Some, get_or_from_slice_get, slice_get_read}
use Rattle.checker.specs.declared.places.Place.{Place}
use Rattle.checker.specs.declared.places.Step.{Step}
use Rattle.checker.specs.declared.links.Link.{Link}
use Rattle.checker.specs.Code.Places.{reversed, step_in}
use Rattle.checker.specs.Code.Links.{same_step, IsFirstFrom, IsLink, link_in, AreLinked}

-- ---- steps that are compared

pub place_from : (u v : Place) → u.x ≡ v.x → u.y ≡ v.y → u ≡ v
place_from u v x y = ap {A = ℤ} {B = Place} (λ n. record { x = n; y = u.y }) x ∙ ap {A = ℤ} {B = Place} (λ n. record { x = v.x; y = n }) y

pub step_from : (a b : Step) → a.from ≡ b.from → a.to ≡ b.to → a ≡ b
step_from a b from to = ap {A = Place} {B = Step} (λ n. record { from = n; to = a.to }) from ∙ ap {A = Place} {B = Step} (λ n. record { from = b.from; to = n }) to

same_step-same : (a b : Step) → same_step a b ≡ true → a ≡ b
same_step-same a b h =
    let parts = and_parts (int_eq a.from.x b.from.x && int_eq a.from.y b.from.y) (int_eq a.to.x b.to.x && int_eq a.to.y b.to.y) h in
    let from = and_parts (int_eq a.from.x b.from.x) (int_eq a.from.y b.from.y) parts.0 in
    let to = and_parts (int_eq a.to.x b.to.x) (int_eq a.to.y b.to.y) parts.1 in
    step_from a b
    (place_from a.from b.from ((Decides-int_eq a.from.x b.from.x).0 from.0) ((Decides-int_eq a.from.y b.from.y).0 from.1))
    (place_from a.to b.to ((Decides-int_eq a.to.x b.to.x).0 to.0) ((Decides-int_eq a.to.y b.to.y).0 to.1))

same_int : (x : ℤ) → int_eq x x ≡ true
same_int x = (Decides-int_eq x x).1 refl

same_step-true : (a b : Step) → a ≡ b → same_step a b ≡ true
same_step-true a b e =
    subst (λ s. same_step a s ≡ true) e
    (and_from (int_eq a.from.x a.from.x && int_eq a.from.y a.from.y) (int_eq a.to.x a.to.x && int_eq a.to.y a.to.y)
    (and_from (int_eq a.from.x a.from.x) (int_eq a.from.y a.from.y) (same_int a.from.x) (same_int a.from.y))
    (and_from (int_eq a.to.x a.to.x) (int_eq a.to.y a.to.y) (same_int a.to.x) (same_int a.to.y)))

-- ---- the first of those that take a step

step-there : (steps : List Step) (n : ℕ) → n < length steps → slice_get steps n ≡ Some (step_in steps n)
step-there steps n less = slice_get-get_or steps n _ less

at_or_past : (n k i : ℕ) → i ≡ n + 1 → n ≤ k → (k ≡ n) ⊎ (i ≤ k)
at_or_past n k i is h = elim (cases_lt n k) [ inl past ↦ inr (omega (arith, past, is)) | inr at ↦ inl (omega (arith, at, h)) ]

module _ (steps : List Step) (n i : ℕ) (is : i ≡ n + 1) (less : n < length steps) where
  not-own : (q : Step) (k : ℕ) → (same_step (step_in steps n) q ≡ false) → k ≡ n → slice_get steps k ≡ Some q → ⊥
  not-own q k other e at =
      let own : step_in steps n ≡ q = same_Some (step_in steps n) q (sym (step-there steps n less) ∙ ap (slice_get steps) (sym e) ∙ at) in
      false≢true (sym other ∙ same_step-true (step_in steps n) q own)

  first-other : (q : Step) (o : Option ℕ) → same_step (step_in steps n) q ≡ false → IsFirstFrom steps i q o → IsFirstFrom steps n q o
  first-other q None other h = λ k past at. elim (at_or_past n k i is past) [ inl own ↦ not-own q k other own at | inr later ↦ h k later at ]
  first-other q (Some j) other h = (
    (let past = h.0 in omega (arith, past, is)),
    h.1,
    λ k past before at. elim (at_or_past n k i is past) [ inl own ↦ not-own q k other own at | inr later ↦ h.2 k later before at ],
  )

  first-own : (q : Step) → same_step (step_in steps n) q ≡ true → IsFirstFrom steps n q (Some n)
  first-own q same = (
    omega arith,
    step-there steps n less ∙ ap Some (same_step-same (step_in steps n) q same),
    λ k past before at. omega (arith, past, before),
  )

  pub first-more : (q : Step) (o new : Option ℕ) → new ≡ cond (same_step (step_in steps n) q) (Some n) o → IsFirstFrom steps i q o → IsFirstFrom steps n q new
  first-more q o new e h = elim (cases_Bool (same_step (step_in steps n) q)) [
    | inl same ↦ subst (IsFirstFrom steps n q) (sym (e ∙ cond-true (same_step (step_in steps n) q) (Some n) o same)) (first-own q same)
    | inr other ↦ subst (IsFirstFrom steps n q) (sym (e ∙ cond-false (same_step (step_in steps n) q) (Some n) o other)) (first-other q o other h)
  ]

  -- ---- links

  pub links-more : (links : List Link) (link : Link) → AreLinked steps i links → IsFirstFrom steps i (reversed (step_in steps n)) link.opposite → IsFirstFrom steps i (step_in steps n) link.same
      → AreLinked steps n (slice_set links n link)
  links-more links link h opposite same =
      let count = h.count in
      record {
        count = length-set links n link ∙ count;
        each = λ k past within. elim (at_or_past n k i is past) [
          | inl own ↦ subst (λ j. IsLink steps j (link_in (slice_set links n link) j)) (sym own)
              (subst (IsLink steps n) (sym (get_or-set_same links n link _ (omega (arith, count, less))))
              (record {
                opposite = subst (λ j. IsFirstFrom steps j (reversed (step_in steps n)) link.opposite) is opposite;
                same = subst (λ j. IsFirstFrom steps j (step_in steps n) link.same) is same;
              }))
          | inr later ↦ subst (IsLink steps k) (sym (get_or-set_other links n k link _ (omega (arith, later, is)))) (h.each k later within)
        ];
      }

-- the links of an agent, as they are read
pub link-read : (steps : List Step) (links : List Link) (i : ℕ) (link : Link) → AreLinked steps 0 links → i < length steps → link ≡ get_or links i link → IsLink steps i link
link-read steps links i link h less is =
    let count = h.count in
    subst (IsLink steps i) (get_or_from_slice_get links i link _ (slice_get_read links (length links) i link refl (omega (arith, count, less)) is)) (h.each i (omega arith) less)

-- ---- places that are compared

abbrev is_same : Place → Place → Bool
is_same u v = int_eq u.x v.x && int_eq u.y v.y

pub same_from : (u v : Place) → not (is_same u v) ≡ false → u ≡ v
same_from u v h =
    let parts = and_parts (int_eq u.x v.x) (int_eq u.y v.y) (not-false (is_same u v) h) in
    place_from u v ((Decides-int_eq u.x v.x).0 parts.0) ((Decides-int_eq u.y v.y).0 parts.1)

pub differ_from : (u v : Place) → not (is_same u v) ≡ true → u ≡ v → ⊥
differ_from u v h e =
    both_ways (is_same u v) (not-true (is_same u v) h)
    (subst (λ w. is_same u w ≡ true) e (and_from (int_eq u.x u.x) (int_eq u.y u.y) (same_int u.x) (same_int u.y)))
