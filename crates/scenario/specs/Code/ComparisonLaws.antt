-- The comparison of lengths answers what their order is, and has the laws of an order.
use Rattle.std.proofs.Common.{◌≡◌, ℕ, ◌-◌, ◌*◌, ◌≤◌, Bool, false}
use Rattle.std.proofs.Common.{refl, sym, ap, ◌∙◌, subst, inl, inr}
use Rattle.std.specs.Prelude.{◌&&◌, ◌==◌, ◌↔◌, nat_le}
use Rattle.std.specs.Bool.{Decides}
use Rattle.std.specs.Cmp.{Equal-is, IsTotalOrder}
use Rattle.std.specs.declared.cmp.Ordering.{Ordering}
use Rattle.std.specs.declared.cmp.Ordering.TheVariants.{Less, Equal, Greater}
use Rattle.std.specs.Ordering.{MatchOrdering, is_eq, ordering_reverse}
use Rattle.std.proofs.lemmas.Bool.{leb-true, le-leb, cond-true, cond-false, false_from_ne_true}
use Rattle.std.proofs.lemmas.Bool.Decides.{same_from_decides, Decides-like, Decides-and}
use Rattle.std.proofs.lemmas.Bool.Decides.{Decides-or, Decides-ltb, Decides-eqb}
use Rattle.scenario.specs.Length.{IsLess}
use Rattle.scenario.specs.Code.Comparison.{is_less, parts_cmp}
use Rattle.scenario.specs.Code.OrderLaws.{total, irreflexive, never_both, transitive}

decides_le : (m n : ℕ) → Decides (nat_le m n) (m ≤ n)
decides_le m n = (leb-true m n, le-leb m n)

decides_three : {P Q R : Type 0} (x y z : Bool) → Decides x P → Decides y Q → Decides z R
    → Decides (x && (y && z)) (P × Q × R)
decides_three x y z p q r =
    Decides-like (x && (y && z)) (λ h. (h.0, h.1.0, h.1.1)) (λ h. (h.0, (h.1, h.2)))
    (Decides-and x (y && z) p (Decides-and y z q r))

pub is_less-Decides : (a b c d : ℕ) → Decides (is_less a b c d) (IsLess a b c d)
is_less-Decides a b c d =
    Decides-or _ _ (Decides-and _ _ (Decides-ltb a c) (decides_le b d))
    (Decides-or _ _
    (decides_three _ _ _ (decides_le c a) (Decides-ltb b d)
    (Decides-ltb ((a - c) * (a - c)) (2 * ((d - b) * (d - b)))))
    (decides_three _ _ _ (Decides-ltb a c) (Decides-ltb d b)
    (Decides-ltb (2 * ((b - d) * (b - d))) ((c - a) * (c - a)))))

is_less-false : (a b c d : ℕ) → (IsLess a b c d → ⊥) → is_less a b c d ≡ false
is_less-false a b c d h =
    false_from_ne_true (is_less a b c d) (λ e. h ((is_less-Decides a b c d).0 e))

-- ---- what the comparison answers

pub parts_cmp-Less : (a b c d : ℕ) → IsLess a b c d → parts_cmp a b c d ≡ Less
parts_cmp-Less a b c d h = cond-true (is_less a b c d) _ _ ((is_less-Decides a b c d).1 h)

pub parts_cmp-Greater : (a b c d : ℕ) → IsLess c d a b → parts_cmp a b c d ≡ Greater
parts_cmp-Greater a b c d h =
    cond-false (is_less a b c d) _ _ (is_less-false a b c d (λ k. never_both a b c d k h))
    ∙ cond-true (is_less c d a b) _ _ ((is_less-Decides c d a b).1 h)

parts_cmp-itself : (a b : ℕ) → parts_cmp a b a b ≡ Equal
parts_cmp-itself a b =
    let not_less = is_less-false a b a b (irreflexive a b) in
    cond-false (is_less a b a b) _ _ not_less ∙ cond-false (is_less a b a b) _ _ not_less

pub parts_cmp-Equal : (a b c d : ℕ) → (a ≡ c) × (b ≡ d) → parts_cmp a b c d ≡ Equal
parts_cmp-Equal a b c d h =
    ap (λ x. parts_cmp a b x d) (sym h.0)
    ∙ (ap (λ x. parts_cmp a b a x) (sym h.1) ∙ parts_cmp-itself a b)

-- what it means that a + b√2 compares with c + d√2 as an answer says
abbrev pub Means : (a b c d : ℕ) → Ordering → Type 0
Means a b c d o = MatchOrdering o (IsLess a b c d) ((a ≡ c) × (b ≡ d)) (IsLess c d a b)

pub parts_cmp-Means : (a b c d : ℕ) → Means a b c d (parts_cmp a b c d)
parts_cmp-Means a b c d = elim (total a b c d) [
  | inl h ↦ subst (λ o. Means a b c d o) (sym (parts_cmp-Less a b c d h)) h
  | inr (inl h) ↦ subst (λ o. Means a b c d o) (sym (parts_cmp-Equal a b c d h)) h
  | inr (inr h) ↦ subst (λ o. Means a b c d o) (sym (parts_cmp-Greater a b c d h)) h
]

pub answers_Less
    : (a b c d : ℕ) (o : Ordering) → o ≡ parts_cmp a b c d → (o ≡ Less) ↔ IsLess a b c d
answers_Less a b c d o e = (
  λ is. subst (λ x. Means a b c d x) (sym e ∙ is) (parts_cmp-Means a b c d),
  λ h. e ∙ parts_cmp-Less a b c d h,
)

pub answers_Equal
    : (a b c d : ℕ) (o : Ordering) → o ≡ parts_cmp a b c d → (o ≡ Equal) ↔ ((a ≡ c) × (b ≡ d))
answers_Equal a b c d o e = (
  λ is. subst (λ x. Means a b c d x) (sym e ∙ is) (parts_cmp-Means a b c d),
  λ h. e ∙ parts_cmp-Equal a b c d h,
)

pub answers_Greater
    : (a b c d : ℕ) (o : Ordering) → o ≡ parts_cmp a b c d → (o ≡ Greater) ↔ IsLess c d a b
answers_Greater a b c d o e = (
  λ is. subst (λ x. Means a b c d x) (sym e ∙ is) (parts_cmp-Means a b c d),
  λ h. e ∙ parts_cmp-Greater a b c d h,
)

-- ---- the laws of an order

cmp-turned : (a b c d : ℕ) → parts_cmp a b c d ≡ ordering_reverse (parts_cmp c d a b)
cmp-turned a b c d = elim (total a b c d) [
  | inl h ↦ parts_cmp-Less a b c d h ∙ ap ordering_reverse (sym (parts_cmp-Greater c d a b h))
  | inr (inl h) ↦ parts_cmp-Equal a b c d h
      ∙ ap ordering_reverse (sym (parts_cmp-Equal c d a b (sym h.0, sym h.1)))
  | inr (inr h) ↦ parts_cmp-Greater a b c d h ∙ ap ordering_reverse (sym (parts_cmp-Less c d a b h))
]

chained : (a b c d e f : ℕ) → parts_cmp a b c d ≡ Less → parts_cmp c d e f ≡ Less
    → parts_cmp a b e f ≡ Less
chained a b c d e f h k =
    parts_cmp-Less a b e f
    (transitive a b c d e f ((answers_Less a b c d _ refl).0 h) ((answers_Less c d e f _ refl).0 k))

alike : (a b c d e f : ℕ) → parts_cmp a b c d ≡ Equal → parts_cmp a b e f ≡ parts_cmp c d e f
alike a b c d e f h =
    let same = (answers_Equal a b c d _ refl).0 h in
    ap (λ x. parts_cmp x b e f) same.0 ∙ ap (λ x. parts_cmp c x e f) same.1

-- at values with such parts
pub parts_cmp-total : {K : Type 0} (straight diagonal : K → ℕ)
    → IsTotalOrder (λ x y. parts_cmp (straight x) (diagonal x) (straight y) (diagonal y))
parts_cmp-total straight diagonal = record {
  antisymm = λ x y. cmp-turned (straight x) (diagonal x) (straight y) (diagonal y);
  trans =
      λ x y z. chained (straight x) (diagonal x) (straight y) (diagonal y) (straight z)
      (diagonal z);
  congr =
      λ x y z. alike (straight x) (diagonal x) (straight y) (diagonal y) (straight z) (diagonal z);
}

-- it answers Equal where the parts are equal
pub parts_cmp-ties : (a b c d : ℕ) → ((a == c) && (b == d)) ≡ is_eq (parts_cmp a b c d)
parts_cmp-ties a b c d =
    same_from_decides _ _ (Decides-and _ _ (Decides-eqb a c) (Decides-eqb b d)) (
      λ e. (answers_Equal a b c d _ refl).0 ((Equal-is (parts_cmp a b c d)).0 e),
      λ h. ap is_eq (parts_cmp-Equal a b c d h),
    )
