-- What can be told of a line: each is so or not.
use Rattle.std.proofs.Common.{◌≡◌, ◌≢◌, ℕ, ◌<◌, ◌≤◌, ◌⊎◌, inl, inr, true, false, List, [], ◌∷◌, ◌++◌, length, refl, sym, ap, ◌∙◌, subst, arith, codes}
use Rattle.std.specs.Prelude.{◌==◌}
use Rattle.std.specs.List.{slice_split}
use Rattle.std.proofs.lemmas.Bool.{cases_Bool, cases_lt}
use Rattle.std.proofs.lemmas.List.{append_cancel_left}
use Rattle.text_io.specs.Text.{space, BeginsWith}
use Rattle.text_io.specs.Numerals.{numeral_value, is_below}
use Rattle.plan_text.specs.PlanTextFault.{HasParts, IsCoordinate}
use Rattle.text_io.specs.Laws.Numerals.{below-from_IsNumeral, IsNumeral-from_below}
use Rattle.text_io.specs.Laws.Parts.{same_or_not, begins_or_not}
use Rattle.plan_text.proofs.SpellingLemmas.{HasParts-same}

-- ---- decisions

-- four parts, or another number of them
four_or_not : (parts : List (List ℕ))
    → ((w x y acts : List ℕ) × (parts ≡ w ∷ x ∷ y ∷ acts ∷ [])) ⊎ ((w x y acts : List ℕ) → parts ≡ w ∷ x ∷ y ∷ acts ∷ [] → ⊥)
four_or_not [] = inr (λ w x y acts e. cc)
four_or_not (a ∷ []) = inr (λ w x y acts e. cc)
four_or_not (a ∷ b ∷ []) = inr (λ w x y acts e. cc)
four_or_not (a ∷ b ∷ c ∷ []) = inr (λ w x y acts e. cc)
four_or_not (a ∷ b ∷ c ∷ d ∷ []) = inl (a, b, c, d, refl)
four_or_not (a ∷ b ∷ c ∷ d ∷ e ∷ more) = inr (λ w x y acts h. cc)

-- a line's parts, or that it has none
abbrev pub PartsOrNone : List ℕ → Type 0
PartsOrNone line = ((x y acts : List ℕ) × HasParts x y acts line) ⊎ ((x y acts : List ℕ) → HasParts x y acts line → ⊥)

pub parts_or_none : (line : List ℕ) → PartsOrNone line
parts_or_none line = go (four_or_not (slice_split (λ b. b == space) line))
  where
    go : ((w x y acts : List ℕ) × (slice_split (λ b. b == space) line ≡ w ∷ x ∷ y ∷ acts ∷ []))
        ⊎ ((w x y acts : List ℕ) → slice_split (λ b. b == space) line ≡ w ∷ x ∷ y ∷ acts ∷ [] → ⊥)
        → PartsOrNone line
    go (inr none) = inr (λ x y acts h. none (codes "agent") x y acts h.parts)
    go (inl (w, x, y, acts, e)) = word (same_or_not w (codes "agent")) (cases_lt 0 (length x)) (cases_lt 0 (length y)) (cases_lt 0 (length acts))
      where
        word : (w ≡ codes "agent") ⊎ (w ≢ codes "agent") → (0 < length x) ⊎ (length x ≤ 0) → (0 < length y) ⊎ (length y ≤ 0)
            → (0 < length acts) ⊎ (length acts ≤ 0) → PartsOrNone line
        word (inl is) (inl some_x) (inl some_y) (inl some_acts) = inl (
          x,
          y,
          acts,
          record { parts = e ∙ ap (λ ws. ws ∷ x ∷ y ∷ acts ∷ []) is; some_x = some_x; some_y = some_y; some_acts = some_acts },
        )
        word (inr other) a b c = inr (λ u v others h. other (let both = sym e ∙ h.parts in cc))
        word (inl is) (inr none) b c =
            inr (λ u v others h. let both = sym e ∙ h.parts in let same : x ≡ u = cc in omega (arith, none, h.some_x, ap length same))
        word (inl is) (inl a) (inr none) c =
            inr (λ u v others h. let both = sym e ∙ h.parts in let same : y ≡ v = cc in omega (arith, none, h.some_y, ap length same))
        word (inl is) (inl a) (inl b) (inr none) =
            inr (λ u v others h. let both = sym e ∙ h.parts in let same : acts ≡ others = cc in omega (arith, none, h.some_acts, ap length same))

-- ---- what a function of a decision is, where it is known

pub begins_known : (word digits line : List ℕ) → line ≡ word ++ digits → {X : Type 0} (F : BeginsWith word line ⊎ (BeginsWith word line → ⊥) → X) (x : X)
    → ((e : line ≡ word ++ digits) → F (inl (digits, e)) ≡ x) → F (begins_or_not word line) ≡ x
begins_known word digits line is {X} F x h = go (begins_or_not word line)
  where
    go : (r : BeginsWith word line ⊎ (BeginsWith word line → ⊥)) → F r ≡ x
    go (inr none) = absurd (none (digits, is))
    go (inl (others, e)) =
        let same : digits ≡ others = append_cancel_left word digits others (sym is ∙ e) in
        subst (λ ds. (k : line ≡ word ++ ds) → F (inl (ds, k)) ≡ x) same h e

pub not_begins_known : (word line : List ℕ) → (BeginsWith word line → ⊥) → {X : Type 0} (F : BeginsWith word line ⊎ (BeginsWith word line → ⊥) → X) (x : X)
    → ((e : BeginsWith word line → ⊥) → F (inr e) ≡ x) → F (begins_or_not word line) ≡ x
not_begins_known word line none {X} F x h = go (begins_or_not word line)
  where
    go : (r : BeginsWith word line ⊎ (BeginsWith word line → ⊥)) → F r ≡ x
    go (inr e) = h e
    go (inl found) = absurd (none found)

pub same_known : (xs ys : List ℕ) → xs ≡ ys → {X : Type 0} (F : (xs ≡ ys) ⊎ (xs ≢ ys) → X) (x : X) → ((e : xs ≡ ys) → F (inl e) ≡ x) → F (same_or_not xs ys) ≡ x
same_known xs ys is {X} F x h = go (same_or_not xs ys)
  where
    go : (r : (xs ≡ ys) ⊎ (xs ≢ ys)) → F r ≡ x
    go (inl e) = h e
    go (inr other) = absurd (other is)

pub other_known : (xs ys : List ℕ) → xs ≢ ys → {X : Type 0} (F : (xs ≡ ys) ⊎ (xs ≢ ys) → X) (x : X) → ((e : xs ≢ ys) → F (inr e) ≡ x) → F (same_or_not xs ys) ≡ x
other_known xs ys other {X} F x h = go (same_or_not xs ys)
  where
    go : (r : (xs ≡ ys) ⊎ (xs ≢ ys)) → F r ≡ x
    go (inl e) = absurd (other e)
    go (inr e) = h e

pub parts_known : (x y acts line : List ℕ) → HasParts x y acts line → {X : Type 0} (F : PartsOrNone line → X) (a : X)
    → ((h : HasParts x y acts line) → F (inl (x, y, acts, h)) ≡ a) → F (parts_or_none line) ≡ a
parts_known x y acts line has {X} F a h = go (parts_or_none line)
  where
    go : (r : PartsOrNone line) → F r ≡ a
    go (inr none) = absurd (none x y acts has)
    go (inl (u, v, others, k)) =
        let same = HasParts-same x y acts u v others line has k in
        subst (λ us. (k : HasParts us v others line) → F (inl (us, v, others, k)) ≡ a) same.same_x
        (subst (λ vs. (k : HasParts x vs others line) → F (inl (x, vs, others, k)) ≡ a) same.same_y
        (subst (λ os. (k : HasParts x y os line) → F (inl (x, y, os, k)) ≡ a) same.same_acts h)) k

pub no_parts_known : (line : List ℕ) → ((x y acts : List ℕ) → HasParts x y acts line → ⊥) → {X : Type 0} (F : PartsOrNone line → X) (a : X)
    → ((h : (x y acts : List ℕ) → HasParts x y acts line → ⊥) → F (inr h) ≡ a) → F (parts_or_none line) ≡ a
no_parts_known line none {X} F a h = go (parts_or_none line)
  where
    go : (r : PartsOrNone line) → F r ≡ a
    go (inr e) = h e
    go (inl (x, y, acts, has)) = absurd (none x y acts has)

-- ---- numbers

pub coordinate-test : (digits : List ℕ) → IsCoordinate digits → is_below 65536 digits ≡ true
coordinate-test digits h = below-from_IsNumeral 65536 h.0 digits h.1 h.2

pub coordinate-from_test : (digits : List ℕ) → is_below 65536 digits ≡ true → IsCoordinate digits
coordinate-from_test digits h = let is = IsNumeral-from_below 65536 digits h in (numeral_value digits, is.0, is.1)

pub not_coordinate-test : (digits : List ℕ) → (IsCoordinate digits → ⊥) → is_below 65536 digits ≡ false
not_coordinate-test digits none = go (cases_Bool (is_below 65536 digits))
  where
    go : (is_below 65536 digits ≡ true) ⊎ (is_below 65536 digits ≡ false) → is_below 65536 digits ≡ false
    go (inl e) = absurd (none (coordinate-from_test digits e))
    go (inr e) = e
