-- How the line of an agent is cut at its spaces.
use Rattle.std.proofs.Common.{◌≡◌, ◌≢◌, ℕ, ◌+◌, ◌<◌, true, false, List, [], ◌∷◌, length, take, drop, get_or, sym, ap, ◌∙◌, arith, codes}
use Rattle.std.specs.Prelude.{◌==◌, Option, None, Some, is_some, MatchOption}
use Rattle.std.specs.List.{slice_split}
use Rattle.std.proofs.lemmas.Bool.{false_from_ne_true}
use Rattle.std.proofs.lemmas.List.{nil_from_length, length-take, get_or-take}
use Rattle.std.proofs.lemmas.List.Elements.{All-from_get_or}
use Rattle.std.proofs.lemmas.List.Splits.{slice_split_none, slice_split_at, length-slice_split}
use Rattle.memchr.specs.Find.{Nowhere, NoneBefore, Passes, is_byte}
use Rattle.text_io.specs.Text.{space}
use Rattle.text_io.specs.Laws.Parts.{about}
use Rattle.plan_text.specs.PlanTextFault.{HasParts}

abbrev pub split : List ℕ → List (List ℕ)
split bytes = slice_split (λ b. b == space) bytes

-- no space was found
pub split-none : (bytes : List ℕ) → Nowhere (Passes (is_byte space) bytes) 0 (length bytes) → split bytes ≡ bytes ∷ []
split-none bytes none =
    slice_split_none (λ b. b == space) bytes
    (All-from_get_or (λ b. (b == space) ≡ false) bytes 0 (λ i below. false_from_ne_true (get_or bytes i 0 == space) (none i (omega arith) below)))

-- the first space was found
pub split-some : (bytes : List ℕ) (i : ℕ) → NoneBefore (Passes (is_byte space) bytes) 0 (length bytes) i → Passes (is_byte space) bytes i
    → split bytes ≡ take i bytes ∷ split (drop (i + 1) bytes)
split-some bytes i none found =
    ap split (about bytes i none.high)
    ∙ slice_split_at (λ b. b == space) (take i bytes) (get_or bytes i 0) (drop (i + 1) bytes)
    (All-from_get_or (λ b. (b == space) ≡ false) (take i bytes) 0
    (λ k below. let before : k < i = omega (arith, below, length-take i bytes) in
    ap (λ b. b == space) (get_or-take i bytes k 0 before) ∙ false_from_ne_true (get_or bytes k 0 == space) (none.before k (omega arith) before)))
    found

-- a part is never left out
pub split-some_part : (bytes : List ℕ) → split bytes ≡ [] → ⊥
split-some_part bytes e = omega (arith, length-slice_split (λ b. b == space) bytes, ap length e)

-- what is said of a value that there is
pub some_found : {X : Type 0} (r : Option X) (P : Type 0) (Q : X → Type 0) → is_some r ≡ true → MatchOption r P Q → (x : X) × Q x
some_found None P Q some h = absurd (cc)
some_found (Some x) P Q some h = (x, h)

-- three parts before others
pub three : (line word rest x behind y acts : List ℕ) → split line ≡ word ∷ split rest → split rest ≡ x ∷ split behind → split behind ≡ y ∷ split acts
    → split line ≡ word ∷ x ∷ y ∷ split acts
three line word rest x behind y acts first second third =
    first ∙ ap (λ ps. word ∷ ps) (second ∙ ap (λ ps. x ∷ ps) third)

-- a line whose parts, cut so far, cannot be an agent's has none
module _ (line word x y acts : List ℕ) (cut : split line ≡ word ∷ x ∷ y ∷ split acts) where
  pub no_agent : word ≢ codes "agent" → (u v others : List ℕ) → HasParts u v others line → ⊥
  no_agent other u v others h = other (let both = sym cut ∙ h.parts in cc)

  pub no_column : length x ≡ 0 → (u v others : List ℕ) → HasParts u v others line → ⊥
  no_column none u v others h = let both = sym cut ∙ h.parts in let same : x ≡ u = cc in omega (arith, none, h.some_x, ap length same)

  pub no_row : length y ≡ 0 → (u v others : List ℕ) → HasParts u v others line → ⊥
  no_row none u v others h = let both = sym cut ∙ h.parts in let same : y ≡ v = cc in omega (arith, none, h.some_y, ap length same)

  pub no_acts : length acts ≡ 0 → (u v others : List ℕ) → HasParts u v others line → ⊥
  no_acts none u v others h =
      let both = sym cut ∙ h.parts in
      let behind : split acts ≡ others ∷ [] = cc in
      let empty : [] ∷ [] ≡ others ∷ [] = sym (ap split (nil_from_length acts none)) ∙ behind in
      let same : [] ≡ others = cc in
      omega (arith, h.some_acts, ap length same)

  pub more_parts : (first rest : List ℕ) → split acts ≡ first ∷ split rest → (u v others : List ℕ) → HasParts u v others line → ⊥
  more_parts first rest e u v others h =
      let both = sym cut ∙ h.parts in
      let behind : split acts ≡ others ∷ [] = cc in
      let whole = sym e ∙ behind in
      split-some_part rest (let none : split rest ≡ [] = cc in none)
