-- One thing after another.
use Rattle.std.proofs.Common.{◌≡◌, ◌∙◌, ℕ, List, [], ◌∷◌, ◌++◌, length, Some, inl, inr, arith, sym, ap, subst}
use Rattle.std.specs.Prelude.{Err, IfOk, MatchResult, Ok, Result, slice_get}
use Rattle.std.proofs.lemmas.Bool.{cases_lt}
use Rattle.std.proofs.lemmas.List.{get_or_append_left, get_or_push, length-append}
use Rattle.std.proofs.lemmas.Option.{get_or_from_slice_get, slice_get-get_or, slice_get_within}

-- what is so of each by its place is so behind one more
pub pushed : {X : Type 0} (P : ℕ → X → Type 0) (xs : List X) (x : X) → ((k : ℕ) (a : X) → slice_get xs k ≡ Some a → P k a) → P (length xs) x
    → (k : ℕ) (a : X) → slice_get (xs ++ x ∷ []) k ≡ Some a → P k a
pushed P xs x each own k a is =
    let within = slice_get_within (xs ++ x ∷ []) k a is in
    let all = length-append xs (x ∷ []) in
    elim (cases_lt k (length xs)) [
      | inl old ↦
          each k a (slice_get-get_or xs k a old
          ∙ ap Some (sym (get_or_append_left xs (x ∷ []) a k old) ∙ get_or_from_slice_get (xs ++ x ∷ []) k a a is))
      | inr past ↦
          let last : length xs ≡ k = omega (arith, within, all, past) in
          let same : x ≡ a = sym (get_or_push xs x a k last) ∙ get_or_from_slice_get (xs ++ x ∷ []) k a a is in
          subst (λ p. P p a) last (subst (λ b. P (length xs) b) same own)
    ]

-- ---- what came of a call

pub both_ok : {T E : Type 0} (r : Result T E) (P Q S : T → Type 0) → ((x : T) → P x → Q x → S x) → IfOk r P → IfOk r Q → IfOk r S
both_ok (Ok x) P Q S join p q = join x p q
both_ok (Err e) P Q S join p q = tt

pub either_way : {T E : Type 0} (r : Result T E) (P S : T → Type 0) (Q U : E → Type 0) → ((x : T) → P x → S x) → ((e : E) → Q e → U e) → MatchResult r P Q → MatchResult r S U
either_way (Ok x) P S Q U on_ok on_err h = on_ok x h
either_way (Err e) P S Q U on_ok on_err h = on_err e h
