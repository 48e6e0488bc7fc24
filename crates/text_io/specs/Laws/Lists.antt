-- A list with one element in the place of another.
use Rattle.std.proofs.Common.{◌≡◌, ◌≢◌, ℕ, ◌<◌, ◌≤◌, List, length, Some, inl, inr, sym, ap, ◌∙◌}
use Rattle.std.proofs.Common.{subst}
use Rattle.std.specs.Prelude.{slice_get, slice_set}
use Rattle.std.proofs.lemmas.Bool.{cases_lt}
use Rattle.std.proofs.lemmas.List.{length-set, get_or-set_same, get_or-set_other}
use Rattle.std.proofs.lemmas.Option.{slice_get-get_or, slice_get_past}

-- at its place it is the new one
pub set_here
    : {A : Type 0} (xs : List A) (i : ℕ) (x : A) → i < length xs
    → slice_get (slice_set xs i x) i ≡ Some x
set_here xs i x within =
    let inside = subst (λ n. i < n) (sym (length-set xs i x)) within in
    slice_get-get_or (slice_set xs i x) i x inside ∙ ap Some (get_or-set_same xs i x x within)

-- at any other place all is as it was
pub set_there
    : {A : Type 0} (xs : List A) (i k : ℕ) (x : A) → k ≢ i
    → slice_get (slice_set xs i x) k ≡ slice_get xs k
set_there xs i k x other = elim (cases_lt k (length xs)) [
  | inl within ↦
      let inside = subst (λ n. k < n) (sym (length-set xs i x)) within in
      slice_get-get_or (slice_set xs i x) k x inside
      ∙ ap Some (get_or-set_other xs i k x x other) ∙ sym (slice_get-get_or xs k x within)
  | inr past ↦
      slice_get_past (slice_set xs i x) k (subst (λ n. n ≤ k) (sym (length-set xs i x)) past)
      ∙ sym (slice_get_past xs k past)
]
