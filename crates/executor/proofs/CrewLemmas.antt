-- Lists of agents that are made one after another.
use Rattle.std.proofs.Common.{◌≡◌, ℕ, zero, suc, List, [], ◌∷◌, ◌++◌, length, Some, subst}
use Rattle.std.specs.Prelude.{slice_get}
use Rattle.std.proofs.lemmas.Option.{same_Some, none-some}

-- what holds of each place holds behind one more
pub each-pushed : {X : Type 0} (P : ℕ → X → Type 0) (l : List X) (x : X) → ((i : ℕ) (y : X) → slice_get l i ≡ Some y → P i y) → P (length l) x
    → (i : ℕ) (y : X) → slice_get (l ++ x ∷ []) i ≡ Some y → P i y
each-pushed P [] x each last zero y there = subst (P zero) (same_Some x y there) last
each-pushed P [] x each last (suc i) y there = absurd (none-some y there)
each-pushed P (z ∷ l) x each last zero y there = each zero y there
each-pushed P (z ∷ l) x each last (suc i) y there = each-pushed (λ n. P (suc n)) l x (λ n. each (suc n)) last i y there
