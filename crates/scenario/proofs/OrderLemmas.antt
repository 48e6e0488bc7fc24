-- More on the order of lengths.
use Rattle.std.proofs.Common.{ℕ, inl, inr}
use Rattle.scenario.specs.Length.{IsLess, IsAtMost}
use Rattle.scenario.specs.Code.OrderLaws.{total}

-- what is not at most another is more than it
pub less_from_not_at_most : (a b c d : ℕ) → (IsAtMost a b c d → ⊥) → IsLess c d a b
less_from_not_at_most a b c d h = elim (total a b c d) [
  | inl less ↦ absurd (h (inl less))
  | inr (inl same) ↦ absurd (h (inr same))
  | inr (inr more) ↦ more
]
