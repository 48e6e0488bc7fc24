-- The numbers of lengths are ordered as the lengths are: 9369319² = 2 * 6625109² - 1, and one part
-- is less than 6625109.
use Rattle.std.proofs.Common.{ℕ, ◌+◌, ◌-◌, ◌*◌, ◌<◌, ◌≤◌, inl, inr, arith}
use Rattle.std.proofs.lemmas.Bool.{cases_lt}
use Rattle.std.proofs.lemmas.Nat.{mul-le, mul-lt}
use Rattle.scenario.specs.Length.{IsLess, IsAtMost}
use Rattle.scenario.specs.Code.OrderLaws.{total}

-- x is less than y times the root of two
below_root : (x y : ℕ) → x * x < 2 * (y * y) → y < 6625109 → x * 6625109 < y * 9369319
below_root x y h small =
    elim (cases_lt (x * 6625109) (y * 9369319)) [
      | inl less ↦ less
      | inr most ↦ absurd (
          let squares = mul-le (y * 9369319) (y * 9369319) (x * 6625109) (x * 6625109) most most in
          let bound = mul-lt y y 6625109 6625109 small small in
          omega (arith, squares, bound, h))
    ]

-- y times the root of two is less than x
above_root : (x y : ℕ) → 2 * (y * y) < x * x → y * 9369319 < x * 6625109
above_root x y h =
    elim (cases_lt (y * 9369319) (x * 6625109)) [
      | inl less ↦ less
      | inr most ↦ absurd (
          let squares = mul-le (x * 6625109) (x * 6625109) (y * 9369319) (y * 9369319) most most in
          omega (arith, squares, h))
    ]

pub less_key : (a b c d : ℕ) → d < 6625109 → IsLess a b c d
    → a * 6625109 + b * 9369319 < c * 6625109 + d * 9369319
less_key a b c d small (inl h) = omega (arith, h.0, h.1)
less_key a b c d small (inr (inl h)) =
    let k = below_root (a - c) (d - b) h.2 (omega (arith, small)) in omega (arith, k, h.0, h.1)
less_key a b c d small (inr (inr h)) =
    let k = above_root (c - a) (b - d) h.2 in omega (arith, k, h.0, h.1)

pub at_most_key : (a b c d : ℕ) → d < 6625109 → IsAtMost a b c d
    → a * 6625109 + b * 9369319 ≤ c * 6625109 + d * 9369319
at_most_key a b c d small (inl h) = let k = less_key a b c d small h in omega (arith, k)
at_most_key a b c d small (inr h) = omega (arith, h.0, h.1)

pub at_most_from_key : (a b c d : ℕ) → b < 6625109
    → a * 6625109 + b * 9369319 ≤ c * 6625109 + d * 9369319 → IsAtMost a b c d
at_most_from_key a b c d small h =
    elim (total a b c d) [
      | inl less ↦ inl less
      | inr (inl same) ↦ inr same
      | inr (inr more) ↦ absurd (let k = less_key c d a b small more in omega (arith, k, h))
    ]
