-- The same added to two lengths keeps their order.
use Rattle.std.proofs.Common.{ℕ, ◌+◌, inl, inr, arith, ap}
use Rattle.scenario.specs.Length.{IsLess, IsAtMost}
use Rattle.scenario.specs.Code.OrderLaws.{IsMoreBy, IsMoreBy-from_IsLess, IsLess-from_IsMoreBy}

step_by : (a b c d s t : ℕ) → IsMoreBy a b c d → IsMoreBy (a + s) (b + t) (c + s) (d + t)
step_by a b c d s t (inl (p, q, h, x, y)) = inl (p, q, h, omega (arith, x), omega (arith, y))
step_by a b c d s t (inr (inl (p, q, h, x, y))) =
    inr (inl (p, q, h, omega (arith, x), omega (arith, y)))
step_by a b c d s t (inr (inr (p, q, h, x, y))) =
    inr (inr (p, q, h, omega (arith, x), omega (arith, y)))

pub step : (a b c d s t : ℕ) → IsLess a b c d → IsLess (a + s) (b + t) (c + s) (d + t)
step a b c d s t h =
    IsLess-from_IsMoreBy (a + s) (b + t) (c + s) (d + t)
    (step_by a b c d s t (IsMoreBy-from_IsLess a b c d h))

pub step_at_most : (a b c d s t : ℕ) → IsAtMost a b c d → IsAtMost (a + s) (b + t) (c + s) (d + t)
step_at_most a b c d s t (inl h) = inl (step a b c d s t h)
step_at_most a b c d s t (inr h) = inr (ap (λ x. x + s) h.0, ap (λ x. x + t) h.1)
