-- Squares of natural numbers, and twice such squares.
use Rattle.std.proofs.Common.{◌≡◌, ℕ, zero, suc, ◌+◌, ◌*◌, ◌<◌, ◌≤◌, ◌⊎◌, inl, inr, arith, refl, ap}
use Rattle.std.proofs.lemmas.Bool.{cases_lt}
use Rattle.std.proofs.lemmas.Nat.{mul-le, mul-lt}

-- ---- order

-- the smaller square has the smaller root
pub root_le : (m n : ℕ) → m * m ≤ n * n → m ≤ n
root_le m n h =
    elim (cases_lt n m) [
      | inl less ↦ absurd (let k = mul-lt n n m m less less in omega arith)
      | inr
          most ↦ most
    ]

pub square_of_double_lt : (m n : ℕ) → m < n → 2 * (m * m) < 2 * (n * n)
square_of_double_lt m n h = let k = mul-lt m m n n h h in omega arith

pub square_lt_of_double : (p q r s : ℕ) → p ≤ r → r * r < 2 * (s * s) → s ≤ q → p * p < 2 * (q * q)
square_lt_of_double p q r s small h large =
    let k = mul-le p p r r small small in let l = mul-le s s q q large large in omega arith

pub double_lt_of_square : (p q r s : ℕ) → r ≤ p → 2 * (s * s) < r * r → q ≤ s → 2 * (q * q) < p * p
double_lt_of_square p q r s large h small =
    let k = mul-le r r p p large large in let l = mul-le q q s s small small in omega arith

-- ---- sums

-- the product of the left sides is at most that of the right sides
product_le : (x y u v : ℕ) → x * x ≤ 2 * (y * y) → u * u ≤ 2 * (v * v) → x * u ≤ 2 * (y * v)
product_le x y u v h k =
    root_le (x * u) (2 * (y * v)) (let p =
    mul-le (x * x) (u * u) (2 * (y * y)) (2 * (v * v)) h k in omega arith)

product_ge : (x y u v : ℕ) → 2 * (y * y) ≤ x * x → 2 * (v * v) ≤ u * u → 2 * (y * v) ≤ x * u
product_ge x y u v h k =
    root_le (2 * (y * v)) (x * u) (let p =
    mul-le (2 * (y * y)) (2 * (v * v)) (x * x) (u * u) h k in omega arith)

pub sum_below_double : (x y u v : ℕ) → x * x ≤ 2 * (y * y) → u * u < 2 * (v * v)
    → (x + u) * (x + u) < 2 * ((y + v) * (y + v))
sum_below_double x y u v h k =
    let least : u * u ≤ 2 * (v * v) = omega arith in let p =
    product_le x y u v h least in omega arith

pub sum_above_double : (x y u v : ℕ) → 2 * (y * y) ≤ x * x → 2 * (v * v) < u * u
    → 2 * ((y + v) * (y + v)) < (x + u) * (x + u)
sum_above_double x y u v h k =
    let least : 2 * (v * v) ≤ u * u = omega arith in let p =
    product_ge x y u v h least in omega arith

-- ---- no square is twice another, but 0

halves : (n : ℕ) → ((k : ℕ) × (n ≡ 2 * k)) ⊎ ((k : ℕ) × (n ≡ 2 * k + 1))
halves zero = inl (0, refl)
halves (suc n) =
    elim (halves n) [ inl e ↦ inr (e.0, omega arith) | inr o ↦ inl (o.0 + 1, omega arith) ]

zero_from_square : (n : ℕ) → n * n ≡ 0 → n ≡ 0
zero_from_square n h = let k : n * n ≤ 0 * 0 = omega arith in let l = root_le n 0 k in omega arith

-- where both are numbers, half the greater one is a root too
half_is_root : (p q : ℕ) → p * p ≡ 2 * (q * q) → (k : ℕ) × (p ≡ 2 * k) × (q * q ≡ 2 * (k * k))
half_is_root p q h = elim (halves p) [
  | inl e ↦ (e.0, e.1, let s : p * p ≡ (2 * e.0) * (2 * e.0) = ap (λ n. n * n) e.1 in omega arith)
  | inr o ↦ absurd (let s : p * p ≡ (2 * o.0 + 1) * (2 * o.0 + 1) =
      ap (λ n. n * n) o.1 in omega arith)
]

-- the numbers cannot be halved for ever
only_zero_below : (bound p q : ℕ) → p < bound → p * p ≡ 2 * (q * q) → (p ≡ 0) × (q ≡ 0)
only_zero_below zero p q below h = absurd (omega arith)
only_zero_below (suc bound) p q below h =
    elim (cases_lt q p) [
      | inl less ↦
          let half = half_is_root p q h in
          let rest = only_zero_below bound q half.0 (omega arith) half.2 in
          (omega (arith, half.1, rest.1), rest.0)
      | inr most ↦
          let k = mul-le p p q q most most in
          (zero_from_square p (omega arith), zero_from_square q (omega arith))
    ]

pub only_zero : (p q : ℕ) → p * p ≡ 2 * (q * q) → (p ≡ 0) × (q ≡ 0)
only_zero p q h = only_zero_below (suc p) p q (omega arith) h
