-- The order of lengths, by the differences of the parts.
use Rattle.std.proofs.Common.{◌≡◌, ℕ, ◌+◌, ◌-◌, ◌*◌, ◌<◌, ◌≤◌, ◌⊎◌, inl, inr, arith, sym, ap}
use Rattle.std.proofs.lemmas.Bool.{cases_lt, cases_order}
use Rattle.scenario.specs.Length.{IsLess}
use Rattle.scenario.specs.Code.Squares.{only_zero, square_of_double_lt, square_lt_of_double}
use Rattle.scenario.specs.Code.Squares.{double_lt_of_square, sum_below_double, sum_above_double}

-- IsLess with no difference in it: c + d√2 is a + b√2 and p + q√2, -p + q√2 or p - q√2, which is
-- more than 0
abbrev pub IsMoreBy : (a b c d : ℕ) → Type 0
IsMoreBy a b c d =
    ((p : ℕ) × (q : ℕ) × (0 < p) × (a + p ≡ c) × (b + q ≡ d))
    ⊎ (((p : ℕ) × (q : ℕ) × (p * p < 2 * (q * q)) × (a ≡ c + p) × (b + q ≡ d))
    ⊎ ((p : ℕ) × (q : ℕ) × (2 * (q * q) < p * p) × (a + p ≡ c) × (b ≡ d + q)))

-- a product of a number with itself, at an equal number
square-same : (m n : ℕ) → m ≡ n → m * m ≡ n * n
square-same m n e = ap (λ x. x * x) e

pub IsMoreBy-from_IsLess : (a b c d : ℕ) → IsLess a b c d → IsMoreBy a b c d
IsMoreBy-from_IsLess a b c d (inl h) = inl (c - a, d - b, omega arith, omega arith, omega arith)
IsMoreBy-from_IsLess a b c d (inr (inl h)) =
    inr (inl (a - c, d - b, h.2, omega (arith, h.0), omega (arith, h.1)))
IsMoreBy-from_IsLess a b c d (inr (inr h)) =
    inr (inr (c - a, b - d, h.2, omega (arith, h.0), omega (arith, h.1)))

-- ---- each of the three, as it is in IsLess

below_both : (a b c d p q : ℕ) → 0 < p → a + p ≡ c → b + q ≡ d → IsLess a b c d
below_both a b c d p q some e f = inl (omega arith, omega arith)

below_diagonal : (a b c d p q : ℕ) → p * p < 2 * (q * q) → a ≡ c + p → b + q ≡ d → IsLess a b c d
below_diagonal a b c d p q h e f =
    let s = square-same (a - c) p (omega arith) in
    let t = square-same (d - b) q (omega arith) in
    elim (cases_lt 0 q) [
      | inl some ↦ inr (inl (omega (arith, e), omega (arith, f), omega (arith, h, s, t)))
      | inr none ↦ absurd (let z : q ≡ 0 = omega (arith, none) in let zz = square-same q 0 z in
          omega (arith, h, zz))
    ]

below_straight : (a b c d p q : ℕ) → 2 * (q * q) < p * p → a + p ≡ c → b ≡ d + q → IsLess a b c d
below_straight a b c d p q h e f =
    let s = square-same (c - a) p (omega arith) in
    let t = square-same (b - d) q (omega arith) in
    let less : a < c = elim (cases_lt 0 p) [
      | inl some ↦ omega (arith, some, e)
      | inr none ↦ absurd (let z : p ≡ 0 = omega (arith, none) in let zz = square-same p 0 z in
          omega (arith, h, zz))
    ] in
    elim (cases_lt 0 q) [
      | inl some ↦ inr (inr (less, omega (arith, f, some), omega (arith, h, s, t)))
      | inr none ↦ inl (less, omega (arith, f, none))
    ]

pub IsLess-from_IsMoreBy : (a b c d : ℕ) → IsMoreBy a b c d → IsLess a b c d
IsLess-from_IsMoreBy a b c d (inl (p, q, h, e, f)) = below_both a b c d p q h e f
IsLess-from_IsMoreBy a b c d (inr (inl (p, q, h, e, f))) = below_diagonal a b c d p q h e f
IsLess-from_IsMoreBy a b c d (inr (inr (p, q, h, e, f))) = below_straight a b c d p q h e f

-- ---- the sum of two of the three

both_and_both
    : (a b c d p q r s : ℕ) → 0 < p → 0 < r → a + (p + r) ≡ c → b + (q + s) ≡ d → IsLess a b c d
both_and_both a b c d p q r s h k e f = below_both a b c d (p + r) (q + s) (omega arith) e f

diagonal_and_diagonal : (a b c d p q r s : ℕ) → p * p < 2 * (q * q) → r * r < 2 * (s * s)
    → a ≡ c + (p + r) → b + (q + s) ≡ d → IsLess a b c d
diagonal_and_diagonal a b c d p q r s h k e f =
    let least : p * p ≤ 2 * (q * q) = omega (arith, h) in
    below_diagonal a b c d (p + r) (q + s) (sum_below_double p q r s least k) e f

straight_and_straight : (a b c d p q r s : ℕ) → 2 * (q * q) < p * p → 2 * (s * s) < r * r
    → a + (p + r) ≡ c → b ≡ d + (q + s) → IsLess a b c d
straight_and_straight a b c d p q r s h k e f =
    let least : 2 * (q * q) ≤ p * p = omega (arith, h) in
    below_straight a b c d (p + r) (q + s) (sum_above_double p q r s least k) e f

both_and_diagonal : (a b c d p q r s : ℕ) → 0 < p → r * r < 2 * (s * s) → a + p ≡ c + r
    → b + (q + s) ≡ d → IsLess a b c d
both_and_diagonal a b c d p q r s h k e f =
    elim (cases_lt r p) [
      | inl less ↦ below_both a b c d (p - r) (q + s) (omega arith) (omega arith) f
      | inr most ↦ below_diagonal a b c d (r - p) (q + s)
          (square_lt_of_double (r - p) (q + s) r s (omega arith) k (omega arith)) (omega arith) f
    ]

both_and_straight : (a b c d p q r s : ℕ) → 0 < p → 2 * (s * s) < r * r → a + (p + r) ≡ c
    → b + q ≡ d + s → IsLess a b c d
both_and_straight a b c d p q r s h k e f =
    elim (cases_lt q s) [
      | inl less ↦ below_straight a b c d (p + r) (s - q)
          (double_lt_of_square (p + r) (s - q) r s (omega arith) k (omega arith)) e (omega arith)
      | inr most ↦ below_both a b c d (p + r) (q - s) (omega arith) e (omega arith)
    ]

-- -p + q√2 and r - s√2, each more than 0, where their sum is m - n√2, n√2 - m, m + n√2 or -m - n√2
less_straight : (p q r s m n : ℕ) → p * p < 2 * (q * q) → 2 * (s * s) < r * r → p ≡ r + m
    → q ≡ s + n → m * m < 2 * (n * n)
less_straight p q r s m n h k e f =
    elim (cases_lt (m * m) (2 * (n * n))) [
      | inl less ↦ less
      | inr most ↦ absurd (
          let sum = sum_above_double m n r s most k in
          let left = square-same p (m + r) (omega (arith, e)) in
          let right = square-same q (n + s) (omega (arith, f)) in
          omega (arith, sum, left, right, h)
          )
    ]

less_diagonal : (p q r s m n : ℕ) → p * p < 2 * (q * q) → 2 * (s * s) < r * r → r ≡ p + m
    → s ≡ q + n → 2 * (n * n) < m * m
less_diagonal p q r s m n h k e f =
    elim (cases_lt (2 * (n * n)) (m * m)) [
      | inl less ↦ less
      | inr most ↦ absurd (
          let sum = sum_below_double m n p q most h in
          let left = square-same r (m + p) (omega (arith, e)) in
          let right = square-same s (n + q) (omega (arith, f)) in
          omega (arith, sum, left, right, k)
          )
    ]

never_both_less : (p q r s : ℕ) → p * p < 2 * (q * q) → 2 * (s * s) < r * r → r ≤ p → q ≤ s → ⊥
never_both_less p q r s h k e f = let l = double_lt_of_square p q r s e k f in omega (arith, h, l)

diagonal_and_straight : (a b c d p q r s : ℕ) → p * p < 2 * (q * q) → 2 * (s * s) < r * r
    → a + r ≡ c + p → b + q ≡ d + s → IsLess a b c d
diagonal_and_straight a b c d p q r s h k e f = go (cases_lt r p) (cases_lt s q)
  where
    go : (r < p) ⊎ (p ≤ r) → (s < q) ⊎ (q ≤ s) → IsLess a b c d
    go (inl x) (inl y) =
        below_diagonal a b c d (p - r) (q - s)
        (less_straight p q r s (p - r) (q - s) h k (omega (arith, x)) (omega (arith, y)))
        (omega (arith, e, x)) (omega (arith, f, y))
    go (inl x) (inr y) =
        let small : r ≤ p = omega (arith, x) in absurd (never_both_less p q r s h k small y)
    go (inr x) (inl y) =
        elim (cases_lt p r) [
          | inl z ↦ below_both a b c d (r - p) (q - s) (omega (arith, z)) (omega (arith, e, z))
              (omega (arith, f, y))
          | inr z ↦
              let some = square_of_double_lt 0 (q - s) (omega (arith, y)) in
              below_diagonal a b c d 0 (q - s) (omega (arith, some)) (omega (arith, e, x, z))
              (omega (arith, f, y))
        ]
    go (inr x) (inr y) =
        below_straight a b c d (r - p) (s - q)
        (less_diagonal p q r s (r - p) (s - q) h k (omega (arith, x)) (omega (arith, y)))
        (omega (arith, e, x)) (omega (arith, f, y))

-- ---- the laws

transitive_by : (a b c d e f : ℕ) → IsMoreBy a b c d → IsMoreBy c d e f → IsLess a b e f
transitive_by a b c d e f (inl (p, q, h, x, y)) (inl (r, s, k, z, w)) =
    both_and_both a b e f p q r s h k (omega (arith, x, z)) (omega (arith, y, w))
transitive_by a b c d e f (inl (p, q, h, x, y)) (inr (inl (r, s, k, z, w))) =
    both_and_diagonal a b e f p q r s h k (omega (arith, x, z)) (omega (arith, y, w))
transitive_by a b c d e f (inl (p, q, h, x, y)) (inr (inr (r, s, k, z, w))) =
    both_and_straight a b e f p q r s h k (omega (arith, x, z)) (omega (arith, y, w))
transitive_by a b c d e f (inr (inl (p, q, h, x, y))) (inl (r, s, k, z, w)) =
    both_and_diagonal a b e f r s p q k h (omega (arith, x, z)) (omega (arith, y, w))
transitive_by a b c d e f (inr (inl (p, q, h, x, y))) (inr (inl (r, s, k, z, w))) =
    diagonal_and_diagonal a b e f p q r s h k (omega (arith, x, z)) (omega (arith, y, w))
transitive_by a b c d e f (inr (inl (p, q, h, x, y))) (inr (inr (r, s, k, z, w))) =
    diagonal_and_straight a b e f p q r s h k (omega (arith, x, z)) (omega (arith, y, w))
transitive_by a b c d e f (inr (inr (p, q, h, x, y))) (inl (r, s, k, z, w)) =
    both_and_straight a b e f r s p q k h (omega (arith, x, z)) (omega (arith, y, w))
transitive_by a b c d e f (inr (inr (p, q, h, x, y))) (inr (inl (r, s, k, z, w))) =
    diagonal_and_straight a b e f r s p q k h (omega (arith, x, z)) (omega (arith, y, w))
transitive_by a b c d e f (inr (inr (p, q, h, x, y))) (inr (inr (r, s, k, z, w))) =
    straight_and_straight a b e f p q r s h k (omega (arith, x, z)) (omega (arith, y, w))

pub transitive : (a b c d e f : ℕ) → IsLess a b c d → IsLess c d e f → IsLess a b e f
transitive a b c d e f h k =
    transitive_by a b c d e f (IsMoreBy-from_IsLess a b c d h) (IsMoreBy-from_IsLess c d e f k)

pub irreflexive : (a b : ℕ) → IsLess a b a b → ⊥
irreflexive a b (inl h) = omega arith
irreflexive a b (inr (inl h)) = omega (arith, h.1)
irreflexive a b (inr (inr h)) = omega (arith, h.0)

pub never_both : (a b c d : ℕ) → IsLess a b c d → IsLess c d a b → ⊥
never_both a b c d h k = irreflexive a b (transitive a b c d a b h k)

-- more straight and less diagonal: the greater square decides
total_across
    : (a b c d : ℕ) → a < c → d < b → IsLess a b c d ⊎ (((a ≡ c) × (b ≡ d)) ⊎ IsLess c d a b)
total_across a b c d x y = go (cases_order ((c - a) * (c - a)) (2 * ((b - d) * (b - d))))
  where
    go : ((c - a) * (c - a) ≡ 2 * ((b - d) * (b - d)))
        ⊎ (((c - a) * (c - a) < 2 * ((b - d) * (b - d)))
        ⊎ (2 * ((b - d) * (b - d)) < (c - a) * (c - a)))
        → IsLess a b c d ⊎ (((a ≡ c) × (b ≡ d)) ⊎ IsLess c d a b)
    go (inl e) = let none = only_zero (c - a) (b - d) e in absurd (omega (arith, none.0, x))
    go (inr (inl h)) = inr (inr (inr (inl (omega (arith, x), y, h))))
    go (inr (inr h)) = inl (inr (inr (x, y, h)))

-- more diagonal and the same straight
below_equal : (a b c d : ℕ) → a ≡ c → b < d → IsLess a b c d
below_equal a b c d e h =
    let some = square_of_double_lt 0 (d - b) (omega (arith, h)) in
    below_diagonal a b c d 0 (d - b) (omega (arith, some)) (omega (arith, e)) (omega (arith, h))

pub total : (a b c d : ℕ) → IsLess a b c d ⊎ (((a ≡ c) × (b ≡ d)) ⊎ IsLess c d a b)
total a b c d = go (cases_order a c) (cases_order b d)
  where
    go : (a ≡ c) ⊎ ((a < c) ⊎ (c < a)) → (b ≡ d) ⊎ ((b < d) ⊎ (d < b)) → IsLess a b c d
        ⊎ (((a ≡ c) × (b ≡ d)) ⊎ IsLess c d a b)
    go (inl e) (inl f) = inr (inl (e, f))
    go (inl e) (inr (inl y)) = inl (below_equal a b c d e y)
    go (inl e) (inr (inr y)) = inr (inr (below_equal c d a b (sym e) y))
    go (inr (inl x)) (inl f) = inl (inl (x, omega (arith, f)))
    go (inr (inl x)) (inr (inl y)) = inl (inl (x, omega (arith, y)))
    go (inr (inl x)) (inr (inr y)) = total_across a b c d x y
    go (inr (inr x)) (inl f) = inr (inr (inl (x, omega (arith, f))))
    go (inr (inr x)) (inr (inl y)) = elim (total_across c d a b x y) [
      | inl h ↦ inr (inr h)
      | inr (inl h) ↦ inr (inl (sym h.0, sym h.1))
      | inr (inr h) ↦ inl h
    ]
    go (inr (inr x)) (inr (inr y)) = inr (inr (inl (x, omega (arith, y))))
