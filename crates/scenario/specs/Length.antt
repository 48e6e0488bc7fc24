-- The order of lengths straight + diagonal * √2, decided by whole numbers.
use Rattle.std.specs.Prelude.{◌≡◌, ℕ, ◌+◌, ◌-◌, ◌*◌, ◌^◌, ◌<◌, ◌≤◌, ◌⊎◌}

-- a + b√2 is less than c + d√2: decided by the signs of the differences where one part is less and
-- the other is not greater, and else by their squares
abbrev pub IsLess : (a b c d : ℕ) → Type 0
IsLess a b c d =
    ((a < c) × (b ≤ d))
    ⊎ (((c ≤ a) × (b < d) × ((a - c) * (a - c) < 2 * ((d - b) * (d - b))))
    ⊎ ((a < c) × (d < b) × (2 * ((b - d) * (b - d)) < (c - a) * (c - a))))

-- it is less, or the parts are equal
abbrev pub IsAtMost : (a b c d : ℕ) → Type 0
IsAtMost a b c d = IsLess a b c d ⊎ ((a ≡ c) × (b ≡ d))

-- n / 10^decimals and straight + diagonal * √2 differ by at most one unit of the last written
-- decimal: n - 1 ≤ 10^decimals * (straight + diagonal * √2) ≤ n + 1
abbrev pub Agrees : (n decimals straight diagonal : ℕ) → Type 0
Agrees n decimals straight diagonal =
    IsAtMost n 0 (10 ^ decimals * straight + 1) (10 ^ decimals * diagonal)
    × IsAtMost (10 ^ decimals * straight) (10 ^ decimals * diagonal) (n + 1) 0
