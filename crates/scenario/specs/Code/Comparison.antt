-- The order of lengths as a comparison that computes.
use Rattle.std.specs.Prelude.{ℕ, ◌-◌, ◌*◌, Bool, cond, ◌&&◌, ◌||◌, nat_lt, nat_le}
use Rattle.std.specs.declared.cmp.Ordering.{Ordering}
use Rattle.std.specs.declared.cmp.Ordering.TheVariants.{Less, Equal, Greater}

-- the test of IsLess
abbrev pub is_less : (a b c d : ℕ) → Bool
is_less a b c d =
    (nat_lt a c && nat_le b d)
    || ((nat_le c a && (nat_lt b d && nat_lt ((a - c) * (a - c)) (2 * ((d - b) * (d - b)))))
    || (nat_lt a c && (nat_lt d b && nat_lt (2 * ((b - d) * (b - d))) ((c - a) * (c - a)))))

-- how a + b√2 compares with c + d√2
abbrev pub parts_cmp : (a b c d : ℕ) → Ordering
parts_cmp a b c d = cond (is_less a b c d) Less (cond (is_less c d a b) Greater Equal)
