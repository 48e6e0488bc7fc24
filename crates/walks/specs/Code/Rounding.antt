-- The least number of a length that is not below another number. No limit is set to the parts of
-- the length.
use Rattle.std.specs.Prelude.{ℕ, zero, suc, ◌+◌, ◌-◌, ◌*◌, ◌/◌, ◌%◌, max, min}

-- as many straight steps as lead to a number or past it
abbrev pub steps_to : ℕ → ℕ
steps_to number = number / 6625109 + min 1 (number % 6625109)

-- the least one of the lengths with so many diagonal steps
abbrev pub least_with : (number diagonal : ℕ) → ℕ
least_with number diagonal =
    diagonal * 9369319 + max (steps_to (number - diagonal * 9369319)) 1 * 6625109

-- that of the lengths with at most so many
unfoldable pub least_up_to : (number diagonal : ℕ) → ℕ
least_up_to number zero = least_with number 0
least_up_to number (suc d) = min (least_up_to number d) (least_with number (d + 1))

-- more diagonal steps than lead past the number make no lesser one
abbrev pub rounded : ℕ → ℕ
rounded number = least_up_to number (number / 9369319 + 1)
