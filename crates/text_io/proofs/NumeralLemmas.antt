-- Numbers up to a limit, digit by digit.
use Rattle.std.proofs.Common.{◌≡◌, ℕ, ◌+◌, ◌-◌, ◌*◌, ◌^◌, ◌<◌, ◌≤◌, ◌⊎◌, inl, inr, true, false, List, [], ◌∷◌, ◌++◌, length, take, drop, get_or, Some, None, refl, sym, ap, ◌∙◌, arith, add-one}
use Rattle.std.specs.Prelude.{nat_lt, not, ◌&&◌}
use Rattle.std.specs.List.{list_all}
use Rattle.std.specs.Char.{is_ascii_digit, digit_value}
use Rattle.std.specs.Str.Parse.{digits_value_after}
use Rattle.std.proofs.Math.Nat.{pow-suc, pow-le-pow_right}
use Rattle.std.proofs.lemmas.Bool.{cond-true, cond-false, and_parts, and_from, and_left, and_right, leb-true, lt-ltb, le-ltb, not_from_false}
use Rattle.std.proofs.lemmas.Int.Digits.{digits_value_more}
use Rattle.std.proofs.lemmas.List.{drop_more, take_more}
use Rattle.std.proofs.lemmas.List.Folds.{list_all-append}
use Rattle.text_io.specs.Numerals.{has_leading_zero, is_numeral, numeral_value, is_below, numeral_below, BeginsWithNumber}
use Rattle.text_io.specs.Laws.Numerals.{digit_value-is, below-says}
use Rattle.text_io.specs.Laws.Parts.{about}

-- ---- digit by digit

-- more digits make no lesser number
value_after-least : (start : ℕ) (bytes : List ℕ) → start ≤ digits_value_after 10 start bytes
value_after-least start [] = omega arith
value_after-least start (b ∷ bytes) = let more = value_after-least (start * 10 + digit_value b) bytes in omega (arith, more)

-- one more digit
pub value_after-next : (bytes : List ℕ) (i value digit : ℕ) → i < length bytes → is_ascii_digit (get_or bytes i 0) ≡ true → digit ≡ get_or bytes i 0 - 48
    → digits_value_after 10 value (drop i bytes) ≡ digits_value_after 10 (value * 10 + digit) (drop (i + 1) bytes)
value_after-next bytes i value digit within test is =
    ap (digits_value_after 10 value) (drop_more bytes i 0 within)
    ∙ ap (λ d. digits_value_after 10 (value * 10 + d) (drop (i + 1) bytes)) (digit_value-is (get_or bytes i 0) digit test is)

-- with one more digit the number is too large, and so is the whole
pub value_after-large : (bytes : List ℕ) (i value digit limit : ℕ) → i < length bytes → is_ascii_digit (get_or bytes i 0) ≡ true
    → digit ≡ get_or bytes i 0 - 48 → limit ≤ value * 10 + digit → limit ≤ digits_value_after 10 value (drop i bytes)
value_after-large bytes i value digit limit within test is large =
    let next = value_after-next bytes i value digit within test is in
    let least = value_after-least (value * 10 + digit) (drop (i + 1) bytes) in
    omega (arith, next, least, large)

-- ---- tests

-- where a test of its bytes or its size fails, nothing is found
pub below-none : (limit : ℕ) (digits : List ℕ) → (list_all is_ascii_digit digits ≡ false) ⊎ (limit ≤ numeral_value digits) → numeral_below limit digits ≡ None
below-none limit digits (inl none) =
    cond-false (is_below limit digits) (Some (numeral_value digits)) None
    (and_left (is_numeral digits) (nat_lt (numeral_value digits) limit)
    (and_left (nat_lt 0 (length digits) && list_all is_ascii_digit digits) (not (has_leading_zero digits))
    (and_right (nat_lt 0 (length digits)) (list_all is_ascii_digit digits) none)))
below-none limit digits (inr large) =
    cond-false (is_below limit digits) (Some (numeral_value digits)) None
    (and_right (is_numeral digits) (nat_lt (numeral_value digits) limit) (le-ltb (numeral_value digits) limit large))

-- where each passes, the number is
pub below-some : (limit n : ℕ) (digits : List ℕ) → 0 < length digits → has_leading_zero digits ≡ false → list_all is_ascii_digit digits ≡ true
    → n ≡ numeral_value digits → n < limit → numeral_below limit digits ≡ Some n
below-some limit n digits some zero all is small =
    cond-true (is_below limit digits) (Some (numeral_value digits)) None
    (and_from (is_numeral digits) (nat_lt (numeral_value digits) limit)
    (and_from (nat_lt 0 (length digits) && list_all is_ascii_digit digits) (not (has_leading_zero digits))
    (and_from (nat_lt 0 (length digits)) (list_all is_ascii_digit digits) (lt-ltb 0 (length digits) some) all)
    (not_from_false (has_leading_zero digits) zero))
    (lt-ltb (numeral_value digits) limit (omega (arith, is, small))))
    ∙ ap Some (sym is)

-- ---- digits

-- one more digit
pub digits_more : (bytes : List ℕ) (i : ℕ) → i < length bytes → list_all is_ascii_digit (take i bytes) ≡ true → is_ascii_digit (get_or bytes i 0) ≡ true
    → list_all is_ascii_digit (take (i + 1) bytes) ≡ true
digits_more bytes i within all digit =
    ap (list_all is_ascii_digit) (take_more bytes i 0 within)
    ∙ (list_all-append is_ascii_digit (take i bytes) (get_or bytes i 0 ∷ [])
    ∙ and_from (list_all is_ascii_digit (take i bytes)) (list_all is_ascii_digit (get_or bytes i 0 ∷ [])) all
    (and_from (is_ascii_digit (get_or bytes i 0)) true digit refl))

pub value_more : (bytes : List ℕ) (i value digit : ℕ) → i < length bytes → is_ascii_digit (get_or bytes i 0) ≡ true → digit ≡ get_or bytes i 0 - 48
    → value ≡ numeral_value (take i bytes) → value * 10 + digit ≡ numeral_value (take (i + 1) bytes)
value_more bytes i value digit within test is value_is =
    let more = digits_value_more 10 bytes i within in
    let last = digit_value-is (get_or bytes i 0) digit test is in
    omega (arith, more, last, value_is)

pub digit_at_most : (b digit : ℕ) → is_ascii_digit b ≡ true → digit ≡ b - 48 → digit ≤ 9
digit_at_most b digit test is = let parts = and_parts _ _ test in let most = leb-true b 57 parts.1 in omega (arith, most, is)

-- so many digits are below a power of ten
pub small_more : (i value digit : ℕ) → value < 10 ^ i → digit ≤ 9 → value * 10 + digit < 10 ^ (i + 1)
small_more i value digit small least =
    let power : 10 ^ (i + 1) ≡ 10 ^ i * 10 = ap (λ n. 10 ^ n) (add-one i) ∙ pow-suc 10 i in
    omega (arith, power, small, least)

-- and nineteen do not overflow
pub digits_fit : (i value digit : ℕ) → i < 19 → value < 10 ^ i → digit ≤ 9 → value * 10 + digit < 2 ^ 64
digits_fit i value digit few small least =
    let most : 10 ^ i ≤ 10 ^ 18 = pow-le-pow_right {n = 10} (omega arith) {i = i} {j = 18} (omega (arith, few)) in
    omega (arith, most, small, least)

-- ---- a number

pub begins_number : (bytes : List ℕ) (ending value count : ℕ) → count < length bytes → get_or bytes count 0 ≡ ending → 0 < length (take count bytes)
    → has_leading_zero (take count bytes) ≡ false → list_all is_ascii_digit (take count bytes) ≡ true → value ≡ numeral_value (take count bytes)
    → value < 2 ^ 64 → BeginsWithNumber (2 ^ 64) value ending bytes (drop (count + 1) bytes)
begins_number bytes ending value count within ends some zero all is small =
    let digits = take count bytes in
    let says = below-says (2 ^ 64) value digits (below-some (2 ^ 64) value digits some zero all is small) in
    (digits, about bytes count within ∙ ap (λ b. digits ++ b ∷ drop (count + 1) bytes) ends, says.0, small)
