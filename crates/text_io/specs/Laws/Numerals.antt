-- Numbers as they are written: each has one spelling, and digits are told from other bytes.
use Rattle.std.proofs.Common.{◌≡◌, ℕ, ◌+◌, ◌-◌, ◌*◌, ◌^◌, ◌%◌, ◌<◌, ◌⊎◌}
use Rattle.std.proofs.Common.{min, true, false, List, [], ◌∷◌, ◌++◌, length, drop}
use Rattle.std.proofs.Common.{get_or, Some, None, refl, sym, ap, ◌∙◌, subst, arith}
use Rattle.std.proofs.Common.{rules, IsTrue, inl, inr, add-one, drop-cons}
use Rattle.std.specs.Prelude.{decimal, nat_lt, not}
use Rattle.std.specs.List.{list_all}
use Rattle.std.specs.Char.{is_ascii_digit, digit_value}
use Rattle.std.specs.Str.Parse.{digits_value, digits_value_after}
use Rattle.std.proofs.lemmas.Bool.{and_parts, and_from, lt-ltb, ltb-true, le-leb}
use Rattle.std.proofs.lemmas.Bool.{leb-true, eqb-false, ne_eqb, not-true, not_from_false}
use Rattle.std.proofs.lemmas.Bool.{cases_eq, cases_Bool, cond-true, cond-false}
use Rattle.std.proofs.lemmas.Fmt.{decimal-digits_value, decimal_nonempty, decimal_digit}
use Rattle.std.proofs.lemmas.Fmt.{decimal_by_steps, first_decimal, decimal_is_IsNumeral}
use Rattle.std.proofs.lemmas.List.Folds.{list_all-append}
use Rattle.std.proofs.lemmas.Str.{digit_value_digit}
use Rattle.std.proofs.lemmas.Str.Parse.{IsNumeralModel, IsDigitsTest, numerals_by_value}
use Rattle.text_io.specs.Numerals.{HasNoLeadingZero, IsNumeral, has_leading_zero, is_numeral}
use Rattle.text_io.specs.Numerals.{numeral_value, is_below, numeral_below}

-- ---- digits

-- the code of a digit
code_is_digit : (d : ℕ) → d < 10 → is_ascii_digit (48 + d) ≡ true
code_is_digit d h =
    and_from _ _ (le-leb 48 (48 + d) (omega arith)) (le-leb (48 + d) 57 (omega arith))

-- one more digit
pub digits-more : (digits : List ℕ) (n : ℕ) → IsTrue (list_all is_ascii_digit digits)
    → IsTrue (list_all is_ascii_digit (digits ++ (48 + n % 10) ∷ []))
digits-more digits n h =
    list_all-append is_ascii_digit digits ((48 + n % 10) ∷ [])
    ∙ and_from (list_all is_ascii_digit digits) _ h
    (and_from (is_ascii_digit (48 + n % 10)) true (code_is_digit (n % 10) (omega arith)) refl)

-- a number is written in digits
pub digits-decimal : (n : ℕ) → n < 2 ^ 64 → IsTrue (list_all is_ascii_digit (decimal n))
digits-decimal n h =
    decimal_by_steps (λ _ ds. IsTrue (list_all is_ascii_digit ds))
    (λ k small. and_from (is_ascii_digit (48 + k)) true (code_is_digit k small) refl)
    (λ k ds large rest. digits-more ds k rest) n h

-- the value of a digit
pub digit_value-is
    : (b digit : ℕ) → is_ascii_digit b ≡ true → digit ≡ b - 48 → digit_value b ≡ digit
digit_value-is b digit test is =
    let parts = and_parts _ _ test in
    let value = digit_value_digit b (leb-true 48 b parts.0, leb-true b 57 parts.1) in
    omega (arith, value)

-- where numbers past most are not told apart, neither are those with more digits behind them
pub value_after-min : (start most : ℕ) (bytes : List ℕ)
    → min (digits_value_after 10 (min start most) bytes) most
    ≡ min (digits_value_after 10 start bytes) most
value_after-min start most [] = omega arith
value_after-min start most (b ∷ bytes) =
    let next : min (min start most * 10 + digit_value b) most
    ≡ min (start * 10 + digit_value b) most = omega arith in
    sym (value_after-min (min start most * 10 + digit_value b) most bytes)
    ∙ (ap (λ n. min (digits_value_after 10 n bytes) most) next
    ∙ value_after-min (start * 10 + digit_value b) most bytes)

-- one more digit
pub value_after-digit : (bytes : List ℕ) (i value digit more most : ℕ) → i < length bytes
    → is_ascii_digit (get_or bytes i 0) ≡ true
    → digit ≡ get_or bytes i 0 - 48 → more ≡ min (value * 10 + digit) most
    → min (digits_value_after 10 more (drop (i + 1) bytes)) most
    ≡ min (digits_value_after 10 value (drop i bytes)) most
value_after-digit bytes i value digit more most within test is next =
    let digit_is = digit_value-is (get_or bytes i 0) digit test is in
    let sum : more ≡ min (value * 10 + digit_value (get_or bytes i 0)) most =
    omega (arith, digit_is) in
    let rest : drop i bytes ≡ get_or bytes i 0 ∷ drop (i + 1) bytes =
    rw (add-one, drop-cons bytes i 0) in
    ap (λ n. min (digits_value_after 10 n (drop (i + 1) bytes)) most) sum
    ∙ (value_after-min (value * 10 + digit_value (get_or bytes i 0)) most (drop (i + 1) bytes)
    ∙ ap (λ xs. min (digits_value_after 10 value xs) most) (sym rest))

-- ---- the test of a number

zero-from_test : (digits : List ℕ) → has_leading_zero digits ≡ false → HasNoLeadingZero digits
zero-from_test [] h = tt
zero-from_test (d ∷ []) h = tt
zero-from_test (d ∷ e ∷ digits) h = eqb-false d 48 h

test-from_zero : (digits : List ℕ) → HasNoLeadingZero digits → has_leading_zero digits ≡ false
test-from_zero [] h = refl
test-from_zero (d ∷ []) h = refl
test-from_zero (d ∷ e ∷ digits) h = ne_eqb d 48 h

pub IsNumeral-from_test
    : (digits : List ℕ) → is_numeral digits ≡ true → IsNumeral (numeral_value digits) digits
IsNumeral-from_test digits h =
    let outer = and_parts _ (not (has_leading_zero digits)) h in
    let inner = and_parts (nat_lt 0 (length digits)) (list_all is_ascii_digit digits) outer.0 in
    record {
      spells = (inner.1, ltb-true 0 (length digits) inner.0, refl);
      shortest = zero-from_test digits (not-true (has_leading_zero digits) outer.1);
    }

pub test-from_IsNumeral : (n : ℕ) (digits : List ℕ) → IsNumeral n digits → is_numeral digits ≡ true
test-from_IsNumeral n digits h =
    and_from _ (not (has_leading_zero digits))
    (and_from (nat_lt 0 (length digits)) (list_all is_ascii_digit digits)
    (lt-ltb 0 (length digits) h.spells.1) h.spells.0)
    (not_from_false (has_leading_zero digits) (test-from_zero digits h.shortest))

-- ---- the digits of a number

digits_test : IsDigitsTest (λ ds. IsTrue (list_all is_ascii_digit ds))
digits_test = search rules

numerals : IsNumeralModel (λ ds. IsTrue (list_all is_ascii_digit ds)) (digits_value 10)
numerals = numerals_by_value (λ ds. IsTrue (list_all is_ascii_digit ds)) digits_test

zero_alone : (digits : List ℕ) → HasNoLeadingZero digits → 0 < length digits
    → get_or digits 0 0 ≡ 48 → length digits ≡ 1
zero_alone [] h some e = absurd (omega arith)
zero_alone (d ∷ []) h some e = refl
zero_alone (d ∷ f ∷ digits) h some e = absurd (h e)

-- a number has one spelling
pub decimal-from_IsNumeral
    : (n : ℕ) (digits : List ℕ) → IsNumeral n digits → n < 2 ^ 64 → digits ≡ decimal n
decimal-from_IsNumeral n digits h fits =
    sym (decimal-digits_value numerals digits h.spells.0 h.spells.1
    (zero_alone digits h.shortest h.spells.1)
    (subst (λ k. k < 2 ^ 64) (sym h.spells.2) fits))
    ∙ ap decimal h.spells.2

decimal_shortest : (n : ℕ) → n < 2 ^ 64 → HasNoLeadingZero (decimal n)
decimal_shortest n fits = go (cases_eq n 0)
  where
    large : (digits : List ℕ) → 48 < get_or digits 0 0 → HasNoLeadingZero digits
    large [] h = tt
    large (d ∷ []) h = tt
    large (d ∷ e ∷ digits) h = λ is. absurd (omega arith)

    go : (n ≡ 0) ⊎ (n ≡ 0 → ⊥) → HasNoLeadingZero (decimal n)
    go (inl e) = subst HasNoLeadingZero (sym (decimal_digit n (omega arith))) tt
    go (inr some) = large (decimal n) (first_decimal n (omega arith) fits)

pub decimal-IsNumeral : (n : ℕ) → n < 2 ^ 64 → IsNumeral n (decimal n)
decimal-IsNumeral n fits = record {
  spells = (digits-decimal n fits, decimal_nonempty n fits, (decimal_is_IsNumeral n fits).1);
  shortest = decimal_shortest n fits;
}

-- ---- numbers below a limit

pub below-from_IsNumeral : (limit n : ℕ) (digits : List ℕ) → IsNumeral n digits → n < limit
    → is_below limit digits ≡ true
below-from_IsNumeral limit n digits h small =
    and_from (is_numeral digits) _ (test-from_IsNumeral n digits h)
    (lt-ltb (numeral_value digits) limit (subst (λ k. k < limit) (sym h.spells.2) small))

pub IsNumeral-from_below : (limit : ℕ) (digits : List ℕ) → is_below limit digits ≡ true
    → IsNumeral (numeral_value digits) digits × (numeral_value digits < limit)
IsNumeral-from_below limit digits h =
    let parts = and_parts (is_numeral digits) _ h in
    (IsNumeral-from_test digits parts.0, ltb-true (numeral_value digits) limit parts.1)

-- a numeral below the limit is found
pub below-found : (limit n : ℕ) (digits : List ℕ) → IsNumeral n digits → n < limit
    → numeral_below limit digits ≡ Some n
below-found limit n digits h small =
    cond-true (is_below limit digits) (Some (numeral_value digits)) None
    (below-from_IsNumeral limit n digits h small) ∙ ap Some h.spells.2

-- what is found is one
pub below-says : (limit n : ℕ) (digits : List ℕ) → numeral_below limit digits ≡ Some n
    → IsNumeral n digits × (n < limit)
below-says limit n digits e = go (cases_Bool (is_below limit digits))
  where
    go : (is_below limit digits ≡ true) ⊎ (is_below limit digits ≡ false) → IsNumeral n digits
        × (n < limit)
    go (inl is) =
        let both = sym e ∙ cond-true (is_below limit digits)
        (Some (numeral_value digits)) None is in
        let same : numeral_value digits ≡ n = cc in
        subst (λ k. IsNumeral k digits × (k < limit)) same (IsNumeral-from_below limit digits is)
    go (inr none) =
        let both = sym e ∙ cond-false (is_below limit digits)
        (Some (numeral_value digits)) None none in
        absurd (cc)
