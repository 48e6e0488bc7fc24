-- Listed lengths: what the parts around a point spell.
use Rattle.std.proofs.Common.{◌≡◌, ℕ, zero, suc, ◌+◌, ◌-◌, ◌*◌, ◌^◌, ◌<◌, ◌≤◌, min, Bool, true}
use Rattle.std.proofs.Common.{false, cond, List, [], ◌∷◌, ◌++◌, ◌⊎◌, inl, inr, length, take, drop}
use Rattle.std.proofs.Common.{Some, refl, sym, ap, ◌∙◌, subst, arith, add-suc}
use Rattle.std.specs.Prelude.{nat_lt, not, IsTrue, ◌&&◌, ◌||◌, ◌==◌}
use Rattle.std.specs.List.{list_all}
use Rattle.std.specs.Char.{is_ascii_digit, digit_value}
use Rattle.std.specs.Str.Parse.{digits_value_after}
use Rattle.std.proofs.lemmas.Bool.{and_parts, and_from, or_cases, or_left, or_right, eqb-true, eq-eqb, ne_eqb, ltb-true, lt-ltb, leb-true}
use Rattle.std.proofs.lemmas.List.{length-append}
use Rattle.std.proofs.lemmas.List.Folds.{list_all-append}
use Rattle.std.proofs.lemmas.Str.{digit_value_digit}
use Rattle.std.proofs.Math.Nat.{pow-succ'}
use Rattle.scenario.specs.Code.Parsing.{most_told, spelled_after, point_at, whole_of, after_of, is_listed_form, is_listed, listed_value}
use Rattle.scenario.specs.Query.{point}
use Rattle.scenario.specs.ScenText.{SpellsListed}
use Rattle.scenario.proofs.NumberLemmas.{some_from_test}

-- powers of ten grow
ten_pow-grows : (i n : ℕ) → 10 ^ i ≤ 10 ^ (i + n)
ten_pow-grows i zero = let same : i + 0 ≡ i = omega arith in omega (arith, ap (λ k. 10 ^ k) same)
ten_pow-grows i (suc n) =
    let more : 10 ^ (i + suc n) ≡ 10 * 10 ^ (i + n) = ap (λ k. 10 ^ k) (add-suc i n) ∙ pow-succ' 10 (i + n) in
    let rest = ten_pow-grows i n in
    omega (arith, more, rest)

pub ten_pow-mono : (i j : ℕ) → i ≤ j → 10 ^ i ≤ 10 ^ j
ten_pow-mono i j h =
    let sum : i + (j - i) ≡ j = omega arith in
    let grows = ten_pow-grows i (j - i) in
    omega (arith, ap (λ k. 10 ^ k) sum)

-- the value of a digit is below ten
digit_value-small : (b : ℕ) → is_ascii_digit b ≡ true → digit_value b ≤ 9
digit_value-small b test =
    let parts = and_parts _ _ test in
    let high : b ≤ 57 = leb-true b 57 parts.1 in
    let value = digit_value_digit b (leb-true 48 b parts.0, high) in
    omega (arith, value)

-- so many more digits make a number at most so many powers of ten greater
pub value_after-lt : (n k : ℕ) (digits : List ℕ) → list_all is_ascii_digit digits ≡ true → n < 10 ^ k
    → digits_value_after 10 n digits < 10 ^ (k + length digits)
value_after-lt n k [] h small = let same : k + 0 ≡ k = omega arith in omega (arith, ap (λ i. 10 ^ i) same)
value_after-lt n k (b ∷ digits) h small =
    let parts = and_parts (is_ascii_digit b) (list_all is_ascii_digit digits) h in
    let digit = digit_value-small b parts.0 in
    let power : 10 ^ suc k ≡ 10 * 10 ^ k = pow-succ' 10 k in
    let next : n * 10 + digit_value b < 10 ^ suc k = omega (arith, power, digit) in
    let rest = value_after-lt (n * 10 + digit_value b) (suc k) digits parts.1 next in
    let same : suc k + length digits ≡ k + length (b ∷ digits) = omega arith in
    omega (arith, rest, ap (λ i. 10 ^ i) same)

-- what a field of a listed length spells, within its limits
pub record IsRead (bytes after : List ℕ) (value : ℕ) : Type 0 where
  pub listed : is_listed bytes ≡ true
  pub value_is : value ≡ listed_value bytes
  pub decimals : length after ≡ length (after_of bytes)
  pub decimals_limit : length after ≤ 12
  pub digits_limit : value < 10 ^ (7 + length after)

-- the value of a field in the form of a listed length, whose parts are digits
pub is_read : (bytes whole after : List ℕ) (first value : ℕ) → whole ≡ whole_of bytes → after ≡ after_of bytes → is_listed_form bytes ≡ true
    → Some first ≡ spelled_after 0 whole → Some value ≡ spelled_after first after → IsRead bytes after value
is_read bytes whole after first value whole_is after_is form reads_whole reads_after =
    let in_form : IsTrue (nat_lt 0 (length (whole_of bytes)) && nat_lt (length (whole_of bytes)) 8 && nat_lt (length (after_of bytes)) 13)
    × IsTrue (nat_lt 0 (length (after_of bytes)) || point_at bytes == length bytes) = and_parts _ _ form in
    let in_limits : IsTrue (nat_lt 0 (length (whole_of bytes)) && nat_lt (length (whole_of bytes)) 8) × IsTrue (nat_lt (length (after_of bytes)) 13) =
    and_parts _ _ in_form.0 in
    let in_whole : IsTrue (nat_lt 0 (length (whole_of bytes))) × IsTrue (nat_lt (length (whole_of bytes)) 8) = and_parts _ _ in_limits.0 in
    let few : length (whole_of bytes) < 8 = ltb-true _ _ in_whole.1 in
    let few_after : length (after_of bytes) < 13 = ltb-true _ _ in_limits.1 in
    let left = some_from_test _ _ _ (subst (λ xs. Some first ≡ spelled_after 0 xs) whole_is reads_whole) in
    let right : (list_all is_ascii_digit (after_of bytes) ≡ true) × (value ≡ min (digits_value_after 10 first (after_of bytes)) most_told) =
    some_from_test _ _ _ (subst (λ xs. Some value ≡ spelled_after first xs) after_is reads_after) in
    let whole_small : digits_value_after 10 0 (whole_of bytes) < 10 ^ (0 + length (whole_of bytes)) =
    value_after-lt 0 0 (whole_of bytes) left.0 (omega arith) in
    let seven : 10 ^ (0 + length (whole_of bytes)) ≤ 10 ^ 7 = ten_pow-mono (0 + length (whole_of bytes)) 7 (omega arith) in
    let first_is : first ≡ digits_value_after 10 0 (whole_of bytes) = omega (arith, left.1, whole_small, seven) in
    let all_small : digits_value_after 10 first (after_of bytes) < 10 ^ (7 + length (after_of bytes)) =
    value_after-lt first 7 (after_of bytes) right.0 (omega (arith, first_is, whole_small, seven)) in
    let nineteen : 10 ^ (7 + length (after_of bytes)) ≤ 10 ^ 19 = ten_pow-mono (7 + length (after_of bytes)) 19 (omega arith) in
    let value_is : value ≡ digits_value_after 10 first (after_of bytes) = omega (arith, right.1, all_small, nineteen) in
    let decimals : length after ≡ length (after_of bytes) = ap length after_is in
    let limit : value < 10 ^ (7 + length (after_of bytes)) = omega (arith, value_is, all_small) in
    record {
      listed = and_from _ _ (and_from _ _ form left.0) right.0;
      value_is = value_is ∙ ap (λ n. digits_value_after 10 n (after_of bytes)) first_is;
      decimals = decimals;
      decimals_limit = omega arith;
      digits_limit = subst (λ n. value < 10 ^ (7 + n)) (sym decimals) limit;
    }

-- ---- the parts around a point

-- no point is among digits
digit_is_no_point : (b : ℕ) → is_ascii_digit b ≡ true → (b == point) ≡ false
digit_is_no_point b test =
    let parts = and_parts _ _ test in
    let low : 48 ≤ b = leb-true 48 b parts.0 in
    ne_eqb b point (λ e. omega arith)

-- a byte that is no point goes before the others
point_at-other : (b : ℕ) (bytes : List ℕ) → (b == point) ≡ false → point_at (b ∷ bytes) ≡ suc (point_at bytes)
point_at-other b bytes e = ap (λ t. cond (not t) (1 + point_at bytes) 0) e ∙ omega arith

whole_of-other : (b : ℕ) (bytes : List ℕ) → (b == point) ≡ false → whole_of (b ∷ bytes) ≡ b ∷ whole_of bytes
whole_of-other b bytes e = ap (λ n. take n (b ∷ bytes)) (point_at-other b bytes e)

after_of-other : (b : ℕ) (bytes : List ℕ) → (b == point) ≡ false → after_of (b ∷ bytes) ≡ after_of bytes
after_of-other b bytes e =
    ap (λ n. drop (n + 1) (b ∷ bytes)) (point_at-other b bytes e)
    ∙ (let same : suc (point_at bytes) + 1 ≡ suc (point_at bytes + 1) = omega arith in ap (λ n. drop n (b ∷ bytes)) same)

-- the bytes are a whole part alone, or have a point between two parts
around_point-cases : (bytes : List ℕ)
    → ((point_at bytes ≡ length bytes) × (bytes ≡ whole_of bytes) × (after_of bytes ≡ []))
    ⊎ ((point_at bytes < length bytes) × (bytes ≡ whole_of bytes ++ point ∷ after_of bytes))
around_point-cases [] = inl (refl, refl, refl)
around_point-cases (b ∷ bytes) = go (around_point-cases bytes) (b == point) refl
  where
    go : ((point_at bytes ≡ length bytes) × (bytes ≡ whole_of bytes) × (after_of bytes ≡ []))
        ⊎ ((point_at bytes < length bytes) × (bytes ≡ whole_of bytes ++ point ∷ after_of bytes))
        → (t : Bool) → (b == point) ≡ t
        → ((point_at (b ∷ bytes) ≡ length (b ∷ bytes)) × (b ∷ bytes ≡ whole_of (b ∷ bytes)) × (after_of (b ∷ bytes) ≡ []))
        ⊎ ((point_at (b ∷ bytes) < length (b ∷ bytes)) × (b ∷ bytes ≡ whole_of (b ∷ bytes) ++ point ∷ after_of (b ∷ bytes)))
    go rest true e =
        let at : point_at (b ∷ bytes) ≡ 0 = ap (λ t. cond (not t) (1 + point_at bytes) 0) e in
        inr (
          omega (arith, at),
          ap (λ x. x ∷ bytes) (eqb-true b point e)
              ∙ sym (ap (λ n. take n (b ∷ bytes) ++ point ∷ drop (n + 1) (b ∷ bytes)) at),
        )
    go (inl h) false e =
        inl (
          point_at-other b bytes e ∙ ap suc h.0,
          ap (λ xs. b ∷ xs) h.1 ∙ sym (whole_of-other b bytes e),
          after_of-other b bytes e ∙ h.2,
        )
    go (inr h) false e =
        let less = h.0 in
        inr (
          omega (arith, point_at-other b bytes e),
          ap (λ xs. b ∷ xs) h.1
              ∙ (ap (λ xs. xs ++ point ∷ after_of bytes) (sym (whole_of-other b bytes e))
              ∙ ap (λ xs. whole_of (b ∷ bytes) ++ point ∷ xs) (sym (after_of-other b bytes e))),
        )

-- digits alone are a whole part
whole_of-digits : (digits : List ℕ) → IsTrue (list_all is_ascii_digit digits)
    → (point_at digits ≡ length digits) × (whole_of digits ≡ digits) × (after_of digits ≡ [])
whole_of-digits [] h = (refl, refl, refl)
whole_of-digits (b ∷ digits) h =
    let parts = and_parts (is_ascii_digit b) (list_all is_ascii_digit digits) h in
    let rest = whole_of-digits digits parts.1 in
    let other = digit_is_no_point b parts.0 in (
      point_at-other b digits other ∙ ap suc rest.0,
      whole_of-other b digits other ∙ ap (λ xs. b ∷ xs) rest.1,
      after_of-other b digits other ∙ rest.2,
    )

-- digits, a point and more
around_point-digits : (digits after : List ℕ) → IsTrue (list_all is_ascii_digit digits)
    → (whole_of (digits ++ point ∷ after) ≡ digits) × (after_of (digits ++ point ∷ after) ≡ after)
around_point-digits [] after h = (refl, refl)
around_point-digits (b ∷ digits) after h =
    let parts = and_parts (is_ascii_digit b) (list_all is_ascii_digit digits) h in
    let rest = around_point-digits digits after parts.1 in
    let other = digit_is_no_point b parts.0 in (
      whole_of-other b (digits ++ point ∷ after) other ∙ ap (λ xs. b ∷ xs) rest.0,
      after_of-other b (digits ++ point ∷ after) other ∙ rest.1,
    )

-- ---- what a field spells

-- more digits behind digits
digits_value-append : (n : ℕ) (digits more : List ℕ) → digits_value_after 10 n (digits ++ more) ≡ digits_value_after 10 (digits_value_after 10 n digits) more
digits_value-append n [] more = refl
digits_value-append n (b ∷ digits) more = digits_value-append (n * 10 + digit_value b) digits more

-- a field that passes the test spells its value
pub spells-from_test : (bytes : List ℕ) → is_listed bytes ≡ true → SpellsListed (listed_value bytes) (length (after_of bytes)) bytes
spells-from_test bytes h =
    let tests : IsTrue (is_listed_form bytes && list_all is_ascii_digit (whole_of bytes)) × IsTrue (list_all is_ascii_digit (after_of bytes)) =
    and_parts _ _ h in
    let first : IsTrue (is_listed_form bytes) × IsTrue (list_all is_ascii_digit (whole_of bytes)) = and_parts _ _ tests.0 in
    let in_form : IsTrue (nat_lt 0 (length (whole_of bytes)) && nat_lt (length (whole_of bytes)) 8 && nat_lt (length (after_of bytes)) 13)
    × IsTrue (nat_lt 0 (length (after_of bytes)) || point_at bytes == length bytes) = and_parts _ _ first.0 in
    let in_limits : IsTrue (nat_lt 0 (length (whole_of bytes)) && nat_lt (length (whole_of bytes)) 8) × IsTrue (nat_lt (length (after_of bytes)) 13) =
    and_parts _ _ in_form.0 in
    let in_whole : IsTrue (nat_lt 0 (length (whole_of bytes))) × IsTrue (nat_lt (length (whole_of bytes)) 8) = and_parts _ _ in_limits.0 in
    let some : 0 < length (whole_of bytes) = ltb-true _ _ in_whole.0 in
    let few : length (whole_of bytes) < 8 = ltb-true _ _ in_whole.1 in
    let few_after : length (after_of bytes) < 13 = ltb-true _ _ in_limits.1 in
    record {
      whole = whole_of bytes;
      after = after_of bytes;
      parts = elim (around_point-cases bytes) [
        | inl none ↦ inl (none.1, none.2)
        | inr at ↦ inr (
          at.1,
          elim (or_cases _ _ in_form.1) [
            | inl digits ↦ ltb-true _ _ digits
            | inr ends ↦ absurd (let past : point_at bytes ≡ length bytes = eqb-true _ _ ends in let before = at.0 in omega arith)
          ],
        )
      ];
      number = (
        list_all-append is_ascii_digit (whole_of bytes) (after_of bytes) ∙ and_from _ _ first.1 tests.1,
        omega (arith, length-append (whole_of bytes) (after_of bytes)),
        digits_value-append 0 (whole_of bytes) (after_of bytes),
      );
      some = some;
      whole_limit = omega arith;
      count = refl;
      decimals_limit = omega arith;
    }

-- a field that spells a listed length passes the test, and spells its value
pub record PassesListed (n decimals : ℕ) (bytes : List ℕ) : Type 0 where
  pub listed : is_listed bytes ≡ true
  pub value_is : n ≡ listed_value bytes
  pub decimals_is : decimals ≡ length (after_of bytes)

pub test-from_spells : (n decimals : ℕ) (bytes : List ℕ) → SpellsListed n decimals bytes → PassesListed n decimals bytes
test-from_spells n decimals bytes h = record {
  listed = and_from _ _ (and_from _ _ (and_from _ _ (and_from _ _ (and_from _ _ some few) few_after) form) (ap (list_all is_ascii_digit) (parts.0) ∙ digits.0))
      (ap (list_all is_ascii_digit) (parts.1.0) ∙ digits.1);
  value_is = sym h.number.2
      ∙ (digits_value-append 0 h.whole h.after
      ∙ (ap (λ xs. digits_value_after 10 (digits_value_after 10 0 xs) h.after) (sym parts.0)
      ∙ ap (λ xs. digits_value_after 10 (digits_value_after 10 0 (whole_of bytes)) xs) (sym parts.1.0)));
  decimals_is = sym h.count ∙ ap length (sym parts.1.0);
}
  where
    digits : IsTrue (list_all is_ascii_digit h.whole) × IsTrue (list_all is_ascii_digit h.after)
    digits = and_parts _ _ (sym (list_all-append is_ascii_digit h.whole h.after) ∙ h.number.0)

    parts : (whole_of bytes ≡ h.whole) × ((after_of bytes ≡ h.after) × ((0 < length h.after) ⊎ (point_at bytes ≡ length bytes)))
    parts = elim h.parts [
      | inl alone ↦
          let known = whole_of-digits h.whole digits.0 in
          (ap whole_of alone.0 ∙ known.1, (ap after_of alone.0 ∙ (known.2 ∙ sym alone.1), inr (ap (λ xs. point_at xs) alone.0 ∙ (known.0 ∙ ap length (sym alone.0)))))
      | inr both ↦
          let known = around_point-digits h.whole h.after digits.0 in
          (ap whole_of both.0 ∙ known.0, (ap after_of both.0 ∙ known.1, inl both.1))
    ]

    some : nat_lt 0 (length (whole_of bytes)) ≡ true
    some = lt-ltb _ _ (subst (λ xs. 0 < length xs) (sym parts.0) h.some)

    few : nat_lt (length (whole_of bytes)) 8 ≡ true
    few = lt-ltb _ _ (subst (λ xs. length xs < 8) (sym parts.0) (omega (arith, h.whole_limit)))

    few_after : nat_lt (length (after_of bytes)) 13 ≡ true
    few_after = lt-ltb _ _ (subst (λ xs. length xs < 13) (sym parts.1.0) (omega (arith, h.count, h.decimals_limit)))

    form : (nat_lt 0 (length (after_of bytes)) || point_at bytes == length bytes) ≡ true
    form = elim parts.1.1 [
      | inl more ↦ or_left _ _ (lt-ltb _ _ (subst (λ xs. 0 < length xs) (sym parts.1.0) more))
      | inr alone ↦ or_right (nat_lt 0 (length (after_of bytes))) _ (eq-eqb _ _ alone)
    ]
