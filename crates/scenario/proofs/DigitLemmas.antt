-- The last digits of a number.
use Rattle.std.proofs.Common.{◌≡◌, ℕ, zero, suc, ◌+◌, ◌-◌, ◌*◌, ◌^◌, ◌/◌, ◌%◌, ◌<◌, ◌≤◌, List, [], ◌∷◌, ◌++◌, length, take, drop, refl, sym, ap, ◌∙◌, arith, append_assoc, append-nil}
use Rattle.std.specs.Prelude.{IsTrue, decimal}
use Rattle.std.specs.List.{list_all}
use Rattle.std.specs.Char.{is_ascii_digit, digit_value}
use Rattle.std.specs.Str.Parse.{digits_value}
use Rattle.std.proofs.lemmas.Fmt.{decimal_digit, decimal_step, decimal_is_IsNumeral}
use Rattle.std.proofs.lemmas.Int.Digits.{digits_value_push}
use Rattle.std.proofs.lemmas.List.{length-append, take_all}
use Rattle.std.proofs.lemmas.Nat.{div-add-mod'}
use Rattle.std.proofs.lemmas.Str.{digit_value_digit}
use Rattle.std.proofs.Math.Nat.{pow-succ', div-div-eq-div-mul}
use Rattle.text_io.specs.Laws.Numerals.{digits-more}
use Rattle.scenario.specs.Query.{point, last_digits, listed_text}
use Rattle.scenario.proofs.ListedLemmas.{ten_pow-mono}

-- a power of ten is not 0
pub ten_pow-some : (count : ℕ) → 0 < 10 ^ count
ten_pow-some count = omega (arith, ten_pow-mono 0 count (omega arith))

-- so many digits
pub length-last_digits : (count n : ℕ) → length (last_digits count n) ≡ count
length-last_digits zero n = refl
length-last_digits (suc count) n =
    omega (arith, length-append (last_digits count (n / 10)) ((48 + n % 10) ∷ []), length-last_digits count (n / 10))

-- of a number in two parts only the second counts
last_digits-low : (count q r : ℕ) → last_digits count (q * 10 ^ count + r) ≡ last_digits count r
last_digits-low zero q r = refl
last_digits-low (suc count) q r =
    let power : q * 10 ^ suc count ≡ 10 * (q * 10 ^ count) = ap (λ p. q * p) (pow-succ' 10 count) ∙ omega arith in
    let front : (q * 10 ^ suc count + r) / 10 ≡ q * 10 ^ count + r / 10 = omega (arith, power) in
    let digit : (q * 10 ^ suc count + r) % 10 ≡ r % 10 = omega (arith, power) in
    ap (λ n. last_digits count n ++ (48 + (q * 10 ^ suc count + r) % 10) ∷ []) front
    ∙ (ap (λ xs. xs ++ (48 + (q * 10 ^ suc count + r) % 10) ∷ []) (last_digits-low count q (r / 10))
    ∙ ap (λ d. last_digits count (r / 10) ++ (48 + d) ∷ []) digit)

-- the last digits are those of the remainder
last_digits-rest : (count n : ℕ) → last_digits count (n % 10 ^ count) ≡ last_digits count n
last_digits-rest count n =
    sym (last_digits-low count (n / 10 ^ count) (n % 10 ^ count)) ∙ ap (last_digits count) (div-add-mod' n (10 ^ count))

-- a 1 and so many digits
decimal-marked : (count n : ℕ) → n < 10 ^ count → 10 ^ count + n < 2 ^ 64 → decimal (10 ^ count + n) ≡ 49 ∷ last_digits count n
decimal-marked zero n small fits =
    let one : 10 ^ 0 + n ≡ 1 = omega arith in
    ap decimal one ∙ decimal_digit 1 (omega arith)
decimal-marked (suc count) n small fits =
    let power = pow-succ' 10 count in
    let some = ten_pow-some count in
    let front : (10 ^ suc count + n) / 10 ≡ 10 ^ count + n / 10 = omega (arith, power) in
    let digit : (10 ^ suc count + n) % 10 ≡ n % 10 = omega (arith, power) in
    let rest : decimal (10 ^ count + n / 10) ≡ 49 ∷ last_digits count (n / 10) =
    decimal-marked count (n / 10) (omega (arith, power)) (omega (arith, power)) in
    decimal_step (10 ^ suc count + n) (omega (arith, power)) fits
    ∙ (ap (λ k. decimal k ++ (48 + (10 ^ suc count + n) % 10) ∷ []) front
    ∙ (ap (λ xs. xs ++ (48 + (10 ^ suc count + n) % 10) ∷ []) rest
    ∙ ap (λ d. (49 ∷ last_digits count (n / 10)) ++ (48 + d) ∷ []) digit))

-- twelve digits and a 1 fit
pub marked-fits : (count n scale : ℕ) → count ≤ 12 → scale ≡ 10 ^ count → scale + n % scale < 2 ^ 64
marked-fits count n scale h is =
    let some = ten_pow-some count in
    let most = ten_pow-mono count 12 h in
    omega arith

-- the number that stands for 1 is not 0
pub scale-some : (count scale : ℕ) → scale ≡ 10 ^ count → 0 < scale
scale-some count scale is = let some = ten_pow-some count in omega arith

-- so many digits behind a 1
digits_behind_one : (count n scale : ℕ) (digits : List ℕ) → count ≤ 12 → scale ≡ 10 ^ count → digits ≡ decimal (scale + n % scale)
    → digits ≡ 49 ∷ last_digits count n
digits_behind_one count n scale digits h is e =
    let some = ten_pow-some count in
    let fits = marked-fits count n (10 ^ count) h refl in
    e
    ∙ (ap (λ k. decimal (k + n % k)) is
    ∙ (decimal-marked count (n % 10 ^ count) (omega arith) fits ∙ ap (λ xs. 49 ∷ xs) (last_digits-rest count n)))

pub length-behind_one : (count n scale : ℕ) (digits : List ℕ) → count ≤ 12 → scale ≡ 10 ^ count → digits ≡ decimal (scale + n % scale)
    → length digits ≡ 1 + count
length-behind_one count n scale digits h is e =
    omega (arith, ap length (digits_behind_one count n scale digits h is e), length-last_digits count n)

-- those digits alone
pub decimals_behind_one : (count n scale : ℕ) (digits : List ℕ) → count ≤ 12 → scale ≡ 10 ^ count → digits ≡ decimal (scale + n % scale)
    → take (length digits - 1) (drop 1 digits) ≡ last_digits count n
decimals_behind_one count n scale digits h is e =
    ap (λ xs. take (length xs - 1) (drop 1 xs)) (digits_behind_one count n scale digits h is e)
    ∙ take_all (length (49 ∷ last_digits count n) - 1) (last_digits count n) (omega arith)

-- a listed length with decimals
pub listed_text-some : (n count : ℕ) → 0 < count → decimal (n / 10 ^ count) ++ ((point ∷ []) ++ last_digits count n) ≡ listed_text n count
listed_text-some n zero some = absurd (omega arith)
listed_text-some n (suc count) some = refl

-- ---- what the digits spell

pub digits-last_digits : (count n : ℕ) → IsTrue (list_all is_ascii_digit (last_digits count n))
digits-last_digits zero n = refl
digits-last_digits (suc count) n = digits-more (last_digits count (n / 10)) n (digits-last_digits count (n / 10))

-- what a number's front and its last digits spell
pub value-last_digits : (count n : ℕ) → n < 2 ^ 64 → digits_value 10 (decimal (n / 10 ^ count) ++ last_digits count n) ≡ n
value-last_digits zero n h =
    let whole : n / 10 ^ 0 ≡ n = omega arith in
    ap (digits_value 10) (append-nil (decimal (n / 10 ^ 0)))
    ∙ (ap (λ k. digits_value 10 (decimal k)) whole ∙ (decimal_is_IsNumeral n h).1)
value-last_digits (suc count) n h =
    let front : n / 10 ^ suc count ≡ n / 10 / 10 ^ count = ap (λ k. n / k) (pow-succ' 10 count) ∙ sym (div-div-eq-div-mul n 10 (10 ^ count)) in
    let whole = decimal (n / 10 ^ suc count) in
    let last : digit_value (48 + n % 10) ≡ n % 10 = omega (arith, digit_value_digit (48 + n % 10) (omega arith, omega arith)) in
    let rest : digits_value 10 (decimal (n / 10 / 10 ^ count) ++ last_digits count (n / 10)) ≡ n / 10 = value-last_digits count (n / 10) (omega arith) in
    ap (digits_value 10) (sym (append_assoc whole (last_digits count (n / 10)) ((48 + n % 10) ∷ [])))
    ∙ (digits_value_push 10 (whole ++ last_digits count (n / 10)) (48 + n % 10)
    ∙ (ap (λ k. digits_value 10 (decimal k ++ last_digits count (n / 10)) * 10 + digit_value (48 + n % 10)) front
    ∙ omega (arith, rest, last)))
