-- Short numbers with a tab behind each are fields.
use Rattle.std.proofs.Common.{◌≡◌, ℕ, suc, ◌+◌, ◌-◌, ◌*◌, ◌<◌, ◌≤◌, Bool, true, false, List, [], ◌∷◌, ◌++◌, length, get_or, take, drop, min, add-one, drop-cons, None, refl, sym, ap, ◌∙◌, arith}
use Rattle.std.specs.Prelude.{◌==◌, ◌&&◌, ◌||◌, nat_lt, not}
use Rattle.std.specs.Char.{is_ascii_digit, digit_value}
use Rattle.std.specs.List.{list_all, list_any, position_or_len}
use Rattle.std.specs.Str.Parse.{digits_value_after}
use Rattle.std.proofs.Math.Seq.{take-append_seam, drop-append_seam}
use Rattle.std.proofs.lemmas.Bool.{and_parts, and_from, cond-true, cond-false, leb-true, ltb-true, ne_eqb, lt-ltb}
use Rattle.std.proofs.lemmas.List.{take_more, take-append-drop, length-take-le}
use Rattle.std.proofs.lemmas.List.Folds.{list_all_more}
use Rattle.std.proofs.lemmas.Str.{digit_value_digit}
use Rattle.text_io.specs.Text.{tab, space, is_blank}
use Rattle.scenario.specs.Fields.{without_leading, without_trailing, before_trailing, fields_between, separator_of}
use Rattle.scenario.specs.ScenFault.{Fields, is_number, is_size, value_of, wrong_number}
use Rattle.scenario.specs.Code.Parsing.{IsShortNumber}
use Rattle.scenario.proofs.FieldLemmas.{fields_between-next, fields_between-blank}
use Rattle.scenario.proofs.NumberLemmas.{no_wrong_number}

-- ---- one digit more

value_push : (start : ℕ) (digits : List ℕ) (b : ℕ) → digits_value_after 10 start (digits ++ b ∷ []) ≡ digits_value_after 10 start digits * 10 + digit_value b
value_push start [] b = refl
value_push start (d ∷ digits) b = value_push (start * 10 + digit_value d) digits b

digit-value : (b : ℕ) → is_ascii_digit b ≡ true → (48 ≤ b) × (b ≤ 57) × (digit_value b ≡ b - 48)
digit-value b test =
    let parts = and_parts _ _ test in
    let low = leb-true 48 b parts.0 in
    let high = leb-true b 57 parts.1 in
    let value = digit_value_digit b (low, high) in
    (low, high, omega (arith, value, low))

pub digits_more : (bytes : List ℕ) (i value digit : ℕ) → i < length bytes → is_ascii_digit (get_or bytes i 0) ≡ true → digit ≡ get_or bytes i 0 - 48
    → list_all is_ascii_digit (take i bytes) ≡ true → value ≡ digits_value_after 10 0 (take i bytes)
    → (list_all is_ascii_digit (take (i + 1) bytes) ≡ true) × (value * 10 + digit ≡ digits_value_after 10 0 (take (i + 1) bytes)) × (digit < 10)
digits_more bytes i value digit less test is all was =
    let b = get_or bytes i 0 in
    let own = digit-value b test in
    let low = own.0 in
    let high = own.1 in
    let has = own.2 in
    let more = ap (digits_value_after 10 0) (take_more bytes i 0 less) ∙ value_push 0 (take i bytes) b in (
      list_all_more is_ascii_digit bytes i 0 less ∙ and_from (list_all is_ascii_digit (take i bytes)) (is_ascii_digit b) all test,
      omega (arith, more, was, is, has),
      omega (arith, is, low, high),
    )

-- ---- a number before a tab

pub short_number-is : (bytes : List ℕ) (i value : ℕ) → i < length bytes → get_or bytes i 0 ≡ tab → 0 < i → list_all is_ascii_digit (take i bytes) ≡ true
    → value ≡ digits_value_after 10 0 (take i bytes) → value < 4294967296 → IsShortNumber bytes (take i bytes) value (drop (i + 1) bytes)
short_number-is bytes i value less at some all is short = record {
  is = sym (take-append-drop i bytes) ∙ ap (λ l. take i bytes ++ l) (drop-cons bytes i 0 less ∙ ap (λ b. b ∷ drop (suc i) bytes) at ∙ ap (λ k. tab ∷ drop k bytes) (sym (add-one i)));
  number = and_from (nat_lt 0 (length (take i bytes))) (list_all is_ascii_digit (take i bytes))
      (lt-ltb 0 (length (take i bytes)) (let long = length-take-le i bytes (omega (arith, less)) in omega (arith, long, some))) all;
  value = is;
  short = short;
}

-- a digit is no blank
digit-other : (b : ℕ) → is_ascii_digit b ≡ true → (is_blank b ≡ false) × ((b == tab) ≡ false)
digit-other b test =
    let own = digit-value b test in
    let low = own.0 in
    let no_space : (b == space) ≡ false = ne_eqb b space (λ same. omega (arith, same, low)) in
    let no_tab : (b == tab) ≡ false = ne_eqb b tab (λ same. omega (arith, same, low)) in
    (ap (λ t. t || (b == tab)) no_space ∙ no_tab, no_tab)

position-tab : (digits rest : List ℕ) → list_all is_ascii_digit digits ≡ true → length digits ≡ position_or_len (λ x. x == tab) (digits ++ tab ∷ rest)
position-tab [] rest all = refl
position-tab (d ∷ digits) rest all =
    let parts = and_parts (is_ascii_digit d) (list_all is_ascii_digit digits) all in
    let later = position-tab digits rest parts.1 in
    let step : length (d ∷ digits) ≡ 1 + position_or_len (λ x. x == tab) (digits ++ tab ∷ rest) = omega (arith, later) in
    step ∙ sym (cond-true (not (d == tab)) (1 + position_or_len (λ x. x == tab) (digits ++ tab ∷ rest)) 0 (ap not (digit-other d parts.0).1))

trailing-digits : (digits : List ℕ) → list_all is_ascii_digit digits ≡ true → without_trailing digits ≡ digits
trailing-digits [] all = refl
trailing-digits (d ∷ digits) all =
    let parts = and_parts (is_ascii_digit d) (list_all is_ascii_digit digits) all in
    ap (before_trailing d) (trailing-digits digits parts.1) ∙ last digits where
      last : (rest : List ℕ) → before_trailing d rest ≡ d ∷ rest
      last [] = cond-false (is_blank d) [] (d ∷ []) (digit-other d (and_parts (is_ascii_digit d) (list_all is_ascii_digit digits) all).0).0
      last (c ∷ rest) = refl

number-field : (digits rest : List ℕ) → 0 < length digits → list_all is_ascii_digit digits ≡ true → fields_between tab (digits ++ tab ∷ rest) ≡ digits ∷ fields_between tab rest
number-field [] rest some all = absurd (omega (arith, some))
number-field (d ∷ digits) rest some all =
    let parts = and_parts (is_ascii_digit d) (list_all is_ascii_digit digits) all in
    let whole = (d ∷ digits) ++ tab ∷ rest in
    let n = length (d ∷ digits) in
    let lead : whole ≡ without_leading whole = sym (cond-false (is_blank d) (without_leading (digits ++ tab ∷ rest)) whole (digit-other d parts.0).0) in
    fields_between-next tab whole whole n refl lead (omega arith) (position-tab (d ∷ digits) rest all)
    ∙ ap (λ l. without_trailing l ∷ fields_between tab (drop n whole)) (take-append_seam (d ∷ digits) (tab ∷ rest))
    ∙ ap (λ l. l ∷ fields_between tab (drop n whole)) (trailing-digits (d ∷ digits) all)
    ∙ ap (λ l. (d ∷ digits) ∷ fields_between tab l) (drop-append_seam (d ∷ digits) (tab ∷ rest))
    ∙ ap (λ l. (d ∷ digits) ∷ l) (fields_between-blank tab tab rest refl)

pub short-field : (bytes digits rest : List ℕ) (value : ℕ) → IsShortNumber bytes digits value rest → fields_between tab bytes ≡ digits ∷ fields_between tab rest
short-field bytes digits rest value h =
    let parts = and_parts (nat_lt 0 (length digits)) (list_all is_ascii_digit digits) h.number in
    ap (fields_between tab) h.is ∙ number-field digits rest (ltb-true 0 (length digits) parts.0) parts.1

pub tab-field : (bytes rest : List ℕ) → bytes ≡ tab ∷ rest → fields_between tab bytes ≡ fields_between tab rest
tab-field bytes rest is = ap (fields_between tab) is ∙ fields_between-blank tab tab rest refl

-- a content with a tab is cut at tabs
pub tab-separator : (bytes digits rest : List ℕ) (value : ℕ) → IsShortNumber bytes digits value rest → separator_of bytes ≡ tab
tab-separator bytes digits rest value h = cond-true (list_any (λ b. b == tab) bytes) tab space (ap (list_any (λ b. b == tab)) h.is ∙ found digits) where
  found : (front : List ℕ) → list_any (λ b. b == tab) (front ++ tab ∷ rest) ≡ true
  found [] = refl
  found (d ∷ front) = or-true (d == tab) (list_any (λ b. b == tab) (front ++ tab ∷ rest)) (found front) where
    or-true : (a b : Bool) → b ≡ true → (a || b) ≡ true
    or-true true b is = refl
    or-true false b is = is

-- numbers within their limits are no wrong ones
pub no_wrong_short : (f : Fields) → is_number f.bucket ≡ true → value_of f.bucket < 4294967296 → is_number f.width ≡ true → 0 < value_of f.width → value_of f.width < 65536
    → is_number f.height ≡ true → 0 < value_of f.height → value_of f.height < 65536 → is_number f.start_x ≡ true → is_number f.start_y ≡ true → is_number f.goal_x ≡ true
    → is_number f.goal_y ≡ true → wrong_number f ≡ None
no_wrong_short f bucket few width some_width less_width height some_height less_height start_x start_y goal_x goal_y =
    no_wrong_number f
    (and_from (is_number f.bucket) (nat_lt (value_of f.bucket) 4294967296) bucket (lt-ltb (value_of f.bucket) 4294967296 few))
    (size f.width width some_width less_width) (size f.height height some_height less_height) start_x start_y goal_x goal_y where
      size : (digits : List ℕ) → is_number digits ≡ true → 0 < value_of digits → value_of digits < 65536 → is_size digits ≡ true
      size digits number some less =
          and_from (is_number digits && nat_lt 0 (value_of digits)) (nat_lt (value_of digits) 65536)
          (and_from (is_number digits) (nat_lt 0 (value_of digits)) number (lt-ltb 0 (value_of digits) some)) (lt-ltb (value_of digits) 65536 less)

-- the least of a short number and the greatest that is told is the number
pub told : (n most : ℕ) (digits : List ℕ) → n ≡ value_of digits → n < most → n ≡ min (value_of digits) most
told n most digits is less = omega (arith, is, less)
