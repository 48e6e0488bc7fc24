-- The line that is written for a row spells it.
use Rattle.std.proofs.Common.{◌≡◌, ℕ, zero, suc, ◌+◌, ◌^◌, ◌/◌, ◌<◌, Bool, true, false, cond, List}
use Rattle.std.proofs.Common.{[], ◌∷◌, ◌++◌, length, map, refl, sym, ap, ◌∙◌, inl, inr, arith}
use Rattle.std.proofs.Common.{append_assoc, append-nil, IsTrue, codes}
use Rattle.std.specs.Prelude.{◌==◌, ◌||◌, ◌⊎◌, not, decimal}
use Rattle.std.specs.List.{All, AllByRecursion, join_with_byte, list_all, list_any, slice_split}
use Rattle.std.specs.Char.{is_ascii_digit}
use Rattle.std.proofs.lemmas.Bool.{and_parts, and_from, or_left, or_right, cond-true, cond-false, eqb-true, eq-eqb, lt-ltb, both_ways, not-true}
use Rattle.std.proofs.lemmas.Fmt.{decimal_is_IsNumeral, decimal_nonempty, length-decimal-le}
use Rattle.std.proofs.lemmas.List.{length-append}
use Rattle.std.proofs.lemmas.List.Elements.{All-weaker}
use Rattle.std.proofs.lemmas.List.Folds.{list_all-append, list_any-append}
use Rattle.std.proofs.lemmas.List.Splits.{slice_split_none, slice_split_at}
use Rattle.std.proofs.lemmas.List.Sums.{AllPass-from_list_all}
use Rattle.std.proofs.lemmas.Nat.{div_below, pow-add}
use Rattle.text_io.specs.Text.{tab, space, line_feed, carriage_return, is_blank, is_line_byte, IsLine, SpellsNumber}
use Rattle.scenario.specs.Fields.{without_return, without_leading, before_trailing, without_trailing, trimmed, content_of, has_bytes, fields_between, fields_in_content, fields_of}
use Rattle.scenario.specs.Query.{Query, IsName, is_name_byte, IsQuery, point, last_digits, decimals_text, listed_text, row_line}
use Rattle.scenario.specs.ScenText.{IsVersion, SpellsListed, SpellsRow, AreQueries}
use Rattle.scenario.proofs.TrimLemmas.{without_return-last, without_trailing-other}
use Rattle.scenario.proofs.FieldLemmas.{IsField, fields_in}
use Rattle.scenario.proofs.ListedLemmas.{ten_pow-mono}
use Rattle.scenario.proofs.DigitLemmas.{ten_pow-some, length-last_digits, digits-last_digits, value-last_digits}
use Rattle.text_io.specs.Laws.Numerals.{digits-decimal}

-- ---- the bytes of written numbers

-- a byte that passes a test is none that does not
differs : (test : ℕ → Bool) (k b : ℕ) → test k ≡ false → test b ≡ true → (b == k) ≡ false
differs test k b none h = go (b == k) refl
  where
    go : (t : Bool) → (b == k) ≡ t → t ≡ false
    go true e = absurd (both_ways (test b) (ap test (eqb-true b k e) ∙ none) h)
    go false e = refl

-- a test that follows from another passes where that does
list_all-weaker : (strong weak : ℕ → Bool) → ((b : ℕ) → strong b ≡ true → weak b ≡ true) → (bytes : List ℕ)
    → IsTrue (list_all strong bytes) → IsTrue (list_all weak bytes)
list_all-weaker strong weak each [] h = refl
list_all-weaker strong weak each (b ∷ bytes) h =
    let parts = and_parts (strong b) (list_all strong bytes) h in
    and_from (weak b) (list_all weak bytes) (each b parts.0) (list_all-weaker strong weak each bytes parts.1)

-- a digit or a point
abbrev is_number_byte : ℕ → Bool
is_number_byte b = is_ascii_digit b || b == point

number_byte_from_digit : (b : ℕ) → is_ascii_digit b ≡ true → is_number_byte b ≡ true
number_byte_from_digit b h = or_left (is_ascii_digit b) (b == point) h

number_byte_is_no_blank : (b : ℕ) → is_number_byte b ≡ true → is_blank b ≡ false
number_byte_is_no_blank b h =
    ap (λ t. t || b == tab) (differs is_number_byte space b refl h) ∙ differs is_number_byte tab b refl h

-- a byte that passes a test that an LF fails is one of a line
line_byte-from : (test : ℕ → Bool) → test line_feed ≡ false → (b : ℕ) → test b ≡ true → is_line_byte b ≡ true
line_byte-from test none b h = cond-false (b == line_feed) false true (differs test line_feed b none h)

no_tab-from : (test : ℕ → Bool) → test tab ≡ false → (b : ℕ) → test b ≡ true → not (b == tab) ≡ true
no_tab-from test none b h = ap not (differs test tab b none h)

-- ---- the fields

-- bytes of a number have no blanks at their ends
number-leading : (bytes more : List ℕ) → IsTrue (list_all is_number_byte bytes) → 0 < length bytes → without_leading (bytes ++ more) ≡ bytes ++ more
number-leading [] more h some = absurd (omega arith)
number-leading (b ∷ bytes) more h some =
    cond-false (is_blank b) _ _ (number_byte_is_no_blank b (and_parts (is_number_byte b) (list_all is_number_byte bytes) h).0)

number-before : (b : ℕ) (bytes : List ℕ) → is_number_byte b ≡ true → before_trailing b bytes ≡ b ∷ bytes
number-before b [] h = cond-false (is_blank b) [] (b ∷ []) (number_byte_is_no_blank b h)
number-before b (c ∷ bytes) h = refl

number-trailing : (bytes : List ℕ) → IsTrue (list_all is_number_byte bytes) → without_trailing bytes ≡ bytes
number-trailing [] h = refl
number-trailing (b ∷ bytes) h =
    let parts = and_parts (is_number_byte b) (list_all is_number_byte bytes) h in
    ap (before_trailing b) (number-trailing bytes parts.1) ∙ number-before b bytes parts.0

-- such bytes are a field
number-is_field : (bytes : List ℕ) → IsTrue (list_all is_number_byte bytes) → 0 < length bytes → IsField is_line_byte tab bytes
number-is_field bytes h some = record {
  some = some;
  is_trimmed = ap without_trailing (sym (ap without_leading (append-nil bytes)) ∙ number-leading bytes [] h some ∙ append-nil bytes) ∙ number-trailing bytes h;
  passes = list_all-weaker is_number_byte is_line_byte (line_byte-from is_number_byte refl) bytes h;
  undivided = list_all-weaker is_number_byte (λ b. not (b == tab)) (no_tab-from is_number_byte refl) bytes h;
}

decimal-bytes : (n : ℕ) → n < 2 ^ 64 → IsTrue (list_all is_number_byte (decimal n))
decimal-bytes n h = list_all-weaker is_ascii_digit is_number_byte number_byte_from_digit (decimal n) (digits-decimal n h)

decimal-is_field : (n : ℕ) → n < 2 ^ 64 → IsField is_line_byte tab (decimal n)
decimal-is_field n h = number-is_field (decimal n) (decimal-bytes n h) (decimal_nonempty n h)

decimals-bytes : (count n : ℕ) → IsTrue (list_all is_number_byte (decimals_text count n))
decimals-bytes zero n = refl
decimals-bytes (suc count) n =
    and_from (is_number_byte point) _ refl
    (list_all-weaker is_ascii_digit is_number_byte number_byte_from_digit (last_digits (suc count) n) (digits-last_digits (suc count) n))

listed-bytes : (n decimals : ℕ) → n / 10 ^ decimals < 2 ^ 64 → IsTrue (list_all is_number_byte (listed_text n decimals))
listed-bytes n decimals h =
    list_all-append is_number_byte (decimal (n / 10 ^ decimals)) (decimals_text decimals n)
    ∙ and_from (list_all is_number_byte (decimal (n / 10 ^ decimals))) _ (decimal-bytes _ h) (decimals-bytes decimals n)

listed-some : (n decimals : ℕ) → n / 10 ^ decimals < 2 ^ 64 → 0 < length (listed_text n decimals)
listed-some n decimals h =
    omega (arith, length-append (decimal (n / 10 ^ decimals)) (decimals_text decimals n), decimal_nonempty (n / 10 ^ decimals) h)

-- a name is a field
name-is_field : (name : List ℕ) → IsName name → IsField is_line_byte tab name
name-is_field name h = record {
  some = h.some;
  is_trimmed = h.no_spaces;
  passes = list_all-weaker is_name_byte is_line_byte (line_byte-from is_name_byte refl) name h.bytes;
  undivided = list_all-weaker is_name_byte (λ b. not (b == tab)) (no_tab-from is_name_byte refl) name h.bytes;
}

-- ---- fields with a tab between each two

-- no byte of a field is the separator
no_separator : (test : ℕ → Bool) (separator : ℕ) (field : List ℕ) → IsField test separator field → All (λ b. (b == separator) ≡ false) field
no_separator test separator field h =
    All-weaker (λ b. not (b == separator) ≡ true) (λ b. (b == separator) ≡ false) (λ b. not-true (b == separator)) field
    (AllPass-from_list_all (λ b. not (b == separator)) field h.undivided)

split-joined : (test : ℕ → Bool) (separator : ℕ) (field : List ℕ) (fields : List (List ℕ)) → AllByRecursion (IsField test separator) (field ∷ fields)
    → slice_split (λ b. b == separator) (join_with_byte separator (field ∷ fields)) ≡ field ∷ fields
split-joined test separator field [] h = slice_split_none (λ b. b == separator) field (no_separator test separator field h.0)
split-joined test separator field (next ∷ fields) h =
    slice_split_at (λ b. b == separator) field separator (join_with_byte separator (next ∷ fields)) (no_separator test separator field h.0)
    (eq-eqb separator separator refl)
    ∙ ap (λ xs. field ∷ xs) (split-joined test separator next fields h.1)

-- fields are left as they are
fields_in-fields : (test : ℕ → Bool) (separator : ℕ) (fields : List (List ℕ)) → AllByRecursion (IsField test separator) fields → fields_in fields ≡ fields
fields_in-fields test separator [] h = refl
fields_in-fields test separator (field ∷ fields) h =
    ap (λ x. cond (has_bytes x) (x ∷ fields_in fields) (fields_in fields)) h.0.is_trimmed
    ∙ (cond-true (has_bytes field) _ _ (lt-ltb 0 (length field) h.0.some)
    ∙ ap (λ xs. field ∷ xs) (fields_in-fields test separator fields h.1))

fields_between-joined : (test : ℕ → Bool) (separator : ℕ) (field : List ℕ) (fields : List (List ℕ)) → AllByRecursion (IsField test separator) (field ∷ fields)
    → fields_between separator (join_with_byte separator (field ∷ fields)) ≡ field ∷ fields
fields_between-joined test separator field fields h =
    ap fields_in (split-joined test separator field fields h) ∙ fields_in-fields test separator (field ∷ fields) h

-- fields whose bytes pass a test are a line of such bytes
joined-passes : (test : ℕ → Bool) (separator : ℕ) (fields : List (List ℕ)) → test separator ≡ true → AllByRecursion (IsField test separator) fields
    → IsTrue (list_all test (join_with_byte separator fields))
joined-passes test separator [] is h = refl
joined-passes test separator (field ∷ []) is h = h.0.passes
joined-passes test separator (field ∷ next ∷ fields) is h =
    list_all-append test field (separator ∷ join_with_byte separator (next ∷ fields))
    ∙ and_from (list_all test field) _ h.0.passes
    (and_from (test separator) _ is (joined-passes test separator (next ∷ fields) is h.1))

-- ---- the last byte

-- the last byte is one of a number
pub record EndsInNumber (bytes : List ℕ) : Type 0 where
  pub front : List ℕ
  pub last : ℕ
  pub is : bytes ≡ front ++ last ∷ []
  pub number : is_number_byte last ≡ true

ends-number : (bytes : List ℕ) → IsTrue (list_all is_number_byte bytes) → 0 < length bytes → EndsInNumber bytes
ends-number [] h some = absurd (omega arith)
ends-number (b ∷ []) h some = record { front = []; last = b; is = refl; number = (and_parts (is_number_byte b) true h).0 }
ends-number (b ∷ c ∷ bytes) h some =
    let rest = ends-number (c ∷ bytes) (and_parts (is_number_byte b) (list_all is_number_byte (c ∷ bytes)) h).1 (omega arith) in
    record { front = b ∷ rest.front; last = rest.last; is = ap (λ xs. b ∷ xs) rest.is; number = rest.number }

ends-append : (before bytes : List ℕ) → EndsInNumber bytes → EndsInNumber (before ++ bytes)
ends-append before bytes h = record {
  front = before ++ h.front;
  last = h.last;
  is = ap (λ xs. before ++ xs) h.is ∙ sym (append_assoc before h.front (h.last ∷ []));
  number = h.number;
}

ends-joined : (separator : ℕ) (fields : List (List ℕ)) (last : List ℕ) → EndsInNumber last → EndsInNumber (join_with_byte separator (fields ++ last ∷ []))
ends-joined separator [] last h = h
ends-joined separator (field ∷ []) last h = ends-append field (separator ∷ last) (ends-append (separator ∷ []) last h)
ends-joined separator (field ∷ next ∷ fields) last h =
    ends-append field (separator ∷ join_with_byte separator ((next ∷ fields) ++ last ∷ []))
    (ends-append (separator ∷ []) (join_with_byte separator ((next ∷ fields) ++ last ∷ [])) (ends-joined separator (next ∷ fields) last h))

-- where nothing stands at its ends, a line is its content
content-whole : (line : List ℕ) → without_leading line ≡ line → EndsInNumber line → content_of line ≡ line
content-whole line leading h =
    ap trimmed (ap without_return h.is ∙ (without_return-last h.front h.last ∙ (cond-false (h.last == carriage_return) _ _ (differs is_number_byte carriage_return h.last refl h.number) ∙ sym h.is)))
    ∙ (ap without_trailing leading
    ∙ (ap without_trailing h.is ∙ (without_trailing-other h.front h.last (number_byte_is_no_blank h.last h.number) ∙ sym h.is)))

-- ---- the line of a row

-- the fields that are written behind the bucket, and all of them
abbrev other_fields : Query → List (List ℕ)
other_fields q =
    q.name ∷ decimal q.width ∷ decimal q.height ∷ decimal q.start.x ∷ decimal q.start.y
    ∷ decimal q.goal.x ∷ decimal q.goal.y ∷ listed_text q.listed q.decimals ∷ []

abbrev row_fields : Query → List (List ℕ)
row_fields q = decimal q.bucket ∷ other_fields q

-- what stands behind the bucket and its tab
abbrev behind_bucket : Query → List ℕ
behind_bucket q = join_with_byte tab (other_fields q)

-- what is listed has up to seven digits before the point, and fits
listed-whole : (q : Query) → IsQuery q → q.listed / 10 ^ q.decimals < 10 ^ 7
listed-whole q h =
    let limit = h.listed_limit in
    div_below q.listed (10 ^ q.decimals) (10 ^ 7) (ten_pow-some q.decimals) (omega (arith, pow-add 10 7 q.decimals))

listed-fits : (q : Query) → IsQuery q → q.listed < 2 ^ 64
listed-fits q h =
    let limit = h.listed_limit in
    let few = h.decimals_limit in
    omega (arith, ten_pow-mono (7 + q.decimals) 19 (omega arith))

row-are_fields : (q : Query) → IsQuery q → AllByRecursion (IsField is_line_byte tab) (row_fields q)
row-are_fields q h =
    let fits = listed-whole q h in
    let small : q.listed / 10 ^ q.decimals < 2 ^ 64 = omega arith in
    let width : q.width < 2 ^ 64 = omega (arith, h.width_limit) in
    let height : q.height < 2 ^ 64 = omega (arith, h.height_limit) in
    let start_x : q.start.x < 2 ^ 64 = omega (arith, h.width_limit, h.start_column) in
    let start_y : q.start.y < 2 ^ 64 = omega (arith, h.height_limit, h.start_row) in
    let goal_x : q.goal.x < 2 ^ 64 = omega (arith, h.width_limit, h.goal_column) in
    let goal_y : q.goal.y < 2 ^ 64 = omega (arith, h.height_limit, h.goal_row) in
    let bucket : q.bucket < 2 ^ 64 = omega (arith, h.bucket_limit) in (
      decimal-is_field q.bucket bucket,
      (
        name-is_field q.name h.is_name,
        (
          decimal-is_field q.width width,
          (
            decimal-is_field q.height height,
            (
              decimal-is_field q.start.x start_x,
              (
                decimal-is_field q.start.y start_y,
                (
                  decimal-is_field q.goal.x goal_x,
                  (
                    decimal-is_field q.goal.y goal_y,
                    (number-is_field (listed_text q.listed q.decimals) (listed-bytes q.listed q.decimals small) (listed-some q.listed q.decimals small), tt),
                  ),
                ),
              ),
            ),
          ),
        ),
      ),
    )

-- The written line is a line.
pub row_line-is_line : (q : Query) → IsQuery q → IsLine (row_line q)
row_line-is_line q h = joined-passes is_line_byte tab (row_fields q) refl (row-are_fields q h)

-- The written line has nothing at its ends.
pub content-row_line : (q : Query) → IsQuery q → content_of (row_line q) ≡ row_line q
content-row_line q h =
    let fits = listed-whole q h in
    let small : q.listed / 10 ^ q.decimals < 2 ^ 64 = omega arith in
    let bucket : q.bucket < 2 ^ 64 = omega (arith, h.bucket_limit) in
    content-whole (row_line q)
    (number-leading (decimal q.bucket) (tab ∷ behind_bucket q) (decimal-bytes q.bucket bucket) (decimal_nonempty q.bucket bucket))
    (ends-joined tab
    (decimal q.bucket ∷ q.name ∷ decimal q.width ∷ decimal q.height ∷ decimal q.start.x ∷ decimal q.start.y ∷ decimal q.goal.x ∷ decimal q.goal.y ∷ [])
    (listed_text q.listed q.decimals)
    (ends-number (listed_text q.listed q.decimals) (listed-bytes q.listed q.decimals small) (listed-some q.listed q.decimals small)))

-- It is not empty.
pub row_line-some : (q : Query) → IsQuery q → 0 < length (row_line q)
row_line-some q h = omega (arith, length-append (decimal q.bucket) (tab ∷ behind_bucket q))

fields-row_line : (q : Query) → IsQuery q → fields_of (row_line q) ≡ row_fields q
fields-row_line q h =
    let has_tab : list_any (λ b. b == tab) (row_line q) ≡ true =
    list_any-append (λ b. b == tab) (decimal q.bucket) (tab ∷ behind_bucket q)
    ∙ or_right (list_any (λ b. b == tab) (decimal q.bucket)) (list_any (λ b. b == tab) (tab ∷ behind_bucket q)) refl in
    ap fields_in_content (content-row_line q h)
    ∙ (ap (λ t. fields_between (cond t tab space) (row_line q)) has_tab
    ∙ fields_between-joined is_line_byte tab (decimal q.bucket) (other_fields q) (row-are_fields q h))

-- a written number spells it
decimal-spells : (n : ℕ) → n < 2 ^ 64 → SpellsNumber n (decimal n)
decimal-spells n h = (digits-decimal n h, decimal_nonempty n h, (decimal_is_IsNumeral n h).1)

-- the parts of a written listed length
listed-parts : (n decimals : ℕ)
    → ((listed_text n decimals ≡ decimal (n / 10 ^ decimals)) × (last_digits decimals n ≡ []))
    ⊎ ((listed_text n decimals ≡ decimal (n / 10 ^ decimals) ++ point ∷ last_digits decimals n) × (0 < length (last_digits decimals n)))
listed-parts n zero = inl (append-nil (decimal (n / 10 ^ 0)), refl)
listed-parts n (suc count) = inr (refl, omega (arith, length-last_digits (suc count) n))

-- a written listed length spells it
listed-spells : (q : Query) → IsQuery q → SpellsListed q.listed q.decimals (listed_text q.listed q.decimals)
listed-spells q h =
    let fits = listed-whole q h in
    let small : q.listed / 10 ^ q.decimals < 2 ^ 64 = omega arith in
    let whole = decimal (q.listed / 10 ^ q.decimals) in
    let after = last_digits q.decimals q.listed in
    record {
      whole = whole;
      after = after;
      parts = listed-parts q.listed q.decimals;
      number = (
        list_all-append is_ascii_digit whole after
            ∙ and_from (list_all is_ascii_digit whole) _ (digits-decimal _ small) (digits-last_digits q.decimals q.listed),
        omega (arith, length-append whole after, decimal_nonempty _ small),
        value-last_digits q.decimals q.listed (listed-fits q h),
      );
      some = decimal_nonempty _ small;
      whole_limit = length-decimal-le 7 _ (omega arith) fits small;
      count = length-last_digits q.decimals q.listed;
      decimals_limit = h.decimals_limit;
    }

-- The written line spells its row.
pub row_line-spells : (q : Query) → IsQuery q → SpellsRow q (row_line q)
row_line-spells q h = record {
  short = h.line_limit;
  bucket = decimal q.bucket;
  width = decimal q.width;
  height = decimal q.height;
  start_x = decimal q.start.x;
  start_y = decimal q.start.y;
  goal_x = decimal q.goal.x;
  goal_y = decimal q.goal.y;
  listed = listed_text q.listed q.decimals;
  fields = fields-row_line q h;
  is_bucket = decimal-spells q.bucket (omega (arith, h.bucket_limit));
  is_width = decimal-spells q.width (omega (arith, h.width_limit));
  is_height = decimal-spells q.height (omega (arith, h.height_limit));
  is_start_x = decimal-spells q.start.x (omega (arith, h.width_limit, h.start_column));
  is_start_y = decimal-spells q.start.y (omega (arith, h.height_limit, h.start_row));
  is_goal_x = decimal-spells q.goal.x (omega (arith, h.width_limit, h.goal_column));
  is_goal_y = decimal-spells q.goal.y (omega (arith, h.height_limit, h.goal_row));
  is_listed = listed-spells q h;
  within = h;
}

-- The written lines spell the rows.
pub written-rows : (queries : List Query) → AllByRecursion IsQuery queries → AreQueries queries (map row_line queries)
written-rows [] h = refl
written-rows (q ∷ queries) h = inr (q, queries, refl, row_line-spells q h.0, written-rows queries h.1)

-- They are lines.
pub written-are_lines : (queries : List Query) → AllByRecursion IsQuery queries → AllByRecursion IsLine (map row_line queries)
written-are_lines [] h = tt
written-are_lines (q ∷ queries) h = (row_line-is_line q h.0, written-are_lines queries h.1)

-- The first written line says the version, and is a line.
pub version_line-spells : IsVersion (codes "version 1")
version_line-spells = record {
  short = omega arith;
  gap = 32 ∷ [];
  number = codes "1";
  bytes = refl;
  is_gap = (refl, omega arith);
  one = inl refl;
}

pub version_line-is_line : IsLine (codes "version 1")
version_line-is_line = refl
