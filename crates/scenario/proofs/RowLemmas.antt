-- Rows: what nine fields say, and which row they spell.
use Rattle.std.proofs.Common.{◌≡◌, ℕ, zero, suc, ◌+◌, ◌*◌, ◌/◌, ◌^◌, ◌<◌, ◌≤◌, inl, inr, Bool, true, false, cond, List, [], ◌∷◌, ◌++◌, length, None, refl, sym, ap, ◌∙◌, subst, arith, decimal}
use Rattle.std.specs.Prelude.{nat_lt, not, IsTrue, ◌&&◌, ◌==◌}
use Rattle.std.specs.List.{AllByRecursion, list_all, list_any, join_with_byte}
use Rattle.std.specs.Char.{is_ascii_digit}
use Rattle.std.proofs.lemmas.Bool.{and_parts, and_from, or_parts, cond_both, cond-true, cond-false, ltb-true, lt-ltb, false≢true, not_from_false}
use Rattle.std.proofs.lemmas.List.{length-append}
use Rattle.std.proofs.lemmas.Fmt.{length-decimal-le}
use Rattle.std.proofs.lemmas.Nat.{pow-add}
use Rattle.std.proofs.Math.Nat.{div-lt_iff_lt-mul}
use Rattle.text_io.specs.Text.{tab, line_feed, space, is_line_byte, IsLine, SpellsNumber}
use Rattle.scenario.specs.Fields.{without_return, without_leading, content_of, separator_of, fields_between, fields_in_content}
use Rattle.scenario.specs.Query.{Query, IsQuery, IsName, is_name_byte, point, decimals_text, listed_text, row_line, longest_line}
use Rattle.scenario.specs.ScenText.{IsShort, SpellsListed, SpellsRow}
use Rattle.scenario.specs.ScenFault.{Fields, all_fields, HasFields, value_of, is_number, is_bucket, is_size, first_failing, wrong_number, is_in_grid}
use Rattle.scenario.specs.Code.Parsing.{is_listed, listed_value, after_of, query_of}
use Rattle.scenario.proofs.NumberLemmas.{no_wrong_number}
use Rattle.scenario.proofs.TrimLemmas.{length-without_leading, length-without_trailing, length-without_return, all-without_leading, all-without_trailing, all-without_return}
use Rattle.scenario.proofs.FieldLemmas.{IsField, fields_between-are, room_of, room_of-between}
use Rattle.scenario.proofs.DigitLemmas.{length-last_digits}
use Rattle.scenario.proofs.ListedLemmas.{value_after-lt, ten_pow-mono, spells-from_test, test-from_spells}

-- ---- numbers

-- digits alone spell their value
pub spells-from_number : (bytes : List ℕ) → is_number bytes ≡ true → SpellsNumber (value_of bytes) bytes
spells-from_number bytes h =
    let parts : IsTrue (nat_lt 0 (length bytes)) × IsTrue (list_all is_ascii_digit bytes) = and_parts _ _ h in
    (parts.1, ltb-true 0 (length bytes) parts.0, refl)

pub number-from_spells : (n : ℕ) (bytes : List ℕ) → SpellsNumber n bytes → (is_number bytes ≡ true) × (n ≡ value_of bytes)
number-from_spells n bytes h = (and_from _ _ (lt-ltb 0 (length bytes) h.1) h.0, sym h.2)

-- What each field says where none is wrong.
pub record AreNumbers (f : Fields) : Type 0 where
  pub bucket : is_bucket f.bucket ≡ true
  pub width : is_size f.width ≡ true
  pub height : is_size f.height ≡ true
  pub start_x : is_number f.start_x ≡ true
  pub start_y : is_number f.start_y ≡ true
  pub goal_x : is_number f.goal_x ≡ true
  pub goal_y : is_number f.goal_y ≡ true

first_passes : (field : ℕ) (test : Bool) (tests : List (ℕ × Bool)) → first_failing ((field, test) ∷ tests) ≡ None
    → (test ≡ true) × (first_failing tests ≡ None)
first_passes field true tests e = (refl, e)
first_passes field false tests e = absurd (cc)

pub AreNumbers-from_none : (f : Fields) → wrong_number f ≡ None → AreNumbers f
AreNumbers-from_none f e =
    let from_goal_y : List (ℕ × Bool) = (8, is_number f.goal_y) ∷ [] in
    let from_goal_x : List (ℕ × Bool) = (7, is_number f.goal_x) ∷ from_goal_y in
    let from_start_y : List (ℕ × Bool) = (6, is_number f.start_y) ∷ from_goal_x in
    let from_start_x : List (ℕ × Bool) = (5, is_number f.start_x) ∷ from_start_y in
    let from_height : List (ℕ × Bool) = (4, is_size f.height) ∷ from_start_x in
    let from_width : List (ℕ × Bool) = (3, is_size f.width) ∷ from_height in
    let bucket = first_passes 1 (is_bucket f.bucket) from_width e in
    let width = first_passes 3 (is_size f.width) from_height bucket.1 in
    let height = first_passes 4 (is_size f.height) from_start_x width.1 in
    let start_x = first_passes 5 (is_number f.start_x) from_start_y height.1 in
    let start_y = first_passes 6 (is_number f.start_y) from_goal_x start_x.1 in
    let goal_x = first_passes 7 (is_number f.goal_x) from_goal_y start_y.1 in
    let goal_y = first_passes 8 (is_number f.goal_y) [] goal_x.1 in
    record {
      bucket = bucket.0;
      width = width.0;
      height = height.0;
      start_x = start_x.0;
      start_y = start_y.0;
      goal_x = goal_x.0;
      goal_y = goal_y.0;
    }

-- a bucket is a number up to its limit
bucket_parts : (bytes : List ℕ) → is_bucket bytes ≡ true → (is_number bytes ≡ true) × (value_of bytes < 4294967296)
bucket_parts bytes h =
    let parts : IsTrue (is_number bytes) × IsTrue (nat_lt (value_of bytes) 4294967296) = and_parts _ _ h in
    (parts.0, ltb-true _ _ parts.1)

pub size_parts : (bytes : List ℕ) → is_size bytes ≡ true → (is_number bytes ≡ true) × (0 < value_of bytes) × (value_of bytes < 65536)
size_parts bytes h =
    let parts : IsTrue (is_number bytes && nat_lt 0 (value_of bytes)) × IsTrue (nat_lt (value_of bytes) 65536) = and_parts _ _ h in
    let first : IsTrue (is_number bytes) × IsTrue (nat_lt 0 (value_of bytes)) = and_parts _ _ parts.0 in
    (first.0, ltb-true _ _ first.1, ltb-true _ _ parts.1)

-- start and goal by their values
pub record LiesInGrid (f : Fields) : Type 0 where
  pub start_column : value_of f.start_x < value_of f.width
  pub start_row : value_of f.start_y < value_of f.height
  pub goal_column : value_of f.goal_x < value_of f.width
  pub goal_row : value_of f.goal_y < value_of f.height

pub LiesInGrid-from_test : (f : Fields) → is_in_grid f ≡ true → LiesInGrid f
LiesInGrid-from_test f h =
    let third : IsTrue (nat_lt (value_of f.start_x) (value_of f.width) && nat_lt (value_of f.start_y) (value_of f.height)
    && nat_lt (value_of f.goal_x) (value_of f.width)) × IsTrue (nat_lt (value_of f.goal_y) (value_of f.height)) = and_parts _ _ h in
    let second : IsTrue (nat_lt (value_of f.start_x) (value_of f.width) && nat_lt (value_of f.start_y) (value_of f.height))
    × IsTrue (nat_lt (value_of f.goal_x) (value_of f.width)) = and_parts _ _ third.0 in
    let first : IsTrue (nat_lt (value_of f.start_x) (value_of f.width)) × IsTrue (nat_lt (value_of f.start_y) (value_of f.height)) =
    and_parts _ _ second.0 in
    record {
      start_column = ltb-true _ _ first.0;
      start_row = ltb-true _ _ first.1;
      goal_column = ltb-true _ _ second.1;
      goal_row = ltb-true _ _ third.1;
    }

pub test-from_LiesInGrid : (f : Fields) → LiesInGrid f → is_in_grid f ≡ true
test-from_LiesInGrid f h =
    and_from _ _ (and_from _ _ (and_from _ _ (lt-ltb _ _ h.start_column) (lt-ltb _ _ h.start_row)) (lt-ltb _ _ h.goal_column)) (lt-ltb _ _ h.goal_row)

-- ---- names

-- bytes of a line without a tab are those of a name
name_bytes : (bytes : List ℕ) → IsTrue (list_all is_line_byte bytes) → IsTrue (list_all (λ b. not (b == tab)) bytes) → IsTrue (list_all is_name_byte bytes)
name_bytes [] h k = refl
name_bytes (b ∷ bytes) h k =
    let line = and_parts (is_line_byte b) (list_all is_line_byte bytes) h in
    let tabs = and_parts (not (b == tab)) (list_all (λ x. not (x == tab)) bytes) k in
    and_from (is_name_byte b) _ (and_from (not (b == tab)) _ tabs.0 (line_byte (b == line_feed) line.0)) (name_bytes bytes line.1 tabs.1)
  where
    line_byte : (t : Bool) → cond t false true ≡ true → not t ≡ true
    line_byte true e = absurd (false≢true e)
    line_byte false e = refl

-- no byte passes a test that none passes
all_not : (test : ℕ → Bool) (bytes : List ℕ) → list_any test bytes ≡ false → IsTrue (list_all (λ b. not (test b)) bytes)
all_not test [] e = refl
all_not test (b ∷ bytes) e =
    let parts = or_parts (test b) (list_any test bytes) e in
    and_from (not (test b)) _ (not_from_false (test b) parts.0) (all_not test bytes parts.1)

-- each field of a line's content may be a name
pub are_names : (fields : List (List ℕ)) → (content : List ℕ) → IsTrue (list_all is_line_byte content)
    → fields_in_content content ≡ fields → AllByRecursion IsName fields
are_names fields content h e = go (list_any (λ b. b == tab) content) refl
  where
    from_tabs : (xs : List (List ℕ)) → AllByRecursion (IsField is_line_byte tab) xs → AllByRecursion IsName xs
    from_tabs [] all = tt
    from_tabs (x ∷ xs) all =
        (record { some = all.0.some; bytes = name_bytes x all.0.passes all.0.undivided; no_spaces = all.0.is_trimmed }, from_tabs xs all.1)

    from_spaces : (xs : List (List ℕ)) → AllByRecursion (IsField is_line_byte space) xs → AllByRecursion (IsField (λ b. not (b == tab)) space) xs
        → AllByRecursion IsName xs
    from_spaces [] all no_tab = tt
    from_spaces (x ∷ xs) all no_tab =
        (record { some = all.0.some; bytes = name_bytes x all.0.passes no_tab.0.passes; no_spaces = all.0.is_trimmed }, from_spaces xs all.1 no_tab.1)

    go : (t : Bool) → list_any (λ b. b == tab) content ≡ t → AllByRecursion IsName fields
    go true is =
        let at : fields_between tab content ≡ fields = ap (λ s. fields_between s content) (sym (cond-true _ tab space is)) ∙ e in
        subst (AllByRecursion IsName) at (from_tabs (fields_between tab content) (fields_between-are is_line_byte tab content h))
    go false is =
        let at : fields_between space content ≡ fields = ap (λ s. fields_between s content) (sym (cond-false _ tab space is)) ∙ e in
        subst (AllByRecursion IsName) at
        (from_spaces (fields_between space content) (fields_between-are is_line_byte space content h)
        (fields_between-are (λ b. not (b == tab)) space content (all_not (λ b. b == tab) content is)))

-- ---- how long a written line is

-- a number is not written longer than it was
pub length-decimal : (bytes : List ℕ) → is_number bytes ≡ true → value_of bytes < 2 ^ 64 → length (decimal (value_of bytes)) ≤ length bytes
length-decimal bytes h small =
    let spells = spells-from_number bytes h in
    let same : 0 + length bytes ≡ length bytes = omega arith in
    let below : value_of bytes < 10 ^ (0 + length bytes) = value_after-lt 0 0 bytes spells.0 (omega arith) in
    length-decimal-le (length bytes) (value_of bytes) spells.1 (subst (λ n. value_of bytes < 10 ^ n) same below) small

length-decimals_text : (decimals n : ℕ) → length (decimals_text decimals n) ≤ cond (nat_lt 0 decimals) (1 + decimals) 0
length-decimals_text zero n = omega arith
length-decimals_text (suc decimals) n =
    let some : nat_lt 0 (suc decimals) ≡ true = lt-ltb 0 (suc decimals) (omega arith) in
    let both = length-last_digits (suc decimals) n in
    omega (arith, both, cond-true (nat_lt 0 (suc decimals)) (1 + suc decimals) 0 some)

-- what is left of a number of so many digits without the last of them
div-ten_pow : (n digits decimals : ℕ) → n < 10 ^ (digits + decimals) → n / 10 ^ decimals < 10 ^ digits
div-ten_pow n digits decimals h =
    let product : 10 ^ (digits + decimals) ≡ 10 ^ digits * 10 ^ decimals = pow-add 10 digits decimals in
    let some : 0 < 10 ^ decimals = let least = ten_pow-mono 0 decimals (omega arith) in omega (arith, least) in
    (div-lt_iff_lt-mul {k = 10 ^ decimals} {x = n} {y = 10 ^ digits} some).1 (subst (λ m. n < m) product h)

-- a listed length is not written longer than it was
pub length-listed_text : (n decimals : ℕ) (bytes : List ℕ) → SpellsListed n decimals bytes → length (listed_text n decimals) ≤ length bytes
length-listed_text n decimals bytes h =
    let digits : length (h.whole ++ h.after) ≡ length h.whole + decimals = length-append h.whole h.after ∙ ap (λ k. length h.whole + k) h.count in
    let below : n < 10 ^ (0 + length (h.whole ++ h.after)) =
    subst (λ m. m < 10 ^ (0 + length (h.whole ++ h.after))) h.number.2 (value_after-lt 0 0 (h.whole ++ h.after) h.number.0 (omega arith)) in
    let exponent : 0 + length (h.whole ++ h.after) ≡ length h.whole + decimals = omega (arith, digits) in
    let front : n / 10 ^ decimals < 10 ^ length h.whole =
    div-ten_pow n (length h.whole) decimals (subst (λ k. n < 10 ^ k) exponent below) in
    let seven = ten_pow-mono (length h.whole) 7 h.whole_limit in
    let short : length (decimal (n / 10 ^ decimals)) ≤ length h.whole =
    length-decimal-le (length h.whole) (n / 10 ^ decimals) h.some front (omega (arith, front, seven)) in
    let both = length-append (decimal (n / 10 ^ decimals)) (decimals_text decimals n) in
    let rest = length-decimals_text decimals n in
    elim h.parts [
      | inl alone ↦
          let none : decimals ≡ 0 = sym h.count ∙ ap length alone.1 in
          let nothing : cond (nat_lt 0 decimals) (1 + decimals) 0 ≡ 0 = ap (λ d. cond (nat_lt 0 d) (1 + d) 0) none in
          omega (arith, both, rest, short, nothing, ap length alone.0)
      | inr point_there ↦
          let most : cond (nat_lt 0 decimals) (1 + decimals) 0 ≤ 1 + decimals =
          cond_both (nat_lt 0 decimals) (1 + decimals) 0 (λ k. k ≤ 1 + decimals) (λ _. omega arith) (λ _. omega arith) in
          let whole_length = ap length point_there.0 ∙ length-append h.whole (point ∷ h.after) in
          omega (arith, both, rest, short, most, whole_length, h.count)
    ]

-- the texts in a row with a byte between each two
length-join : (x : List ℕ) (xs : List (List ℕ)) → length (join_with_byte tab (x ∷ xs)) + 1 ≡ room_of (x ∷ xs)
length-join x [] = omega arith
length-join x (y ∷ xs) =
    let rest = length-join y xs in
    omega (arith, length-append x (tab ∷ join_with_byte tab (y ∷ xs)), rest)

-- a content is no longer than its line, and holds only bytes of it
pub length-content_of : (line : List ℕ) → length (content_of line) ≤ length line
length-content_of line =
    omega (arith, length-without_trailing (without_leading (without_return line)), length-without_leading (without_return line), length-without_return line)

pub IsLine-content_of : (line : List ℕ) → IsLine line → IsTrue (list_all is_line_byte (content_of line))
IsLine-content_of line h =
    all-without_trailing is_line_byte (without_leading (without_return line))
    (all-without_leading is_line_byte (without_return line) (all-without_return is_line_byte line h))

-- ---- rows

-- what is known of nine fields that are a row
pub record AreRight (line : List ℕ) (f : Fields) : Type 0 where
  pub is_line : IsLine line
  pub short : IsShort line
  pub has : HasFields line f
  pub numbers : wrong_number f ≡ None
  pub in_grid : is_in_grid f ≡ true
  pub listed : is_listed f.listed ≡ true

-- the row's line is no longer than its fields were
line_limit : (line : List ℕ) (f : Fields) → AreRight line f → AreNumbers f → LiesInGrid f → length (row_line (query_of f)) ≤ longest_line
line_limit line f h numbers lies =
    let fields = room_of-between (separator_of (content_of line)) (content_of line) in
    let room : room_of (all_fields f) ≤ length (content_of line) + 1 = subst (λ xs. room_of xs ≤ length (content_of line) + 1) h.has fields in
    let content = length-content_of line in
    let within = h.short in
    let bucket = bucket_parts f.bucket numbers.bucket in
    let width = size_parts f.width numbers.width in
    let height = size_parts f.height numbers.height in
    let start_column = lies.start_column in
    let start_row = lies.start_row in
    let goal_column = lies.goal_column in
    let goal_row = lies.goal_row in
    let first = length-decimal f.bucket bucket.0 (omega (arith, bucket.1)) in
    let third = length-decimal f.width width.0 (omega (arith, width.2)) in
    let fourth = length-decimal f.height height.0 (omega (arith, height.2)) in
    let fifth = length-decimal f.start_x numbers.start_x (omega (arith, width.2)) in
    let sixth = length-decimal f.start_y numbers.start_y (omega (arith, height.2)) in
    let seventh = length-decimal f.goal_x numbers.goal_x (omega (arith, width.2)) in
    let eighth = length-decimal f.goal_y numbers.goal_y (omega (arith, height.2)) in
    let ninth = length-listed_text (listed_value f.listed) (length (after_of f.listed)) f.listed (spells-from_test f.listed h.listed) in
    let written = length-join (decimal (value_of f.bucket))
    (f.name ∷ decimal (value_of f.width) ∷ decimal (value_of f.height) ∷ decimal (value_of f.start_x) ∷ decimal (value_of f.start_y)
    ∷ decimal (value_of f.goal_x) ∷ decimal (value_of f.goal_y) ∷ listed_text (listed_value f.listed) (length (after_of f.listed)) ∷ []) in
    omega (arith, room, content, within, first, third, fourth, fifth, sixth, seventh, eighth, ninth, written)

-- the row that right fields spell keeps to its limits
pub IsQuery-from_fields : (line : List ℕ) (f : Fields) → AreRight line f → IsQuery (query_of f)
IsQuery-from_fields line f h =
    let numbers = AreNumbers-from_none f h.numbers in
    let lies = LiesInGrid-from_test f h.in_grid in
    let bucket = bucket_parts f.bucket numbers.bucket in
    let width = size_parts f.width numbers.width in
    let height = size_parts f.height numbers.height in
    let spells = spells-from_test f.listed h.listed in
    let names = are_names (all_fields f) (content_of line) (IsLine-content_of line h.is_line) h.has in
    record {
      bucket_limit = bucket.1;
      is_name = names.1.0;
      some_width = width.1;
      width_limit = width.2;
      some_height = height.1;
      height_limit = height.2;
      start_column = lies.start_column;
      start_row = lies.start_row;
      goal_column = lies.goal_column;
      goal_row = lies.goal_row;
      decimals_limit = spells.decimals_limit;
      listed_limit = listed_limit spells;
      line_limit = line_limit line f h numbers lies;
    }
  where
    listed_limit : SpellsListed (listed_value f.listed) (length (after_of f.listed)) f.listed → listed_value f.listed < 10 ^ (7 + length (after_of f.listed))
    listed_limit spells =
        let digits = length-append spells.whole spells.after in
        let below = value_after-lt 0 0 (spells.whole ++ spells.after) spells.number.0 (omega arith) in
        let count = spells.count in
        let most = spells.whole_limit in
        let grows = ten_pow-mono (0 + length (spells.whole ++ spells.after)) (7 + length (after_of f.listed)) (omega (arith, digits, count, most)) in
        omega (arith, below, grows, spells.number.2)

-- right fields spell their row
pub SpellsRow-from_fields : (line : List ℕ) (f : Fields) → AreRight line f → SpellsRow (query_of f) line
SpellsRow-from_fields line f h =
    let numbers = AreNumbers-from_none f h.numbers in
    record {
      short = h.short;
      bucket = f.bucket;
      width = f.width;
      height = f.height;
      start_x = f.start_x;
      start_y = f.start_y;
      goal_x = f.goal_x;
      goal_y = f.goal_y;
      listed = f.listed;
      fields = h.has;
      is_bucket = spells-from_number f.bucket (bucket_parts f.bucket numbers.bucket).0;
      is_width = spells-from_number f.width (size_parts f.width numbers.width).0;
      is_height = spells-from_number f.height (size_parts f.height numbers.height).0;
      is_start_x = spells-from_number f.start_x numbers.start_x;
      is_start_y = spells-from_number f.start_y numbers.start_y;
      is_goal_x = spells-from_number f.goal_x numbers.goal_x;
      is_goal_y = spells-from_number f.goal_y numbers.goal_y;
      is_listed = spells-from_test f.listed h.listed;
      within = IsQuery-from_fields line f h;
    }

-- the fields of a line that is a row
abbrev pub fields_read : (q : Query) (line : List ℕ) → SpellsRow q line → Fields
fields_read q line h = record {
  bucket = h.bucket;
  name = q.name;
  width = h.width;
  height = h.height;
  start_x = h.start_x;
  start_y = h.start_y;
  goal_x = h.goal_x;
  goal_y = h.goal_y;
  listed = h.listed;
}

-- a row of these parts
abbrev pub query_with : (bucket : ℕ) (name : List ℕ) (width height start_x start_y goal_x goal_y listed decimals : ℕ) → Query
query_with bucket name width height start_x start_y goal_x goal_y listed decimals = record {
  bucket = bucket;
  name = name;
  width = width;
  height = height;
  start = record { x = start_x; y = start_y };
  goal = record { x = goal_x; y = goal_y };
  listed = listed;
  decimals = decimals;
}

-- a row is what its parts are
pub same_query : (q : Query) (bucket : ℕ) (name : List ℕ) (width height start_x start_y goal_x goal_y listed decimals : ℕ)
    → q.bucket ≡ bucket → q.name ≡ name → q.width ≡ width → q.height ≡ height → q.start.x ≡ start_x → q.start.y ≡ start_y
    → q.goal.x ≡ goal_x → q.goal.y ≡ goal_y → q.listed ≡ listed → q.decimals ≡ decimals
    → q ≡ query_with bucket name width height start_x start_y goal_x goal_y listed decimals
same_query q bucket name width height start_x start_y goal_x goal_y listed decimals e1 e2 e3 e4 e5 e6 e7 e8 e9 e10 =
    ap (λ v. query_with v q.name q.width q.height q.start.x q.start.y q.goal.x q.goal.y q.listed q.decimals) e1
    ∙ (ap (λ v. query_with bucket v q.width q.height q.start.x q.start.y q.goal.x q.goal.y q.listed q.decimals) e2
    ∙ (ap (λ v. query_with bucket name v q.height q.start.x q.start.y q.goal.x q.goal.y q.listed q.decimals) e3
    ∙ (ap (λ v. query_with bucket name width v q.start.x q.start.y q.goal.x q.goal.y q.listed q.decimals) e4
    ∙ (ap (λ v. query_with bucket name width height v q.start.y q.goal.x q.goal.y q.listed q.decimals) e5
    ∙ (ap (λ v. query_with bucket name width height start_x v q.goal.x q.goal.y q.listed q.decimals) e6
    ∙ (ap (λ v. query_with bucket name width height start_x start_y v q.goal.y q.listed q.decimals) e7
    ∙ (ap (λ v. query_with bucket name width height start_x start_y goal_x v q.listed q.decimals) e8
    ∙ (ap (λ v. query_with bucket name width height start_x start_y goal_x goal_y v q.decimals) e9
    ∙ ap (λ v. query_with bucket name width height start_x start_y goal_x goal_y listed v) e10))))))))

-- What a line that is a row says by its fields.
pub record ReadsAs (q : Query) (line : List ℕ) (f : Fields) : Type 0 where
  pub has : HasFields line f
  pub numbers : wrong_number f ≡ None
  pub in_grid : is_in_grid f ≡ true
  pub listed : is_listed f.listed ≡ true
  pub row : q ≡ query_of f

pub fields-from_row : (q : Query) (line : List ℕ) (h : SpellsRow q line) → ReadsAs q line (fields_read q line h)
fields-from_row q line h =
    let bucket = number-from_spells q.bucket h.bucket h.is_bucket in
    let width = number-from_spells q.width h.width h.is_width in
    let height = number-from_spells q.height h.height h.is_height in
    let start_x = number-from_spells q.start.x h.start_x h.is_start_x in
    let start_y = number-from_spells q.start.y h.start_y h.is_start_y in
    let goal_x = number-from_spells q.goal.x h.goal_x h.is_goal_x in
    let goal_y = number-from_spells q.goal.y h.goal_y h.is_goal_y in
    let passes = test-from_spells q.listed q.decimals h.listed h.is_listed in
    let within = h.within in
    record {
      has = h.fields;
      numbers = no_wrong_number (fields_read q line h)
          (and_from _ _ bucket.0 (lt-ltb _ _ (omega (arith, bucket.1, within.bucket_limit))))
          (and_from _ _ (and_from _ _ width.0 (lt-ltb _ _ (omega (arith, width.1, within.some_width)))) (lt-ltb _ _ (omega (arith, width.1, within.width_limit))))
          (and_from _ _ (and_from _ _ height.0 (lt-ltb _ _ (omega (arith, height.1, within.some_height)))) (lt-ltb _ _ (omega (arith, height.1, within.height_limit))))
          start_x.0 start_y.0 goal_x.0 goal_y.0;
      in_grid = test-from_LiesInGrid (fields_read q line h) (record {
        start_column = omega (arith, start_x.1, width.1, within.start_column);
        start_row = omega (arith, start_y.1, height.1, within.start_row);
        goal_column = omega (arith, goal_x.1, width.1, within.goal_column);
        goal_row = omega (arith, goal_y.1, height.1, within.goal_row);
      });
      listed = passes.listed;
      row = same_query q _ _ _ _ _ _ _ _ _ _ bucket.1 refl width.1 height.1 start_x.1 start_y.1 goal_x.1 goal_y.1 passes.value_is passes.decimals_is;
    }
