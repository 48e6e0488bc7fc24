-- The fields between the separators of some bytes, one after another.
use Rattle.std.proofs.Common.{◌≡◌, ℕ, suc, ◌+◌, ◌<◌, ◌≤◌, ◌⊎◌, Bool, true, false, cond, List, [], ◌∷◌, length, map, take, drop, refl, sym, ap, ◌∙◌, inl, inr, arith, IsTrue}
use Rattle.std.specs.Prelude.{◌==◌, not}
use Rattle.std.specs.List.{AllByRecursion, filter, list_all, slice_split, onto_first, position_or_len}
use Rattle.std.proofs.lemmas.Bool.{cond-true, cond-false, cond_both, and_parts, and_from, eqb-true, ne_eqb, lt-ltb, ltb-true, both_ways}
use Rattle.std.proofs.lemmas.List.Splits.{slice_split-cons_yes, slice_split-cons_no, length-slice_split}
use Rattle.text_io.specs.Text.{is_blank}
use Rattle.scenario.proofs.TrimLemmas.{length-without_leading, length-without_trailing, all-without_leading, all-without_trailing, trimmed-stays}
use Rattle.scenario.specs.Fields.{without_leading, before_trailing, without_trailing, trimmed, has_bytes, fields_between}

-- the parts that have bytes but blanks
abbrev pub fields_in : List (List ℕ) → List (List ℕ)
fields_in parts = filter has_bytes (map trimmed parts)

-- a blank in front of the first part changes nothing
fields_in-blank : (b : ℕ) (parts : List (List ℕ)) → is_blank b ≡ true → fields_in (onto_first b parts) ≡ fields_in parts
fields_in-blank b [] e =
    let none : trimmed (b ∷ []) ≡ [] = ap without_trailing (cond-true (is_blank b) [] (b ∷ []) e) in
    ap (λ x. cond (has_bytes x) (x ∷ []) []) none
fields_in-blank b (part ∷ parts) e =
    let same : trimmed (b ∷ part) ≡ trimmed part = ap without_trailing (cond-true (is_blank b) _ _ e) in
    ap (λ x. cond (has_bytes x) (x ∷ fields_in parts) (fields_in parts)) same

-- a blank in front of the bytes changes nothing
pub fields_between-blank : (separator b : ℕ) (bytes : List ℕ) → is_blank b ≡ true → fields_between separator (b ∷ bytes) ≡ fields_between separator bytes
fields_between-blank separator b bytes e = go (b == separator) refl
  where
    go : (t : Bool) → (b == separator) ≡ t → fields_between separator (b ∷ bytes) ≡ fields_between separator bytes
    go true at = ap fields_in (slice_split-cons_yes (λ x. x == separator) b bytes at)
    go false at =
        ap fields_in (slice_split-cons_no (λ x. x == separator) b bytes at) ∙ fields_in-blank b (slice_split (λ x. x == separator) bytes) e

-- nor do the blanks at the front
pub fields_between-leading : (separator : ℕ) (bytes : List ℕ) → fields_between separator (without_leading bytes) ≡ fields_between separator bytes
fields_between-leading separator [] = refl
fields_between-leading separator (b ∷ bytes) = go (fields_between-leading separator bytes) (is_blank b) refl
  where
    go : fields_between separator (without_leading bytes) ≡ fields_between separator bytes → (t : Bool) → is_blank b ≡ t
        → fields_between separator (without_leading (b ∷ bytes)) ≡ fields_between separator (b ∷ bytes)
    go rest true e =
        ap (fields_between separator) (cond-true (is_blank b) (without_leading bytes) (b ∷ bytes) e)
        ∙ (rest ∙ sym (fields_between-blank separator b bytes e))
    go rest false e = ap (fields_between separator) (cond-false (is_blank b) (without_leading bytes) (b ∷ bytes) e)

-- ---- the first field

-- The parts: the bytes before the first separator, and those whose fields are the fields from it on.
pub record HasFirstPart (separator : ℕ) (bytes : List ℕ) : Type 0 where
  pub parts : List (List ℕ)
  pub split : slice_split (λ b. b == separator) bytes ≡ take (position_or_len (λ b. b == separator) bytes) bytes ∷ parts
  pub others : fields_in parts ≡ fields_between separator (drop (position_or_len (λ b. b == separator) bytes) bytes)

-- one more byte that is no separator
first_part-byte : (separator b : ℕ) (bytes : List ℕ) → (b == separator) ≡ false → HasFirstPart separator bytes → HasFirstPart separator (b ∷ bytes)
first_part-byte separator b bytes e h = record {
  parts = h.parts;
  split =
      slice_split-cons_no (λ x. x == separator) b bytes e
      ∙ (ap (onto_first b) h.split ∙ ap (λ n. take n (b ∷ bytes) ∷ h.parts) (sym place));
  others = h.others ∙ ap (λ n. fields_between separator (drop n (b ∷ bytes))) (sym place);
}
  where
    place : position_or_len (λ x. x == separator) (b ∷ bytes) ≡ suc (position_or_len (λ x. x == separator) bytes)
    place =
        ap (λ t. cond (not t) (1 + position_or_len (λ x. x == separator) bytes) 0) e
        ∙ omega arith

-- all bytes have such a part
first_part : (separator : ℕ) (bytes : List ℕ) → is_blank separator ≡ true → HasFirstPart separator bytes
first_part separator [] blank = record { parts = []; split = refl; others = refl }
first_part separator (b ∷ bytes) blank = go (first_part separator bytes blank) (b == separator) refl
  where
    go : HasFirstPart separator bytes → (t : Bool) → (b == separator) ≡ t → HasFirstPart separator (b ∷ bytes)
    go rest true e =
        let place : position_or_len (λ x. x == separator) (b ∷ bytes) ≡ 0 =
        ap (λ t. cond (not t) (1 + position_or_len (λ x. x == separator) bytes) 0) e in
        record {
          parts = slice_split (λ x. x == separator) bytes;
          split = slice_split-cons_yes (λ x. x == separator) b bytes e
              ∙ ap (λ n. take n (b ∷ bytes) ∷ slice_split (λ x. x == separator) bytes) (sym place);
          others = sym (fields_between-blank separator b bytes (ap is_blank (eqb-true b separator e) ∙ blank))
              ∙ ap (λ n. fields_between separator (drop n (b ∷ bytes))) (sym place);
        }
    go rest false e = first_part-byte separator b bytes e rest

-- a byte that is no blank stays
before_trailing-some_bytes : (b : ℕ) (bytes : List ℕ) → is_blank b ≡ false → has_bytes (before_trailing b bytes) ≡ true
before_trailing-some_bytes b [] e = ap has_bytes (cond-false (is_blank b) [] (b ∷ []) e)
before_trailing-some_bytes b (c ∷ bytes) e = lt-ltb 0 (length (b ∷ c ∷ bytes)) (omega arith)

-- bytes whose first is no blank begin with a field
fields_between-first : (separator b : ℕ) (bytes : List ℕ) → is_blank separator ≡ true → is_blank b ≡ false
    → fields_between separator (b ∷ bytes)
    ≡ without_trailing (take (position_or_len (λ x. x == separator) (b ∷ bytes)) (b ∷ bytes))
    ∷ fields_between separator (drop (position_or_len (λ x. x == separator) (b ∷ bytes)) (b ∷ bytes))
fields_between-first separator b bytes blank other = go (first_part separator (b ∷ bytes) blank)
  where
    differs : (b == separator) ≡ false
    differs = ne_eqb b separator (λ e. absurd (both_ways (is_blank b) other (ap is_blank e ∙ blank)))

    place : position_or_len (λ x. x == separator) (b ∷ bytes) ≡ suc (position_or_len (λ x. x == separator) bytes)
    place = ap (λ t. cond (not t) (1 + position_or_len (λ x. x == separator) bytes) 0) differs ∙ omega arith

    same : trimmed (take (position_or_len (λ x. x == separator) (b ∷ bytes)) (b ∷ bytes))
        ≡ without_trailing (take (position_or_len (λ x. x == separator) (b ∷ bytes)) (b ∷ bytes))
    same =
        ap (λ n. trimmed (take n (b ∷ bytes))) place
        ∙ (ap without_trailing (cond-false (is_blank b) _ _ other) ∙ ap (λ n. without_trailing (take n (b ∷ bytes))) (sym place))

    some : has_bytes (without_trailing (take (position_or_len (λ x. x == separator) (b ∷ bytes)) (b ∷ bytes))) ≡ true
    some =
        ap (λ n. has_bytes (without_trailing (take n (b ∷ bytes)))) place
        ∙ before_trailing-some_bytes b (without_trailing (take (position_or_len (λ x. x == separator) bytes) bytes)) other

    go : HasFirstPart separator (b ∷ bytes)
        → fields_between separator (b ∷ bytes)
        ≡ without_trailing (take (position_or_len (λ x. x == separator) (b ∷ bytes)) (b ∷ bytes))
        ∷ fields_between separator (drop (position_or_len (λ x. x == separator) (b ∷ bytes)) (b ∷ bytes))
    go h =
        ap fields_in h.split
        ∙ (ap (λ x. cond (has_bytes x) (x ∷ fields_in h.parts) (fields_in h.parts)) same
        ∙ (cond-true _ _ _ some ∙ ap (λ xs. without_trailing (take (position_or_len (λ x. x == separator) (b ∷ bytes)) (b ∷ bytes)) ∷ xs) h.others))

-- what is left of bytes without the blanks at their front begins with another byte
without_leading-first : (bytes : List ℕ)
    → (without_leading bytes ≡ []) ⊎ ((b : ℕ) × (others : List ℕ) × (without_leading bytes ≡ b ∷ others) × (is_blank b ≡ false))
without_leading-first [] = inl refl
without_leading-first (b ∷ bytes) = go (without_leading-first bytes) (is_blank b) refl
  where
    go : (without_leading bytes ≡ []) ⊎ ((c : ℕ) × (others : List ℕ) × (without_leading bytes ≡ c ∷ others) × (is_blank c ≡ false))
        → (t : Bool) → is_blank b ≡ t
        → (without_leading (b ∷ bytes) ≡ []) ⊎ ((c : ℕ) × (others : List ℕ) × (without_leading (b ∷ bytes) ≡ c ∷ others) × (is_blank c ≡ false))
    go rest true e =
        let same : without_leading (b ∷ bytes) ≡ without_leading bytes = cond-true (is_blank b) _ _ e in
        elim rest [ inl h ↦ inl (same ∙ h) | inr h ↦ inr (h.0, h.1, same ∙ h.2, h.3) ]
    go rest false e = inr (b, bytes, cond-false (is_blank b) _ _ e, e)

-- no field is left where only blanks are
pub fields_between-none : (separator : ℕ) (bytes : List ℕ) → without_leading bytes ≡ [] → fields_between separator bytes ≡ []
fields_between-none separator bytes e = sym (fields_between-leading separator bytes) ∙ ap (fields_between separator) e

-- the first field, and those from the separator behind it on
pub fields_between-next : (separator : ℕ) (bytes rest : List ℕ) (n : ℕ) → is_blank separator ≡ true → rest ≡ without_leading bytes
    → 0 < length rest → n ≡ position_or_len (λ x. x == separator) rest
    → fields_between separator bytes ≡ without_trailing (take n rest) ∷ fields_between separator (drop n rest)
fields_between-next separator bytes rest n blank is some at = elim (without_leading-first bytes) [
  | inl none ↦ let zero_long : length rest ≡ 0 = ap length (is ∙ none) in absurd (omega arith)
  | inr (b, others, e, other) ↦
      let first = fields_between-first separator b others blank other in
      let begins : rest ≡ b ∷ others = is ∙ e in
      sym (fields_between-leading separator bytes)
      ∙ (ap (fields_between separator) e
      ∙ (first
      ∙ ap (λ xs. without_trailing (take (position_or_len (λ x. x == separator) xs) xs) ∷ fields_between separator (drop (position_or_len (λ x. x == separator) xs) xs)) (sym begins)
      ∙ ap (λ k. without_trailing (take k rest) ∷ fields_between separator (drop k rest)) (sym at)))
]

-- ---- what each field is like

-- a field: some bytes, trimmed, that hold no separator and pass the test
pub record IsField (test : ℕ → Bool) (separator : ℕ) (field : List ℕ) : Type 0 where
  pub some : 0 < length field
  pub is_trimmed : trimmed field ≡ field
  pub passes : IsTrue (list_all test field)
  pub undivided : IsTrue (list_all (λ b. not (b == separator)) field)

-- a part between separators
abbrev pub IsPart : (ℕ → Bool) → ℕ → List ℕ → Type 0
IsPart test separator part = IsTrue (list_all test part) × IsTrue (list_all (λ b. not (b == separator)) part)

parts_onto : (test : ℕ → Bool) (separator b : ℕ) (parts : List (List ℕ)) → test b ≡ true → not (b == separator) ≡ true
    → AllByRecursion (IsPart test separator) parts → AllByRecursion (IsPart test separator) (onto_first b parts)
parts_onto test separator b [] h k all = ((and_from (test b) true h refl, and_from (not (b == separator)) true k refl), tt)
parts_onto test separator b (part ∷ parts) h k all =
    ((and_from (test b) (list_all test part) h all.0.0, and_from (not (b == separator)) _ k all.0.1), all.1)

-- the parts of bytes that pass the test
are_parts : (test : ℕ → Bool) (separator : ℕ) (bytes : List ℕ) → IsTrue (list_all test bytes)
    → AllByRecursion (IsPart test separator) (slice_split (λ b. b == separator) bytes)
are_parts test separator [] h = ((refl, refl), tt)
are_parts test separator (b ∷ bytes) h = go (are_parts test separator bytes (and_parts (test b) (list_all test bytes) h).1) (b == separator) refl
  where
    go : AllByRecursion (IsPart test separator) (slice_split (λ x. x == separator) bytes) → (t : Bool) → (b == separator) ≡ t
        → AllByRecursion (IsPart test separator) (slice_split (λ x. x == separator) (b ∷ bytes))
    go rest true e = rw (slice_split-cons_yes (λ x. x == separator) b bytes e) ((refl, refl), rest)
    go rest false e =
        rw (slice_split-cons_no (λ x. x == separator) b bytes e)
        (parts_onto test separator b _ (and_parts (test b) (list_all test bytes) h).0 (ap not e) rest)

-- of parts the fields that are left
are_fields : (test : ℕ → Bool) (separator : ℕ) (parts : List (List ℕ)) → AllByRecursion (IsPart test separator) parts
    → AllByRecursion (IsField test separator) (fields_in parts)
are_fields test separator [] h = tt
are_fields test separator (part ∷ parts) h =
    cond_both (has_bytes (trimmed part)) (trimmed part ∷ fields_in parts) (fields_in parts) (λ xs. AllByRecursion (IsField test separator) xs)
    (λ e. (
      record {
        some = ltb-true 0 (length (trimmed part)) e;
        is_trimmed = trimmed-stays part;
        passes = all-without_trailing test (without_leading part) (all-without_leading test part h.0.0);
        undivided = all-without_trailing _ (without_leading part) (all-without_leading (λ b. not (b == separator)) part h.0.1);
      },
      are_fields test separator parts h.1,
    ))
    (λ _. are_fields test separator parts h.1)

-- each field between separators is one
pub fields_between-are : (test : ℕ → Bool) (separator : ℕ) (bytes : List ℕ) → IsTrue (list_all test bytes)
    → AllByRecursion (IsField test separator) (fields_between separator bytes)
fields_between-are test separator bytes h = are_fields test separator _ (are_parts test separator bytes h)

-- ---- how long the fields are together

-- the bytes of lists, with one more for each
abbrev pub room_of : List (List ℕ) → ℕ
room_of [] = 0
room_of (part ∷ parts) = length part + 1 + room_of parts

room_of-onto : (b : ℕ) (parts : List (List ℕ)) → 0 < length parts → room_of (onto_first b parts) ≡ 1 + room_of parts
room_of-onto b [] h = absurd (omega arith)
room_of-onto b (part ∷ parts) h = omega arith

some_parts : (separator : ℕ) (bytes : List ℕ) → 0 < length (slice_split (λ b. b == separator) bytes)
some_parts separator bytes = omega (arith, length-slice_split (λ b. b == separator) bytes)

room_of-split : (separator : ℕ) (bytes : List ℕ) → room_of (slice_split (λ b. b == separator) bytes) ≡ length bytes + 1
room_of-split separator [] = omega arith
room_of-split separator (b ∷ bytes) = go (room_of-split separator bytes) (b == separator) refl
  where
    go : room_of (slice_split (λ x. x == separator) bytes) ≡ length bytes + 1 → (t : Bool) → (b == separator) ≡ t
        → room_of (slice_split (λ x. x == separator) (b ∷ bytes)) ≡ length (b ∷ bytes) + 1
    go rest true e =
        let first = ap room_of (slice_split-cons_yes (λ x. x == separator) b bytes e) in
        first ∙ omega (arith, rest)
    go rest false e =
        let first = ap room_of (slice_split-cons_no (λ x. x == separator) b bytes e) in
        first ∙ (room_of-onto b (slice_split (λ x. x == separator) bytes) (some_parts separator bytes) ∙ omega (arith, rest))

room_of-fields : (parts : List (List ℕ)) → room_of (fields_in parts) ≤ room_of parts
room_of-fields [] = omega arith
room_of-fields (part ∷ parts) =
    let less : length (trimmed part) ≤ length part =
    omega (arith, length-without_trailing (without_leading part), length-without_leading part) in
    let rest = room_of-fields parts in
    cond_both (has_bytes (trimmed part)) (trimmed part ∷ fields_in parts) (fields_in parts) (λ xs. room_of xs ≤ room_of (part ∷ parts))
    (λ _. omega (arith, rest, less)) (λ _. omega (arith, rest))

-- the fields have no more bytes than there were, with one between each two
pub room_of-between : (separator : ℕ) (bytes : List ℕ) → room_of (fields_between separator bytes) ≤ length bytes + 1
room_of-between separator bytes =
    omega (arith, room_of-fields (slice_split (λ b. b == separator) bytes), room_of-split separator bytes)
