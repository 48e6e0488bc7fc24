-- The first fault of a text and its rows, found line by line.
use Rattle.std.proofs.Common.{◌≡◌, ℕ, suc, ◌+◌, inl, inr, min, Bool, true, false, cond, List, [], ◌∷◌, ◌++◌, length, Option, Some, None, refl, sym, ap, ◌∙◌, subst, arith, append_assoc, append-nil}
use Rattle.std.specs.Prelude.{nat_lt}
use Rattle.std.specs.List.{AllByRecursion}
use Rattle.std.proofs.lemmas.Bool.{cond-true, cond-false, ltb-false, le-ltb, both_ways}
use Rattle.text_io.specs.Counted.{greatest}
use Rattle.text_io.specs.Text.{IsLine, lines_of}
use Rattle.scenario.specs.declared.scen_fault.ScenFault.{ScenFault}
use Rattle.scenario.specs.declared.scen_fault.ScenFault.TheVariants.{NoVersion, LineTooLong}
use Rattle.scenario.specs.Fields.{content_of, has_bytes}
use Rattle.scenario.specs.Query.{Query, longest_line}
use Rattle.scenario.specs.ScenText.{IsShort, IsSkipped, IsVersion, AreQueries, ScenText}
use Rattle.scenario.specs.ScenFault.{ScenDue, version_due, row_due, ScenFollows}
use Rattle.scenario.specs.Code.Parsing.{ScenLeads}
use Rattle.scenario.proofs.JudgedLines.{line_fault, line_next, line_rows, IsRight, right-from_Follows, skipped_right, row_right, row_line-cases, ScenFollows-from_none}

-- the number of the line after so many others
abbrev pub number_of : ℕ → ℕ
number_of count = min (count + 1) greatest

-- a fault, or else what is found later
abbrev pub or_later : Option ScenFault → Option ScenFault → Option ScenFault
or_later (Some fault) later = Some fault
or_later None later = later

-- the fault at the end of lines
abbrev pub fault_at_end : ScenDue → Option ScenFault
fault_at_end version_due = Some NoVersion
fault_at_end row_due = None

-- the first fault of lines, where so many stand before them
abbrev pub first_fault : ScenDue → ℕ → List (List ℕ) → Option ScenFault
first_fault due count [] = fault_at_end due
first_fault due count (line ∷ lines) =
    cond (nat_lt longest_line (length line)) (Some (LineTooLong (number_of count)))
    (or_later (line_fault due (number_of count) line) (first_fault (line_next due line) (suc count) lines))

-- the rows of lines
abbrev pub rows_in : ScenDue → List (List ℕ) → List Query
rows_in due [] = []
rows_in due (line ∷ lines) = line_rows due line ++ rows_in (line_next due line) lines

-- ---- right lines

short_test : (line : List ℕ) → IsShort line → nat_lt longest_line (length line) ≡ false
short_test line h = le-ltb longest_line (length line) h

-- a line without a fault passes the search on
pub first_fault-right : (due : ScenDue) (count : ℕ) (line : List ℕ) (lines : List (List ℕ)) (next : ScenDue) → IsRight due (number_of count) line next
    → first_fault due count (line ∷ lines) ≡ first_fault next (suc count) lines
first_fault-right due count line lines next h =
    cond-false _ _ _ (short_test line h.short)
    ∙ (ap (λ f. or_later f (first_fault (line_next due line) (suc count) lines)) h.none
    ∙ ap (λ d. first_fault d (suc count) lines) (sym h.next_is))

-- right lines pass it on
pub first_fault-leads : (first : ScenDue) (count : ℕ) (before : List (List ℕ)) (due : ScenDue) (rest : List (List ℕ)) → ScenLeads first before due
    → first_fault first count (before ++ rest) ≡ first_fault due (count + length before) rest
first_fault-leads first count [] due rest h =
    let same : count ≡ count + length {A = List ℕ} [] = omega arith in
    ap (λ d. first_fault d count rest) (sym h) ∙ ap (λ n. first_fault due n rest) same
first_fault-leads first count (line ∷ before) due rest h =
    let more : suc count + length before ≡ count + length (line ∷ before) = omega arith in
    first_fault-right first count line (before ++ rest) h.0 (right-from_Follows first (number_of count) line h.0 h.1)
    ∙ (first_fault-leads h.0 (suc count) before due rest h.2 ∙ ap (λ n. first_fault due n rest) more)

-- right lines, and one more
pub Leads_push : (first : ScenDue) (before : List (List ℕ)) (due : ScenDue) (line : List ℕ) (next : ScenDue) → ScenLeads first before due → ScenFollows due line next
    → ScenLeads first (before ++ line ∷ []) next
Leads_push first [] due line next is h = (next, subst (λ d. ScenFollows d line next) is h, refl)
Leads_push first (l ∷ before) due line next h k = (h.0, h.1, Leads_push h.0 before due line next h.2 k)

-- the rows of right lines, and those of one more
pub rows_in_push : (first : ScenDue) (before : List (List ℕ)) (due : ScenDue) (line : List ℕ) → ScenLeads first before due
    → rows_in first (before ++ line ∷ []) ≡ rows_in first before ++ line_rows due line
rows_in_push first [] due line is = append-nil (line_rows first line) ∙ ap (λ d. line_rows d line) (sym is)
rows_in_push first (l ∷ before) due line h =
    let right = right-from_Follows first 0 l h.0 h.1 in
    ap (λ xs. line_rows first l ++ xs)
    (ap (λ d. rows_in d (before ++ line ∷ [])) (sym right.next_is)
    ∙ (rows_in_push h.0 before due line h.2 ∙ ap (λ d. rows_in d before ++ line_rows due line) right.next_is))
    ∙ sym (append_assoc (line_rows first l) (rows_in (line_next first l) before) (line_rows due line))

-- ---- texts that are spelled

-- lines that are rows
rows_spelled : (queries : List Query) (count : ℕ) (lines : List (List ℕ)) → AreQueries queries lines
    → (first_fault row_due count lines ≡ None) × (queries ≡ rows_in row_due lines)
rows_spelled queries count [] h = (refl, h)
rows_spelled queries count (line ∷ lines) (inl h) =
    let rest = rows_spelled queries (suc count) lines h.1 in
    let right = skipped_right row_due (number_of count) line h.0 in (
      first_fault-right row_due count line lines row_due (record { short = h.0.0; none = right.0; next_is = refl }) ∙ rest.0,
      rest.1 ∙ ap (λ xs. xs ++ rows_in row_due lines) (sym (no_rows (has_bytes (content_of line)) refl)),
    )
  where
    no_rows : (t : Bool) → has_bytes (content_of line) ≡ t → line_rows row_due line ≡ []
    no_rows false e = cond-false _ _ _ e
    no_rows true e = absurd (both_ways (has_bytes (content_of line)) (ap has_bytes h.0.1) e)
rows_spelled queries count (line ∷ lines) (inr h) =
    let rest = rows_spelled h.1 (suc count) lines h.4 in
    let right = row_right (number_of count) h.0 line h.3 in (
      first_fault-right row_due count line lines row_due (record { short = h.3.short; none = right.0; next_is = refl }) ∙ rest.0,
      h.2 ∙ (ap (λ xs. h.0 ∷ xs) rest.1 ∙ ap (λ xs. xs ++ rows_in row_due lines) (sym right.1)),
    )

-- skipped lines, and then others
skipped_spelled : (count : ℕ) (before rest : List (List ℕ)) → AllByRecursion IsSkipped before
    → (first_fault version_due count (before ++ rest) ≡ first_fault version_due (count + length before) rest)
    × (rows_in version_due (before ++ rest) ≡ rows_in version_due rest)
skipped_spelled count [] rest h =
    let same : count ≡ count + length {A = List ℕ} [] = omega arith in
    (ap (λ n. first_fault version_due n rest) same, refl)
skipped_spelled count (line ∷ before) rest h =
    let more : suc count + length before ≡ count + length (line ∷ before) = omega arith in
    let later = skipped_spelled (suc count) before rest h.1 in
    let right = skipped_right version_due (number_of count) line h.0 in (
      first_fault-right version_due count line (before ++ rest) version_due (record { short = h.0.0; none = right.0; next_is = right.1 })
          ∙ (later.0 ∙ ap (λ n. first_fault version_due n rest) more),
      ap (λ d. rows_in d (before ++ rest)) (sym right.1) ∙ later.1,
    )

-- a text that spells rows has no fault, and those rows
pub scanned-from_ScenText : (queries : List Query) (text : List ℕ) → ScenText queries text
    → (first_fault version_due 0 (lines_of text) ≡ None) × (queries ≡ rows_in version_due (lines_of text))
scanned-from_ScenText queries text h =
    let skipped = skipped_spelled 0 h.before (h.version ∷ h.rest) h.are_skipped in
    let right = right-from_Follows version_due (number_of (0 + length h.before)) h.version row_due (inr (h.is_version, refl)) in
    let rows = rows_spelled queries (suc (0 + length h.before)) h.rest h.are_rows in (
      ap (first_fault version_due 0) h.lines
          ∙ (skipped.0 ∙ (first_fault-right version_due (0 + length h.before) h.version h.rest row_due right ∙ rows.0)),
      rows.1 ∙ (ap (λ d. rows_in d h.rest) right.next_is ∙ (sym skipped.1 ∙ ap (rows_in version_due) (sym h.lines))),
    )

-- ---- texts without a fault

-- what the first of lines without a fault says
pub record FirstRight (due : ScenDue) (count : ℕ) (line : List ℕ) (lines : List (List ℕ)) : Type 0 where
  pub short : IsShort line
  pub none : line_fault due (number_of count) line ≡ None
  pub rest : first_fault (line_next due line) (suc count) lines ≡ None

first_right : (due : ScenDue) (count : ℕ) (line : List ℕ) (lines : List (List ℕ)) → first_fault due count (line ∷ lines) ≡ None
    → FirstRight due count line lines
first_right due count line lines h = go (nat_lt longest_line (length line)) refl
  where
    go : (t : Bool) → nat_lt longest_line (length line) ≡ t → FirstRight due count line lines
    go true long = absurd (let bad = sym (cond-true _ _ _ long) ∙ h in cc)
    go false short = found (line_fault due (number_of count) line) refl (sym (cond-false _ _ _ short) ∙ h)
      where
        found : (f : Option ScenFault) → line_fault due (number_of count) line ≡ f
            → or_later (line_fault due (number_of count) line) (first_fault (line_next due line) (suc count) lines) ≡ None
            → FirstRight due count line lines
        found (Some fault) e k = absurd (let bad = sym (ap (λ f. or_later f (first_fault (line_next due line) (suc count) lines)) e) ∙ k in cc)
        found None e k = record {
          short = ltb-false longest_line (length line) short;
          none = e;
          rest = sym (ap (λ f. or_later f (first_fault (line_next due line) (suc count) lines)) e) ∙ k;
        }

-- lines without a fault are rows
rows-from_none : (count : ℕ) (lines : List (List ℕ)) → AllByRecursion IsLine lines → first_fault row_due count lines ≡ None
    → AreQueries (rows_in row_due lines) lines
rows-from_none count [] are none = refl
rows-from_none count (line ∷ lines) are none =
    let right = first_right row_due count line lines none in
    let rest = rows-from_none (suc count) lines are.1 right.rest in
    elim (row_line-cases (number_of count) line are.0 right.short right.none) [
      | inl skipped ↦ inl (skipped.0, subst (λ xs. AreQueries (xs ++ rows_in row_due lines) lines) (sym skipped.1) rest)
      | inr row ↦ inr (row.0, rows_in row_due lines, ap (λ xs. xs ++ rows_in row_due lines) row.2, row.1, rest)
    ]

-- The lines of a scenario without its text.
pub record AreScenLines (queries : List Query) (lines : List (List ℕ)) : Type 0 where
  pub before : List (List ℕ)
  pub version : List ℕ
  pub rest : List (List ℕ)
  pub parts : lines ≡ before ++ version ∷ rest
  pub are_skipped : AllByRecursion IsSkipped before
  pub is_version : IsVersion version
  pub are_rows : AreQueries queries rest

lines-from_none : (count : ℕ) (lines : List (List ℕ)) → AllByRecursion IsLine lines → first_fault version_due count lines ≡ None
    → AreScenLines (rows_in version_due lines) lines
lines-from_none count [] are none = absurd (cc)
lines-from_none count (line ∷ lines) are none =
    go (first_right version_due count line lines none) (λ k. lines-from_none (suc count) lines are.1 k)
  where
    go : FirstRight version_due count line lines → (first_fault version_due (suc count) lines ≡ None → AreScenLines (rows_in version_due lines) lines)
        → AreScenLines (rows_in version_due (line ∷ lines)) (line ∷ lines)
    go right rest = elim (ScenFollows-from_none version_due (number_of count) line are.0 right.short right.none) [
      | inl skipped ↦
          let later = rest (ap (λ d. first_fault d (suc count) lines) (sym skipped.1) ∙ right.rest) in
          let found : AreScenLines (rows_in version_due lines) (line ∷ lines) = record {
            before = line ∷ later.before;
            version = later.version;
            rest = later.rest;
            parts = ap (λ xs. line ∷ xs) later.parts;
            are_skipped = (skipped.0, later.are_skipped);
            is_version = later.is_version;
            are_rows = later.are_rows;
          } in
          subst (λ d. AreScenLines (rows_in d lines) (line ∷ lines)) (sym skipped.1) found
      | inr version ↦
          let rows = rows-from_none (suc count) lines are.1 (ap (λ d. first_fault d (suc count) lines) (sym version.1) ∙ right.rest) in
          let found : AreScenLines (rows_in row_due lines) (line ∷ lines) = record {
            before = [];
            version = line;
            rest = lines;
            parts = refl;
            are_skipped = tt;
            is_version = version.0;
            are_rows = rows;
          } in
          subst (λ d. AreScenLines (rows_in d lines) (line ∷ lines)) (sym version.1) found
    ]

-- a text in which no fault is found spells the rows that are found
pub ScenText-from_none : (text : List ℕ) → AllByRecursion IsLine (lines_of text) → first_fault version_due 0 (lines_of text) ≡ None
    → ScenText (rows_in version_due (lines_of text)) text
ScenText-from_none text are none =
    let found = lines-from_none 0 (lines_of text) are none in
    record {
      before = found.before;
      version = found.version;
      rest = found.rest;
      lines = found.parts;
      are_skipped = found.are_skipped;
      is_version = found.is_version;
      are_rows = found.are_rows;
    }
