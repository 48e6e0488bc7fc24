-- What a whole line says where it is due, by one function of its bytes.
use Rattle.std.proofs.Common.{◌≡◌, ◌≢◌, ℕ, ◌⊎◌, inl, inr, Bool, true, false, cond, List, [], ◌∷◌, length, Option, Some, None, refl, sym, ap, ◌∙◌, subst, arith}
use Rattle.std.proofs.lemmas.Bool.{cond-true, cond-false, lt-ltb, both_ways}
use Rattle.text_io.specs.Text.{IsLine}
use Rattle.text_io.specs.Reading.{Place, at_end, IsOver}
use Rattle.scenario.specs.declared.scen_fault.ScenFault.{ScenFault}
use Rattle.scenario.specs.declared.scen_fault.ScenFault.TheVariants.{NoVersion, FieldCount, BadNumber, OutOfGrid, BadLength, ReadFailed, OutOfMemory, LineTooLong}
use Rattle.scenario.specs.Fields.{content_of, fields_in_content, fields_of, has_bytes}
use Rattle.scenario.specs.Query.{Query}
use Rattle.scenario.specs.ScenText.{IsShort, IsSkipped, IsVersion, SpellsRow}
use Rattle.scenario.specs.ScenFault.{ScenDue, version_due, row_due, ScenFollows, Fields, all_fields, HasFields, wrong_number, is_in_grid, HasScenFault}
use Rattle.scenario.specs.Code.Parsing.{is_listed, is_version, query_of}
use Rattle.scenario.proofs.ListedLemmas.{spells-from_test, test-from_spells}
use Rattle.scenario.proofs.RowLemmas.{SpellsRow-from_fields, fields_read, fields-from_row}
use Rattle.scenario.proofs.VersionLemmas.{IsVersion-from_test, test-from_IsVersion}

-- nine fields, or another number of them
abbrev pub nine : List (List ℕ) → Option Fields
nine (bucket ∷ name ∷ width ∷ height ∷ start_x ∷ start_y ∷ goal_x ∷ goal_y ∷ listed ∷ []) = Some (record {
  bucket = bucket;
  name = name;
  width = width;
  height = height;
  start_x = start_x;
  start_y = start_y;
  goal_x = goal_x;
  goal_y = goal_y;
  listed = listed;
})
nine _ = None

nine_cases : (fields : List (List ℕ)) → ((f : Fields) × (fields ≡ all_fields f) × (nine fields ≡ Some f)) ⊎ ((length fields ≢ 9) × (nine fields ≡ None))
nine_cases [] = inr (λ e. absurd (omega arith), refl)
nine_cases (a ∷ []) = inr (λ e. absurd (omega arith), refl)
nine_cases (a ∷ b ∷ []) = inr (λ e. absurd (omega arith), refl)
nine_cases (a ∷ b ∷ c ∷ []) = inr (λ e. absurd (omega arith), refl)
nine_cases (a ∷ b ∷ c ∷ d ∷ []) = inr (λ e. absurd (omega arith), refl)
nine_cases (a ∷ b ∷ c ∷ d ∷ e ∷ []) = inr (λ h. absurd (omega arith), refl)
nine_cases (a ∷ b ∷ c ∷ d ∷ e ∷ f ∷ []) = inr (λ h. absurd (omega arith), refl)
nine_cases (a ∷ b ∷ c ∷ d ∷ e ∷ f ∷ g ∷ []) = inr (λ h. absurd (omega arith), refl)
nine_cases (a ∷ b ∷ c ∷ d ∷ e ∷ f ∷ g ∷ h ∷ []) = inr (λ k. absurd (omega arith), refl)
nine_cases (a ∷ b ∷ c ∷ d ∷ e ∷ f ∷ g ∷ h ∷ i ∷ []) =
    inl (
      record { bucket = a; name = b; width = c; height = d; start_x = e; start_y = f; goal_x = g; goal_y = h; listed = i },
      refl,
      refl,
    )
nine_cases (a ∷ b ∷ c ∷ d ∷ e ∷ f ∷ g ∷ h ∷ i ∷ j ∷ more) = inr (λ k. absurd (omega arith), refl)

-- the fault of nine fields, if they have one
abbrev pub fault_after : ℕ → Fields → Option ℕ → Option ScenFault
fault_after number f (Some field) = Some (BadNumber number field)
fault_after number f None = cond (is_in_grid f) (cond (is_listed f.listed) None (Some (BadLength number))) (Some (OutOfGrid number))

abbrev pub fault_of_fields : ℕ → Option Fields → Option ScenFault
fault_of_fields number None = Some (FieldCount number)
fault_of_fields number (Some f) = fault_after number f (wrong_number f)

-- the fault of a line that is not too long, where it is over, if it has one
abbrev pub line_fault : ScenDue → ℕ → List ℕ → Option ScenFault
line_fault version_due number line = cond (has_bytes (content_of line)) (cond (is_version (content_of line)) None (Some NoVersion)) None
line_fault row_due number line = cond (has_bytes (content_of line)) (fault_of_fields number (nine (fields_of line))) None

-- what is due after a right line
abbrev pub line_next : ScenDue → List ℕ → ScenDue
line_next version_due line = cond (has_bytes (content_of line)) row_due version_due
line_next row_due line = row_due

-- the row of nine fields
abbrev pub rows_of_fields : Option Fields → List Query
rows_of_fields None = []
rows_of_fields (Some f) = query_of f ∷ []

-- the row of a line, or none
abbrev pub line_rows : ScenDue → List ℕ → List Query
line_rows version_due line = []
line_rows row_due line = cond (has_bytes (content_of line)) (rows_of_fields (nine (fields_of line))) []

-- ---- contents

empty-test : (line : List ℕ) → content_of line ≡ [] → has_bytes (content_of line) ≡ false
empty-test line e = ap has_bytes e

some-test : (line : List ℕ) → content_of line ≢ [] → has_bytes (content_of line) ≡ true
some-test line h = go (content_of line) refl
  where
    go : (content : List ℕ) → content_of line ≡ content → has_bytes (content_of line) ≡ true
    go [] e = absurd (h e)
    go (b ∷ content) e = ap has_bytes e ∙ lt-ltb 0 (length (b ∷ content)) (omega arith)

pub empty-from_test : (line : List ℕ) → has_bytes (content_of line) ≡ false → content_of line ≡ []
empty-from_test line h = go (content_of line) refl
  where
    go : (content : List ℕ) → content_of line ≡ content → content_of line ≡ []
    go [] e = e
    go (b ∷ content) e = absurd (both_ways (has_bytes (content_of line)) h (ap has_bytes e ∙ lt-ltb 0 (length (b ∷ content)) (omega arith)))

pub some-from_test : (line : List ℕ) → has_bytes (content_of line) ≡ true → content_of line ≢ []
some-from_test line h e = both_ways (has_bytes (content_of line)) (empty-test line e) h

-- the version is not empty
version_some : (line : List ℕ) → IsVersion line → has_bytes (content_of line) ≡ true
version_some line h =
    some-test line (λ e. let passes = ap is_version (sym e) ∙ test-from_IsVersion line h in absurd (both_ways (is_version []) refl passes))

-- a row is not empty
row_some : (q : Query) (line : List ℕ) → SpellsRow q line → has_bytes (content_of line) ≡ true
row_some q line h =
    some-test line (λ e. let none : fields_of line ≡ [] = ap (λ xs. fields_in_content xs) e in absurd (let bad = sym none ∙ h.fields in cc))

-- ---- right lines

-- What a right line says: it is not too long, has no fault, and leads to the next line.
pub record IsRight (due : ScenDue) (number : ℕ) (line : List ℕ) (next : ScenDue) : Type 0 where
  pub short : IsShort line
  pub none : line_fault due number line ≡ None
  pub next_is : next ≡ line_next due line

pub skipped_right : (due : ScenDue) (number : ℕ) (line : List ℕ) → IsSkipped line → (line_fault due number line ≡ None) × (due ≡ line_next due line)
skipped_right version_due number line h =
    let empty = empty-test line h.1 in
    (cond-false _ _ _ empty, sym (cond-false _ _ _ empty))
skipped_right row_due number line h = (cond-false _ _ _ (empty-test line h.1), refl)

-- a skipped line has no row
pub skipped_rows : (line : List ℕ) → IsSkipped line → line_rows row_due line ≡ []
skipped_rows line h = cond-false _ _ _ (empty-test line h.1)

-- a row has no fault
pub row_right : (number : ℕ) (q : Query) (line : List ℕ) → SpellsRow q line
    → (line_fault row_due number line ≡ None) × (line_rows row_due line ≡ q ∷ [])
row_right number q line h =
    let read = fields-from_row q line h in
    let some = row_some q line h in
    let nine_is : nine (fields_of line) ≡ Some (fields_read q line h) = ap nine read.has in (
      cond-true _ _ _ some
          ∙ (ap (fault_of_fields number) nine_is
          ∙ (ap (fault_after number (fields_read q line h)) read.numbers ∙ (cond-true _ _ _ read.in_grid ∙ cond-true _ _ _ read.listed))),
      cond-true _ _ _ some ∙ (ap rows_of_fields nine_is ∙ ap (λ x. x ∷ []) (sym read.row)),
    )

pub right-from_Follows : (due : ScenDue) (number : ℕ) (line : List ℕ) (next : ScenDue) → ScenFollows due line next → IsRight due number line next
right-from_Follows version_due number line next (inl h) =
    let right = skipped_right version_due number line h.0 in
    record { short = h.0.0; none = right.0; next_is = h.1 ∙ right.1 }
right-from_Follows version_due number line next (inr h) =
    let some = version_some line h.0 in
    record {
      short = h.0.short;
      none = cond-true _ _ _ some ∙ cond-true _ _ _ (test-from_IsVersion line h.0);
      next_is = h.1 ∙ sym (cond-true _ _ _ some);
    }
right-from_Follows row_due number line next (inl skipped, e) = record {
  short = skipped.0;
  none = (skipped_right row_due number line skipped).0;
  next_is = e;
}
right-from_Follows row_due number line next (inr row, e) = record {
  short = row.1.short;
  none = (row_right number row.0 line row.1).0;
  next_is = e;
}

-- the fields of a line without a fault are right
fields_right : (number : ℕ) (line : List ℕ) → IsLine line → IsShort line → (found : Option Fields) → nine (fields_of line) ≡ found
    → fault_of_fields number found ≡ None → (f : Fields) × (found ≡ Some f) × SpellsRow (query_of f) line
fields_right number line is short None e none = absurd (cc)
fields_right number line is short (Some f) e none = elim (nine_cases (fields_of line)) [
  | inl known ↦
      let same : known.0 ≡ f = let both = sym known.2 ∙ e in cc in
      let has : HasFields line f = known.1 ∙ ap all_fields same in
      numbers has (wrong_number f) refl none
  | inr other ↦ absurd (let bad = sym other.1 ∙ e in cc)
]
  where
    numbers : HasFields line f → (wrong : Option ℕ) → wrong_number f ≡ wrong → fault_after number f wrong ≡ None
        → (g : Fields) × (Some f ≡ Some g) × SpellsRow (query_of g) line
    numbers has (Some field) w h = absurd (cc)
    numbers has None w h = grid (is_in_grid f) refl h
      where
        grid : (t : Bool) → is_in_grid f ≡ t
            → cond (is_in_grid f) (cond (is_listed f.listed) None (Some (BadLength number))) (Some (OutOfGrid number)) ≡ None
            → (g : Fields) × (Some f ≡ Some g) × SpellsRow (query_of g) line
        grid false inside k = absurd (let bad = sym (cond-false _ _ _ inside) ∙ k in cc)
        grid true inside k = listed (is_listed f.listed) refl (sym (cond-true _ _ _ inside) ∙ k)
          where
            listed : (t : Bool) → is_listed f.listed ≡ t → cond (is_listed f.listed) None (Some (BadLength number)) ≡ None
                → (g : Fields) × (Some f ≡ Some g) × SpellsRow (query_of g) line
            listed false l m = absurd (let bad = sym (cond-false _ _ _ l) ∙ m in cc)
            listed true l m = (
              f,
              refl,
              SpellsRow-from_fields line f (record {
                is_line = is;
                short = short;
                has = has;
                numbers = w;
                in_grid = inside;
                listed = l;
              }),
            )

-- what a line without a fault is where rows are due
pub row_line-cases : (number : ℕ) (line : List ℕ) → IsLine line → IsShort line → line_fault row_due number line ≡ None
    → (IsSkipped line × (line_rows row_due line ≡ [])) ⊎ ((q : Query) × SpellsRow q line × (line_rows row_due line ≡ q ∷ []))
row_line-cases number line is short none = go (has_bytes (content_of line)) refl
  where
    go : (t : Bool) → has_bytes (content_of line) ≡ t
        → (IsSkipped line × (line_rows row_due line ≡ [])) ⊎ ((q : Query) × SpellsRow q line × (line_rows row_due line ≡ q ∷ []))
    go false e = inl ((short, empty-from_test line e), cond-false _ _ _ e)
    go true e =
        let right = fields_right number line is short (nine (fields_of line)) refl (sym (cond-true _ _ _ e) ∙ none) in
        inr (query_of right.0, right.2, cond-true _ _ _ e ∙ ap rows_of_fields right.1)

pub ScenFollows-from_none : (due : ScenDue) (number : ℕ) (line : List ℕ) → IsLine line → IsShort line → line_fault due number line ≡ None
    → ScenFollows due line (line_next due line)
ScenFollows-from_none version_due number line is short none = go (has_bytes (content_of line)) refl
  where
    go : (t : Bool) → has_bytes (content_of line) ≡ t → ScenFollows version_due line (line_next version_due line)
    go false e = inl ((short, empty-from_test line e), cond-false _ _ _ e)
    go true e = version (is_version (content_of line)) refl
      where
        version : (t : Bool) → is_version (content_of line) ≡ t → ScenFollows version_due line (line_next version_due line)
        version true v = inr (IsVersion-from_test line short v, cond-true _ _ _ e)
        version false v = absurd (let bad = sym (cond-false _ _ _ v) ∙ (sym (cond-true _ _ _ e) ∙ none) in cc)
ScenFollows-from_none row_due number line is short none = elim (row_line-cases number line is short none) [
  | inl skipped ↦ (inl skipped.0, refl)
  | inr row ↦ (inr (row.0, row.1), refl)
]

-- ---- faults

-- what a fault says of a line that is over: it is found in the line, or no version came up to the end
pub fault-from_HasFault : (fault : ScenFault) (place : Place) (due : ScenDue) (number : ℕ) (line : List ℕ) → IsOver place
    → HasScenFault fault place due number line
    → IsShort line
    × ((line_fault due number line ≡ Some fault) ⊎ ((place ≡ at_end) × (fault ≡ NoVersion) × (due ≡ version_due) × (content_of line ≡ [])))
fault-from_HasFault NoVersion place due number line over (is_due, short, inl h) = (
  short,
  inl (ap (λ d. line_fault d number line) is_due
      ∙ (cond-true _ _ _ (some-test line h.1) ∙ cond-false _ _ _ (no_version (is_version (content_of line)) refl))),
)
  where
    no_version : (t : Bool) → is_version (content_of line) ≡ t → is_version (content_of line) ≡ false
    no_version false e = e
    no_version true e = absurd (h.2 (IsVersion-from_test line short e))
fault-from_HasFault NoVersion place due number line over (is_due, short, inr h) = (short, inr (h.0, refl, is_due, h.1))
fault-from_HasFault (FieldCount at) place due number line over (same, judged, count) = (
  judged.2,
  inl (ap (λ d. line_fault d number line) judged.1 ∙ (cond-true _ _ _ (some-test line judged.3) ∙ (not_nine (nine_cases (fields_of line))
      ∙ ap (λ n. Some (FieldCount n)) (sym same)))),
)
  where
    not_nine : ((f : Fields) × (fields_of line ≡ all_fields f) × (nine (fields_of line) ≡ Some f)) ⊎ ((length (fields_of line) ≢ 9) × (nine (fields_of line) ≡ None))
        → fault_of_fields number (nine (fields_of line)) ≡ Some (FieldCount number)
    not_nine (inl known) = absurd (count (ap length known.1))
    not_nine (inr other) = ap (fault_of_fields number) other.1
fault-from_HasFault (BadNumber at field) place due number line over (same, judged, f, has, wrong) = (
  judged.2,
  inl (ap (λ d. line_fault d number line) judged.1 ∙ (cond-true _ _ _ (some-test line judged.3)
      ∙ (ap (λ xs. fault_of_fields number (nine xs)) has ∙ (ap (fault_after number f) wrong ∙ ap (λ n. Some (BadNumber n field)) (sym same))))),
)
fault-from_HasFault (OutOfGrid at) place due number line over (same, judged, f, has, right, outside) = (
  judged.2,
  inl (ap (λ d. line_fault d number line) judged.1 ∙ (cond-true _ _ _ (some-test line judged.3)
      ∙ (ap (λ xs. fault_of_fields number (nine xs)) has ∙ (ap (fault_after number f) right
      ∙ (cond-false _ _ _ outside ∙ ap (λ n. Some (OutOfGrid n)) (sym same)))))),
)
fault-from_HasFault (BadLength at) place due number line over (same, judged, f, has, right, inside, unlisted) = (
  judged.2,
  inl (ap (λ d. line_fault d number line) judged.1 ∙ (cond-true _ _ _ (some-test line judged.3)
      ∙ (ap (λ xs. fault_of_fields number (nine xs)) has ∙ (ap (fault_after number f) right
      ∙ (cond-true _ _ _ inside ∙ (cond-false _ _ _ (no_length (is_listed f.listed) refl) ∙ ap (λ n. Some (BadLength n)) (sym same))))))),
)
  where
    no_length : (t : Bool) → is_listed f.listed ≡ t → is_listed f.listed ≡ false
    no_length false e = e
    no_length true e = absurd (unlisted (_, _, spells-from_test f.listed e))
fault-from_HasFault (LineTooLong at) place due number line over h = absurd (subst IsOver h.1 over)
fault-from_HasFault ReadFailed place due number line over h = absurd h
fault-from_HasFault OutOfMemory place due number line over h = absurd h

-- a fault that is found in a line stands wherever the line is over
pub HasScenFault-from_found : (due : ScenDue) (number : ℕ) (line : List ℕ) (fault : ScenFault) (place : Place) → IsShort line → IsOver place
    → line_fault due number line ≡ Some fault → HasScenFault fault place due number line
HasScenFault-from_found version_due number line fault place short over found = go (has_bytes (content_of line)) refl
  where
    go : (t : Bool) → has_bytes (content_of line) ≡ t → HasScenFault fault place version_due number line
    go false e = absurd (let bad = sym (cond-false _ _ _ e) ∙ found in cc)
    go true e = version (is_version (content_of line)) refl
      where
        version : (t : Bool) → is_version (content_of line) ≡ t → HasScenFault fault place version_due number line
        version true v = absurd (let bad = sym (cond-true _ _ _ v) ∙ (sym (cond-true _ _ _ e) ∙ found) in cc)
        version false v =
            let same : NoVersion ≡ fault = let both = sym (cond-false _ _ _ v) ∙ (sym (cond-true _ _ _ e) ∙ found) in cc in
            subst (λ f. HasScenFault f place version_due number line) same
            (refl, short, inl (over, some-from_test line e, λ h. both_ways (is_version (content_of line)) v (test-from_IsVersion line h)))
HasScenFault-from_found row_due number line fault place short over found = go (has_bytes (content_of line)) refl
  where
    go : (t : Bool) → has_bytes (content_of line) ≡ t → HasScenFault fault place row_due number line
    go false e = absurd (let bad = sym (cond-false _ _ _ e) ∙ found in cc)
    go true e = fields (nine_cases (fields_of line)) (sym (cond-true _ _ _ e) ∙ found)
      where
        some : content_of line ≢ []
        some = some-from_test line e

        fields : ((f : Fields) × (fields_of line ≡ all_fields f) × (nine (fields_of line) ≡ Some f)) ⊎ ((length (fields_of line) ≢ 9) × (nine (fields_of line) ≡ None))
            → fault_of_fields number (nine (fields_of line)) ≡ Some fault → HasScenFault fault place row_due number line
        fields (inr other) h =
            let same : FieldCount number ≡ fault = let both = sym (ap (fault_of_fields number) other.1) ∙ h in cc in
            subst (λ f. HasScenFault f place row_due number line) same (refl, (over, refl, short, some), other.0)
        fields (inl known) h = numbers (wrong_number known.0) refl (sym (ap (fault_of_fields number) known.2) ∙ h)
          where
            numbers : (wrong : Option ℕ) → wrong_number known.0 ≡ wrong → fault_after number known.0 (wrong_number known.0) ≡ Some fault
                → HasScenFault fault place row_due number line
            numbers (Some field) w k =
                let same : BadNumber number field ≡ fault = let both = sym (ap (fault_after number known.0) w) ∙ k in cc in
                subst (λ f. HasScenFault f place row_due number line) same (refl, (over, refl, short, some), known.0, known.1, w)
            numbers None w k = grid (is_in_grid known.0) refl (sym (ap (fault_after number known.0) w) ∙ k)
              where
                grid : (t : Bool) → is_in_grid known.0 ≡ t
                    → cond (is_in_grid known.0) (cond (is_listed known.0.listed) None (Some (BadLength number))) (Some (OutOfGrid number)) ≡ Some fault
                    → HasScenFault fault place row_due number line
                grid false inside m =
                    let same : OutOfGrid number ≡ fault = let both = sym (cond-false _ _ _ inside) ∙ m in cc in
                    subst (λ f. HasScenFault f place row_due number line) same (refl, (over, refl, short, some), known.0, known.1, w, inside)
                grid true inside m = listed (is_listed known.0.listed) refl (sym (cond-true _ _ _ inside) ∙ m)
                  where
                    listed : (t : Bool) → is_listed known.0.listed ≡ t
                        → cond (is_listed known.0.listed) None (Some (BadLength number)) ≡ Some fault → HasScenFault fault place row_due number line
                    listed true l o = absurd (let bad = sym (cond-true _ _ _ l) ∙ o in cc)
                    listed false l o =
                        let same : BadLength number ≡ fault = let both = sym (cond-false _ _ _ l) ∙ o in cc in
                        subst (λ f. HasScenFault f place row_due number line) same (
                          refl,
                          (over, refl, short, some),
                          known.0,
                          known.1,
                          w,
                          inside,
                          λ spells. let passes = test-from_spells spells.0 spells.1 known.0.listed spells.2 in both_ways (is_listed known.0.listed) l passes.listed,
                        )
