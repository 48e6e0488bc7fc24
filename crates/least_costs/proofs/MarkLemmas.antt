-- The marks of cells, as rows come up.
use Rattle.std.proofs.Common.{◌≡◌, ◌∙◌, ℕ, ◌+◌, ◌-◌, ◌<◌, ◌≤◌, List, [], ◌∷◌, ◌++◌, length, replicate, take, Some, inl, inr, arith, refl, sym, ap, subst}
use Rattle.std.specs.Prelude.{slice_get, slice_set}
use Rattle.std.proofs.lemmas.Bool.{cases_lt, cases_order}
use Rattle.std.proofs.lemmas.List.{get_or-replicate, get_or_append_left, get_or-append_right, length-append, length-replicate, take_all}
use Rattle.std.proofs.lemmas.Option.{slice_get-get_or, slice_get_past, slice_get_within}
use Rattle.grid.specs.declared.cell.Cell.{Cell}
use Rattle.least_costs.specs.declared.marks.MarkRow.{MarkRow}
use Rattle.least_costs.specs.declared.marks.Marks.{Marks}
use Rattle.least_costs.specs.Code.Marks.{AreSameMarks, IsPut, mark_in_row, mark_of, mark_or_none}
use Rattle.least_costs.proofs.ListLemmas.{differ, get-last}
use Rattle.text_io.specs.Laws.Lists.{set_here, set_there}
use Rattle.least_costs.proofs.SideLemmas.{same_cells}

abbrev pub none : ℕ
none = 4294967295

-- ---- marks

pub mark_of-is : (rows : List MarkRow) (c : Cell) → mark_of rows c ≡ mark_in_row (slice_get rows c.y) c.x
unfolding mark_of
mark_of-is rows c = refl

-- where there are no rows
pub no_marks : (c : Cell) → mark_of [] c ≡ none
no_marks c = mark_of-is [] c ∙ ap (λ r. mark_in_row r c.x) (slice_get_past [] c.y (omega arith))

-- what is read of a row that is there
pub read : (rows : List MarkRow) (c : Cell) (row : MarkRow) (mark : ℕ) → slice_get rows c.y ≡ Some row → slice_get row.marks.items c.x ≡ Some mark → mark_of rows c ≡ mark
read rows c row mark there is = mark_of-is rows c ∙ ap (λ r. mark_in_row r c.x) there ∙ ap mark_or_none is

pub read_none : (rows : List MarkRow) (c : Cell) (row : MarkRow) → slice_get rows c.y ≡ Some row → length row.marks.items ≤ c.x → mark_of rows c ≡ none
read_none rows c row there past = mark_of-is rows c ∙ ap (λ r. mark_in_row r c.x) there ∙ ap mark_or_none (slice_get_past row.marks.items c.x past)

pub read_off : (rows : List MarkRow) (c : Cell) → length rows ≤ c.y → mark_of rows c ≡ none
read_off rows c past = mark_of-is rows c ∙ ap (λ r. mark_in_row r c.x) (slice_get_past rows c.y past)

-- ---- rows that come up

-- a row that has no marks yet
pub added : (rows : List MarkRow) (row : MarkRow) → row.marks.items ≡ [] → (c : Cell) → mark_of (rows ++ row ∷ []) c ≡ mark_of rows c
added rows row empty c = elim (cases_lt c.y (length rows)) [
  | inl old ↦
      mark_of-is (rows ++ row ∷ []) c
      ∙ ap (λ r. mark_in_row r c.x) (slice_get-get_or (rows ++ row ∷ []) c.y row (more c.y (length rows) (length (rows ++ row ∷ [])) old (length-append rows (row ∷ [])))
      ∙ ap Some (get_or_append_left rows (row ∷ []) row c.y old) ∙ sym (slice_get-get_or rows c.y row old))
      ∙ sym (mark_of-is rows c)
  | inr past ↦ elim (cases_lt c.y (length (rows ++ row ∷ []))) [
    | inl inside ↦
        let last : length rows ≡ c.y = at_end c.y (length rows) (length (rows ++ row ∷ [])) inside past (length-append rows (row ∷ [])) in
        read_none (rows ++ row ∷ []) c row (ap (slice_get (rows ++ row ∷ [])) (sym last) ∙ get-last rows row) (subst (λ l. length l ≤ c.x) (sym empty) (omega arith))
        ∙ sym (read_off rows c past)
    | inr off ↦ read_off (rows ++ row ∷ []) c off ∙ sym (read_off rows c past)
  ]
]
  where
    more : (i n k : ℕ) → i < n → k ≡ n + 1 → i < k
    more i n k h e = omega (arith, h, e)

    at_end : (i n k : ℕ) → i < k → n ≤ i → k ≡ n + 1 → n ≡ i
    at_end i n k h j e = omega (arith, h, j, e)

-- a row in the place of another that reads the same
pub same_row : (rows : List MarkRow) (y : ℕ) (old new : MarkRow) → slice_get rows y ≡ Some old
    → ((x : ℕ) → mark_or_none (slice_get new.marks.items x) ≡ mark_or_none (slice_get old.marks.items x)) → (c : Cell) → mark_of (slice_set rows y new) c ≡ mark_of rows c
same_row rows y old new there same c = elim (cases_order c.y y) [
  | inl here ↦
      mark_of-is (slice_set rows y new) c
      ∙ ap (λ r. mark_in_row r c.x) (ap (slice_get (slice_set rows y new)) here ∙ set_here rows y new (slice_get_within rows y old there))
      ∙ same c.x
      ∙ ap (λ r. mark_in_row r c.x) (sym (ap (slice_get rows) here ∙ there))
      ∙ sym (mark_of-is rows c)
  | inr other ↦ mark_of-is (slice_set rows y new) c ∙ ap (λ r. mark_in_row r c.x) (set_there rows y c.y new (differ c.y y other)) ∙ sym (mark_of-is rows c)
]

-- marks of cells that aren't reached, at the end of a row
pub same_marks : (old : List ℕ) (n x : ℕ) → mark_or_none (slice_get (old ++ replicate n none) x) ≡ mark_or_none (slice_get old x)
same_marks old n x = elim (cases_lt x (length old)) [
  | inl before ↦ ap mark_or_none (slice_get-get_or (old ++ replicate n none) x none (more x (length old) n (length (old ++ replicate n none)) before total)
      ∙ ap Some (get_or_append_left old (replicate n none) none x before) ∙ sym (slice_get-get_or old x none before))
  | inr past ↦ elim (cases_lt x (length (old ++ replicate n none))) [
    | inl inside ↦
        let at : x - length old < n = within x (length old) n (length (old ++ replicate n none)) inside past total in
        ap mark_or_none (slice_get-get_or (old ++ replicate n none) x none inside
        ∙ ap Some (get_or-append_right old (replicate n none) (length old) x none refl past ∙ get_or-replicate n (x - length old) none none at))
        ∙ sym (ap mark_or_none (slice_get_past old x past))
    | inr off ↦ ap mark_or_none (slice_get_past (old ++ replicate n none) x off) ∙ sym (ap mark_or_none (slice_get_past old x past))
  ]
]
  where
    total : length (old ++ replicate n none) ≡ length old + n
    total = length-append old (replicate n none) ∙ ap (λ k. length old + k) (length-replicate n none)

    more : (i k n t : ℕ) → i < k → t ≡ k + n → i < t
    more i k n t h e = omega (arith, h, e)

    within : (i k n t : ℕ) → i < t → k ≤ i → t ≡ k + n → i - k < n
    within i k n t h j e = omega (arith, h, j, e)

-- a mark in the place of another
pub put_here : (rows : List MarkRow) (c : Cell) (new : MarkRow) (mark : ℕ) → c.y < length rows → slice_get new.marks.items c.x ≡ Some mark → mark_of (slice_set rows c.y new) c ≡ mark
put_here rows c new mark within is = read (slice_set rows c.y new) c new mark (set_here rows c.y new within) is

pub put_others : (rows : List MarkRow) (cell : Cell) (old new : MarkRow) (mark : ℕ) → slice_get rows cell.y ≡ Some old → new.marks.items ≡ slice_set old.marks.items cell.x mark
    → (c : Cell) → (c ≡ cell → ⊥) → mark_of (slice_set rows cell.y new) c ≡ mark_of rows c
put_others rows cell old new mark there is c other = elim (cases_order c.y cell.y) [
  | inl row ↦ elim (cases_order c.x cell.x) [
    | inl column ↦ absurd (other (same_cells c cell column row))
    | inr apart ↦
        mark_of-is (slice_set rows cell.y new) c
        ∙ ap (λ r. mark_in_row r c.x) (ap (slice_get (slice_set rows cell.y new)) row ∙ set_here rows cell.y new (slice_get_within rows cell.y old there))
        ∙ ap mark_or_none (ap (λ l. slice_get l c.x) is ∙ set_there old.marks.items cell.x c.x mark (differ c.x cell.x apart))
        ∙ ap (λ r. mark_in_row r c.x) (sym (ap (slice_get rows) row ∙ there))
        ∙ sym (mark_of-is rows c)
  ]
  | inr apart ↦ mark_of-is (slice_set rows cell.y new) c ∙ ap (λ r. mark_in_row r c.x) (set_there rows cell.y c.y new (differ c.y cell.y apart)) ∙ sym (mark_of-is rows c)
]

-- a row to which room was added
pub resized : (old new : List ℕ) (n k : ℕ) → k ≡ length old → k ≤ n → new ≡ take n old ++ replicate (n - k) none
    → (x : ℕ) → mark_or_none (slice_get new x) ≡ mark_or_none (slice_get old x)
resized old new n k count more is x =
    let all : length old ≤ n = omega (arith, count, more) in
    ap (λ l. mark_or_none (slice_get l x)) (is ∙ ap (λ l. l ++ replicate (n - k) none) (take_all n old all)) ∙ same_marks old (n - k) x

-- a mark in the place of another
pub put_in_row : (old new : Marks) (cell : Cell) (mark : ℕ) (y x : ℕ) (row into : MarkRow) → y ≡ cell.y → x ≡ cell.x → slice_get old.rows.items y ≡ Some row
    → x < length row.marks.items → into.marks.items ≡ slice_set row.marks.items x mark → new.rows.items ≡ slice_set old.rows.items y into → IsPut old cell mark new
put_in_row old new cell mark y x row into down right there within is rows = record {
  here = ap (λ l. mark_of l cell) set
      ∙ put_here old.rows.items cell into mark (slice_get_within old.rows.items cell.y row there_now)
      (ap (λ l. slice_get l cell.x) is_now ∙ set_here row.marks.items cell.x mark (subst (λ k. k < length row.marks.items) right within));
  others = λ c other. (ap (λ l. mark_of l c) set ∙ put_others old.rows.items cell row into mark there_now is_now c other);
}
  where
    set : new.rows.items ≡ slice_set old.rows.items cell.y into
    set = rows ∙ ap (λ k. slice_set old.rows.items k into) down

    there_now : slice_get old.rows.items cell.y ≡ Some row
    there_now = subst (λ k. slice_get old.rows.items k ≡ Some row) down there

    is_now : into.marks.items ≡ slice_set row.marks.items cell.x mark
    is_now = is ∙ ap (λ k. slice_set row.marks.items k mark) right

pub put_after : (old middle : Marks) (cell : Cell) (mark : ℕ) (new : Marks) → AreSameMarks old middle → IsPut middle cell mark new → IsPut old cell mark new
put_after old middle cell mark new same put = record {
  here = put.here;
  others = λ c other. (put.others c other ∙ same c);
}
