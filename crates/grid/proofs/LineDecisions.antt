-- What a whole line and a byte decide, by the line of a map that is due.
use Rattle.std.proofs.Common.{◌≡◌, ◌≢◌, ℕ, zero, suc, ◌+◌, ◌*◌, ◌<◌, ◌≤◌, ◌⊎◌, min, Bool, true, false, cond, List, [], ◌∷◌, ◌++◌, length, refl, sym, ap, ◌∙◌, subst, inl, inr, arith, append_assoc}
use Rattle.std.specs.Prelude.{◌==◌, nat_lt, IsTrue, ⊤}
use Rattle.std.specs.List.{list_all}
use Rattle.std.proofs.lemmas.Bool.{and_from, or_cases, or_parts, cond-true, cond-false, eqb-true, eqb-false, ne_eqb, ltb-true, ltb-false, lt-ltb, le-ltb, cases_lt}
use Rattle.std.proofs.lemmas.List.{length-append}
use Rattle.std.proofs.lemmas.List.Folds.{list_all-append}
use Rattle.grid.specs.declared.header_line.HeaderLine.{HeaderLine}
use Rattle.grid.specs.declared.header_line.HeaderLine.TheVariants.{TypeLine, HeightLine, WidthLine, MapLine}
use Rattle.grid.specs.declared.header_line.Saying.{Saying}
use Rattle.grid.specs.declared.header_line.Saying.TheVariants.{Whole, Size, NoSize, NoForm}
use Rattle.grid.specs.declared.map_fault.MapFault.{MapFault}
use Rattle.grid.specs.declared.map_fault.MapFault.TheVariants.{BadHeader, BadNumber, TooLarge, BadTerrain, ShortRow, LongRow, TextAfter}
use Rattle.text_io.specs.Text.{carriage_return, is_line_byte}
use Rattle.grid.specs.Terrain.{is_terrain}
use Rattle.grid.specs.Map.{IsSize}
use Rattle.grid.specs.MapText.{IsNumberLine, is_rest_byte}
use Rattle.text_io.specs.Reading.{Place, at_byte, at_end, IsOver}
use Rattle.grid.specs.MapFault.{MapDue, type_due, height_due, width_due, map_due, rows_due, IsHeight, MapFollows, HasValue, HasPositive, HasOtherForm, HasMapFault}
use Rattle.grid.specs.Code.HeaderLine.{word_of, saying_of}
use Rattle.grid.specs.Code.Following.{IsLineOpen}
use Rattle.grid.proofs.HeaderLemmas.{Whole-from_type_line, type_line-from_Whole, Whole-from_map_line, map_line-from_Whole}
use Rattle.grid.proofs.HeaderNumbers.{HasSize, height_has_size, width_has_size, Size-from_number_line, number_line-from_Size, HasValue-from_Size, HasValue-from_NoSize, says-from_HasValue}
use Rattle.grid.proofs.Standing.{going, stopped, number_of, after_words, after_number}
use Rattle.grid.proofs.Standing.{is_large_height, is_large_width, row_state, row_length}
use Rattle.grid.proofs.Standing.{row_length-row, row_state-terrain, row_state-returned, after_line}
use Rattle.grid.proofs.Standing.{on_byte, on_row_byte}

-- what is known of a line that is due
abbrev pub IsDue : MapDue → Type 0
IsDue type_due = ⊤
IsDue height_due = ⊤
IsDue (width_due height) = IsHeight height
IsDue (map_due width height) = ⊤
IsDue (rows_due width rows) = ⊤

-- a whole line is right, or has a fault where it is over
abbrev pub LineDecides : MapDue → ℕ → List ℕ → Type 0
LineDecides due count line =
    ((next : MapDue) × MapFollows due line next × IsDue next × (after_line due count line ≡ going next (suc count) []))
    ⊎ ((fault : MapFault) × (after_line due count line ≡ stopped fault)
    × ((place : Place) → IsOver place → (place ≡ at_end → line ≢ []) → HasMapFault fault place due (number_of count) line))

-- a line that is a word or two
words_decide : (due next : MapDue) (count : ℕ) (line : List ℕ) (s : Saying) → after_line due count line ≡ after_words next count s
    → IsDue next → (s ≡ Whole → MapFollows due line next) → ((s ≡ Whole → ⊥) → HasOtherForm due line) → LineDecides due count line
words_decide due next count line Whole is known right wrong = inl (next, right refl, known, is)
words_decide due next count line (Size n) is known right wrong =
    inr (BadHeader (number_of count), is, λ place over some. (refl, over, wrong (λ e. cc)))
words_decide due next count line NoSize is known right wrong =
    inr (BadHeader (number_of count), is, λ place over some. (refl, over, wrong (λ e. cc)))
words_decide due next count line NoForm is known right wrong =
    inr (BadHeader (number_of count), is, λ place over some. (refl, over, wrong (λ e. cc)))

-- what a line of a number says: another form, another value, a number that is too large, or one that is not
abbrev pub NumberDecides : HeaderLine → (ℕ → Bool) → (ℕ → MapDue) → ℕ → List ℕ → Type 0
NumberDecides kind is_large next count line =
    ((after_number is_large next count (saying_of kind line) ≡ stopped (BadHeader (number_of count))) × (HasValue (word_of kind) line → ⊥))
    ⊎ (((after_number is_large next count (saying_of kind line) ≡ stopped (BadNumber (number_of count)))
    × HasValue (word_of kind) line × (HasPositive (word_of kind) line → ⊥))
    ⊎ ((m : ℕ) × IsNumberLine (word_of kind) m line × (0 < m)
    × (((is_large (min m 65536) ≡ true) × (after_number is_large next count (saying_of kind line) ≡ stopped (TooLarge (number_of count))))
    ⊎ ((is_large (min m 65536) ≡ false)
    × (after_number is_large next count (saying_of kind line) ≡ going (next (min m 65536)) (suc count) [])))))

-- a number line's size
number_decides-size : (kind : HeaderLine) → HasSize kind → (is_large : ℕ → Bool) (next : ℕ → MapDue) (count : ℕ) (line : List ℕ) (n : ℕ)
    → saying_of kind line ≡ Size n → NumberDecides kind is_large next count line
number_decides-size kind sized is_large next count line n says = go (cases_lt 0 number.0)
  where
    number : (m : ℕ) × IsNumberLine (word_of kind) m line × (n ≡ min m 65536)
    number = number_line-from_Size kind sized line n says

    after : after_number is_large next count (saying_of kind line) ≡ after_number is_large next count (Size n)
    after = ap (after_number is_large next count) says

    none : number.0 ≤ 0 → HasPositive (word_of kind) line → ⊥
    none least (m, other, above) =
        let same : Size (min m 65536) ≡ Size n = sym (Size-from_number_line kind sized m line other) ∙ says in
        let sizes : min m 65536 ≡ n = cc in
        omega (arith, number.2)

    above_zero : 0 < number.0 → (t : Bool) → is_large (min number.0 65536) ≡ t → NumberDecides kind is_large next count line
    above_zero above t large =
        let is : n ≡ min number.0 65536 = number.2 in
        let some = after ∙ (ap (λ x. after_number is_large next count (Size x)) is
        ∙ cond-false (min number.0 65536 == 0) _ _ (ne_eqb (min number.0 65536) 0 (λ e. omega arith))) in
        inr (inr (number.0, number.1, above, on t large some))
      where
        on : (t : Bool) → is_large (min number.0 65536) ≡ t
            → after_number is_large next count (saying_of kind line)
            ≡ cond (is_large (min number.0 65536)) (stopped (TooLarge (number_of count))) (going (next (min number.0 65536)) (suc count) [])
            → ((is_large (min number.0 65536) ≡ true)
            × (after_number is_large next count (saying_of kind line) ≡ stopped (TooLarge (number_of count))))
            ⊎ ((is_large (min number.0 65536) ≡ false)
            × (after_number is_large next count (saying_of kind line) ≡ going (next (min number.0 65536)) (suc count) []))
        on true large some = inl (large, some ∙ cond-true (is_large (min number.0 65536)) _ _ large)
        on false large some = inr (large, some ∙ cond-false (is_large (min number.0 65536)) _ _ large)

    go : (0 < number.0) ⊎ (number.0 ≤ 0) → NumberDecides kind is_large next count line
    go (inl above) = above_zero above (is_large (min number.0 65536)) refl
    go (inr least) =
        let zero_is : n ≡ 0 = omega (arith, number.2) in
        inr (inl (
          after ∙ (ap (λ x. after_number is_large next count (Size x)) zero_is),
          HasValue-from_Size kind sized line n says,
          none least,
        ))

-- what a line of a number says
number_decides : (kind : HeaderLine) → HasSize kind → (is_large : ℕ → Bool) (next : ℕ → MapDue) (count : ℕ) (line : List ℕ)
    → NumberDecides kind is_large next count line
number_decides kind sized is_large next count line = go (saying_of kind line) refl
  where
    no_value : (saying_of kind line ≡ NoSize → ⊥) → ((n : ℕ) → saying_of kind line ≡ Size n → ⊥) → HasValue (word_of kind) line → ⊥
    no_value h k value = elim (says-from_HasValue kind sized line value) [ inl e ↦ h e | inr e ↦ k e.0 e.1 ]

    go : (s : Saying) → saying_of kind line ≡ s → NumberDecides kind is_large next count line
    go Whole e = inl (ap (after_number is_large next count) e, no_value (λ f. cc) (λ n f. cc))
    go (Size n) e = number_decides-size kind sized is_large next count line n e
    go NoSize e = inr (inl (
      ap (after_number is_large next count) e,
      HasValue-from_NoSize kind sized line e,
      λ number. let says = Size-from_number_line kind sized number.0 line number.1 in cc,
    ))
    go NoForm e = inl (ap (after_number is_large next count) e, no_value (λ f. cc) (λ n f. cc))

-- the numbers of a large width
large_width-parts : (height m : ℕ) → is_large_width height (min m 65536) ≡ true → (65535 < m) ⊎ (4194304 < m * height)
large_width-parts height m h = elim (cases_lt 65535 m) [
  | inl large ↦ inl large
  | inr small ↦
      let same : min m 65536 ≡ m = omega arith in
      elim (or_cases _ _ (sym (ap (is_large_width height) same) ∙ h)) [
        | inl large ↦ inl (ltb-true 65535 m large)
        | inr many ↦ inr (ltb-true 4194304 (m * height) many)
      ]
]

-- the numbers of another
small_width-parts : (height m : ℕ) → is_large_width height (min m 65536) ≡ false → (m ≤ 65535) × (m * height ≤ 4194304)
small_width-parts height m h =
    let parts = or_parts (nat_lt 65535 (min m 65536)) (nat_lt 4194304 (min m 65536 * height)) h in
    let least : min m 65536 ≤ 65535 = ltb-false 65535 (min m 65536) parts.0 in
    let small : m ≤ 65535 = omega arith in
    let same : min m 65536 ≡ m = omega arith in
    (small, subst (λ n. n * height ≤ 4194304) same (ltb-false 4194304 (min m 65536 * height) parts.1))

-- a whole line is right or has a fault
pub line_decides : (due : MapDue) (count : ℕ) (line : List ℕ) → IsDue due → IsLineOpen due line → LineDecides due count line
line_decides type_due count line known is_open =
    words_decide type_due height_due count line (saying_of TypeLine line) refl tt
    (λ e. (type_line-from_Whole line e, refl)) (λ h is. h (Whole-from_type_line line is))
line_decides height_due count line known is_open = elim (number_decides HeightLine height_has_size is_large_height width_due count line) [
  | inl h ↦ inr (BadHeader (number_of count), h.0, λ place over some. (refl, over, h.1))
  | inr (inl h) ↦ inr (BadNumber (number_of count), h.0, λ place over some. (refl, over, (h.1, h.2)))
  | inr (inr (m, number, above, inl h)) ↦
      let large : 65535 < min m 65536 = ltb-true 65535 (min m 65536) h.0 in
      let past : 65535 < m = omega arith in
      inr (TooLarge (number_of count), h.1, λ place over some. (refl, over, (m, number, past)))
  | inr (inr (m, number, above, inr h)) ↦
      let small : min m 65536 ≤ 65535 = ltb-false 65535 (min m 65536) h.0 in
      let same : min m 65536 ≡ m = omega arith in
      let is_height : IsHeight m = (above, omega arith) in
      inl (width_due m, (m, number, is_height, refl), is_height, h.1 ∙ ap (λ n. going (width_due n) (suc count) []) same)
]
line_decides (width_due height) count line known is_open =
    elim (number_decides WidthLine width_has_size (is_large_width height) (λ width. map_due width height) count line) [
      | inl h ↦ inr (BadHeader (number_of count), h.0, λ place over some. (refl, over, h.1))
      | inr (inl h) ↦ inr (BadNumber (number_of count), h.0, λ place over some. (refl, over, (h.1, h.2)))
      | inr (inr (m, number, above, inl h)) ↦
          inr (TooLarge (number_of count), h.1, λ place over some. (refl, over, (m, number, large_width-parts height m h.0)))
      | inr (inr (m, number, above, inr h)) ↦
          let parts = small_width-parts height m h.0 in
          let small = parts.0 in
          let same : min m 65536 ≡ m = omega arith in
          let high = known.1 in
          let size : IsSize m height = record {
            some_width = above;
            width_limit = small;
            some_height = known.0;
            height_limit = omega arith;
            cell_limit = parts.1;
          } in
          inl (map_due m height, (m, number, size, refl), tt, h.1 ∙ ap (λ n. going (map_due n height) (suc count) []) same)
    ]
line_decides (map_due width height) count line known is_open =
    words_decide (map_due width height) (rows_due width height) count line (saying_of MapLine line) refl tt
    (λ e. (map_line-from_Whole line e, refl)) (λ h is. h (Whole-from_map_line line is))
line_decides (rows_due width zero) count line known is_open = inl (rows_due width zero, (is_open, refl), tt, refl)
line_decides (rows_due width (suc rows)) count line known (row, within, terrain, is) = go (cases_lt (length row) width)
  where
    length_is : row_length (row_state line) ≡ length row
    length_is = row_length-row row line is terrain

    go : (length row < width) ⊎ (width ≤ length row) → LineDecides (rows_due width (suc rows)) count line
    go (inl short) =
        let shorter : row_length (row_state line) < width = omega (arith, length_is) in
        inr (
          ShortRow (number_of count),
          cond-true _ _ _ (lt-ltb (row_length (row_state line)) width shorter),
          λ place over some. (refl, over, width, (rows, refl), row, record { short = short; terrain = terrain }, is, some),
        )
    go (inr whole) =
        let longer : width ≤ row_length (row_state line) = omega (arith, length_is) in
        inl (
          rows_due width rows,
          (record { characters = row; bytes = is; count = omega arith; terrain = terrain }, refl),
          tt,
          cond-false _ _ _ (le-ltb (row_length (row_state line)) width longer),
        )

-- ---- what a byte decides

-- one more byte of a line leaves it open, or has a fault
abbrev pub ByteDecides : MapDue → ℕ → List ℕ → ℕ → Type 0
ByteDecides due count line b =
    (IsLineOpen due (line ++ b ∷ []) × (on_byte due count line b ≡ going due count (line ++ b ∷ [])))
    ⊎ ((fault : MapFault) × (on_byte due count line b ≡ stopped fault) × HasMapFault fault at_byte due (number_of count) (line ++ b ∷ []))

-- one more that passes a test
pub list_all_push : (test : ℕ → Bool) (line : List ℕ) (b : ℕ) → IsTrue (list_all test line) → test b ≡ true
    → IsTrue (list_all test (line ++ b ∷ []))
list_all_push test line b h k =
    list_all-append test line (b ∷ []) ∙ and_from (list_all test line) _ h (and_from (test b) true k refl)

-- a byte after blanks and CRs
rest_byte_decides : (width count : ℕ) (line : List ℕ) (b : ℕ) → IsTrue (list_all is_rest_byte line) → (t : Bool) → is_rest_byte b ≡ t
    → ByteDecides (rows_due width zero) count line b
rest_byte_decides width count line b h true e = inl (list_all_push is_rest_byte line b h e, cond-true (is_rest_byte b) _ _ e)
rest_byte_decides width count line b h false e =
    inr (TextAfter (number_of count), cond-false (is_rest_byte b) _ _ e, (refl, refl, width, refl, line, b, refl, h, e))

-- a byte after characters
character_decides : (width rows count : ℕ) (row : List ℕ) (b : ℕ) → length row ≤ width → IsTrue (list_all is_terrain row)
    → (r : Bool) → (b == carriage_return) ≡ r → (s : Bool) → nat_lt (length row) width ≡ s → (t : Bool) → is_terrain b ≡ t
    → ByteDecides (rows_due width (suc rows)) count row b
character_decides width rows count row b within terrain true is s short t known =
    let at : b ≡ carriage_return = eqb-true b carriage_return is in
    inl (
      (row, within, terrain, inr (ap (λ x. row ++ x ∷ []) at)),
      ap (on_row_byte width rows count row b) (row_state-terrain row terrain) ∙ cond-true (b == carriage_return) _ _ is,
    )
character_decides width rows count row b within terrain false is true short true known =
    let shorter : length row < width = ltb-true (length row) width short in
    inl (
      (row ++ b ∷ [], omega (arith, length-append row (b ∷ [])), list_all_push is_terrain row b terrain known, inl refl),
      ap (on_row_byte width rows count row b) (row_state-terrain row terrain)
          ∙ (cond-false (b == carriage_return) _ _ is
          ∙ (cond-true (nat_lt (length row) width) _ _ short ∙ cond-true (is_terrain b) _ _ known)),
    )
character_decides width rows count row b within terrain false is true short false known =
    let shorter : length row < width = ltb-true (length row) width short in
    inr (
      BadTerrain (number_of count) (length row + 1),
      ap (on_row_byte width rows count row b) (row_state-terrain row terrain)
          ∙ (cond-false (b == carriage_return) _ _ is
          ∙ (cond-true (nat_lt (length row) width) _ _ short ∙ cond-false (is_terrain b) _ _ known)),
      (
        refl,
        refl,
        width,
        (rows, refl),
        row,
        record { short = shorter; terrain = terrain },
        inl (b, refl, eqb-false b carriage_return is, known),
        refl,
      ),
    )
character_decides width rows count row b within terrain false is false short t known =
    let longer : width ≤ length row = ltb-false (length row) width short in
    inr (
      LongRow (number_of count),
      ap (on_row_byte width rows count row b) (row_state-terrain row terrain)
          ∙ (cond-false (b == carriage_return) _ _ is ∙ cond-false (nat_lt (length row) width) _ _ short),
      (
        refl,
        refl,
        width,
        (rows, refl),
        row,
        record { whole = omega arith; terrain = terrain },
        inl (b, refl, eqb-false b carriage_return is),
      ),
    )

-- a byte after characters and a CR
returned_decides : (width rows count : ℕ) (row : List ℕ) (b : ℕ) → length row ≤ width → IsTrue (list_all is_terrain row)
    → (s : Bool) → nat_lt (length row) width ≡ s → ByteDecides (rows_due width (suc rows)) count (row ++ carriage_return ∷ []) b
returned_decides width rows count row b within terrain true short =
    let shorter : length row < width = ltb-true (length row) width short in
    inr (
      BadTerrain (number_of count) (length row + 1),
      ap (on_row_byte width rows count (row ++ carriage_return ∷ []) b) (row_state-returned row terrain)
          ∙ cond-true (nat_lt (length row) width) _ _ short,
      (
        refl,
        refl,
        width,
        (rows, refl),
        row,
        record { short = shorter; terrain = terrain },
        inr (b, append_assoc row (carriage_return ∷ []) (b ∷ [])),
        refl,
      ),
    )
returned_decides width rows count row b within terrain false short =
    let longer : width ≤ length row = ltb-false (length row) width short in
    inr (
      LongRow (number_of count),
      ap (on_row_byte width rows count (row ++ carriage_return ∷ []) b) (row_state-returned row terrain)
          ∙ cond-false (nat_lt (length row) width) _ _ short,
      (
        refl,
        refl,
        width,
        (rows, refl),
        row,
        record { whole = omega arith; terrain = terrain },
        inr (b, append_assoc row (carriage_return ∷ []) (b ∷ [])),
      ),
    )

-- one more byte of an open line
pub byte_decides : (due : MapDue) (count : ℕ) (line : List ℕ) (b : ℕ) → IsLineOpen due line → IsTrue (is_line_byte b)
    → ByteDecides due count line b
byte_decides type_due count line b h k = inl (list_all_push is_line_byte line b h k, refl)
byte_decides height_due count line b h k = inl (list_all_push is_line_byte line b h k, refl)
byte_decides (width_due height) count line b h k = inl (list_all_push is_line_byte line b h k, refl)
byte_decides (map_due width height) count line b h k = inl (list_all_push is_line_byte line b h k, refl)
byte_decides (rows_due width zero) count line b h k = rest_byte_decides width count line b h (is_rest_byte b) refl
byte_decides (rows_due width (suc rows)) count line b (row, within, terrain, inl is) k =
    subst (λ l. ByteDecides (rows_due width (suc rows)) count l b) (sym is)
    (character_decides width rows count row b within terrain (b == carriage_return) refl (nat_lt (length row) width) refl
    (is_terrain b) refl)
byte_decides (rows_due width (suc rows)) count line b (row, within, terrain, inr is) k =
    subst (λ l. ByteDecides (rows_due width (suc rows)) count l b) (sym is)
    (returned_decides width rows count row b within terrain (nat_lt (length row) width) refl)
