-- A tool of the proofs: what one pass over the bytes of a text knows, so that no two readings of it hold.
use Rattle.std.proofs.Common.{◌≡◌, ℕ, zero, suc, ◌+◌, ◌*◌, ◌<◌, ◌≤◌, ◌⊎◌, min, Bool, true, false}
use Rattle.std.proofs.Common.{List, [], ◌∷◌, ◌++◌, length, refl, sym, ap, ◌∙◌, subst, inl, inr}
use Rattle.std.proofs.Common.{arith, append_assoc, append-nil, Option, Some, None}
use Rattle.std.specs.Prelude.{◌==◌, ◌||◌, if◌then◌else◌, nat_lt, IsTrue}
use Rattle.std.specs.List.{list_all, fold, AllByRecursion}
use Rattle.std.proofs.lemmas.Bool.{and_parts, or_left, or_right, cond-true, cond-false, eq-eqb, ne_eqb, lt-ltb, le-ltb, cases_lt}
use Rattle.std.proofs.lemmas.List.Sums.{fold-append}
use Rattle.grid.specs.declared.header_line.HeaderLine.{HeaderLine}
use Rattle.grid.specs.declared.header_line.HeaderLine.TheVariants.{TypeLine, HeightLine, WidthLine, MapLine}
use Rattle.grid.specs.declared.header_line.Saying.{Saying}
use Rattle.grid.specs.declared.header_line.Saying.TheVariants.{Whole, Size, NoSize, NoForm}
use Rattle.grid.specs.declared.map_fault.MapFault.{MapFault}
use Rattle.grid.specs.declared.map_fault.MapFault.TheVariants.{BadHeader, BadNumber, TooLarge, BadTerrain, ShortRow, LongRow, MissingRows, TextAfter}
use Rattle.text_io.specs.Counted.{greatest}
use Rattle.text_io.specs.Text.{line_feed, carriage_return, is_line_byte, ended, IsLine}
use Rattle.grid.specs.Terrain.{is_terrain}
use Rattle.grid.specs.Map.{IsSize}
use Rattle.grid.specs.MapText.{IsNumberLine, IsRowOf, is_rest_byte}
use Rattle.grid.specs.MapFault.{MapDue, type_due, height_due, width_due, map_due, rows_due, MapFollows, HasValue, HasPositive, HasOtherForm, HasOtherValue, HasLargeValue}
use Rattle.grid.specs.Code.HeaderLine.{word_of, saying_of}
use Rattle.grid.specs.Code.Following.{IsLineOpen, MapLeads}
use Rattle.text_io.specs.Laws.Lines.{is_line_byte-true, differs, ended-line}
use Rattle.grid.proofs.HeaderLemmas.{Whole-from_type_line, type_line-from_Whole, Whole-from_map_line, map_line-from_Whole}
use Rattle.grid.proofs.HeaderNumbers.{HasSize, height_has_size, width_has_size, Size-from_number_line, number_line-from_Size, HasValue-from_Size, HasValue-from_NoSize, says-from_HasValue}

-- Where the pass stands: at a line that is due, after so many lines, with the bytes of the line so far, or at a fault.
pub data Standing : Type 0 where
  going : (due : MapDue) (count : ℕ) (line : List ℕ) → Standing
  stopped : (fault : MapFault) → Standing

-- the number of the line after so many
abbrev pub number_of : ℕ → ℕ
number_of count = min (count + 1) greatest

-- ---- the pass

-- after a line that is a word or two
abbrev pub after_words : MapDue → ℕ → Saying → Standing
after_words next count Whole = going next (suc count) []
after_words next count (Size n) = stopped (BadHeader (number_of count))
after_words next count NoSize = stopped (BadHeader (number_of count))
after_words next count NoForm = stopped (BadHeader (number_of count))

-- after a line that is a word and a number
abbrev pub after_number : (ℕ → Bool) → (ℕ → MapDue) → ℕ → Saying → Standing
after_number is_large next count Whole = stopped (BadHeader (number_of count))
after_number is_large next count (Size n) =
    if n == 0 then stopped (BadNumber (number_of count))
    else (if is_large n then stopped (TooLarge (number_of count)) else going (next n) (suc count) [])
after_number is_large next count NoSize = stopped (BadNumber (number_of count))
after_number is_large next count NoForm = stopped (BadHeader (number_of count))

-- a height past its limit
abbrev pub is_large_height : ℕ → Bool
is_large_height n = nat_lt 65535 n

-- a width past its limit, or one that makes too many cells
abbrev pub is_large_width : ℕ → ℕ → Bool
is_large_width height n = nat_lt 65535 n || nat_lt 4194304 (n * height)

-- the characters of a row so far, and whether a CR came after them
pub data RowState : Type 0 where
  characters returned : (count : ℕ) → RowState

-- one more byte of a row
abbrev pub row_step : RowState → ℕ → RowState
row_step (characters n) b = if b == carriage_return then returned n else characters (suc n)
row_step (returned n) b = returned n

-- the bytes of a row
abbrev pub row_state : List ℕ → RowState
row_state line = fold row_step (characters 0) line

-- the length of a row without its CR
abbrev pub row_length : RowState → ℕ
row_length (characters n) = n
row_length (returned n) = n

-- after a whole line
abbrev pub after_line : MapDue → ℕ → List ℕ → Standing
after_line type_due count line = after_words height_due count (saying_of TypeLine line)
after_line height_due count line = after_number is_large_height width_due count (saying_of HeightLine line)
after_line (width_due height) count line =
    after_number (is_large_width height) (λ width. map_due width height) count (saying_of WidthLine line)
after_line (map_due width height) count line = after_words (rows_due width height) count (saying_of MapLine line)
after_line (rows_due width zero) count line = going (rows_due width zero) (suc count) []
after_line (rows_due width (suc rows)) count line =
    if nat_lt (row_length (row_state line)) width then stopped (ShortRow (number_of count)) else going (rows_due width rows) (suc count) []

-- one more byte of a row, where so many rows are due after it
abbrev pub on_row_byte : ℕ → ℕ → ℕ → List ℕ → ℕ → RowState → Standing
on_row_byte width rows count line b (characters n) =
    if b == carriage_return then going (rows_due width (suc rows)) count (line ++ b ∷ [])
    else (if nat_lt n width
    then (if is_terrain b then going (rows_due width (suc rows)) count (line ++ b ∷ []) else stopped (BadTerrain (number_of count) (n + 1)))
    else stopped (LongRow (number_of count)))
on_row_byte width rows count line b (returned n) =
    if nat_lt n width then stopped (BadTerrain (number_of count) (n + 1)) else stopped (LongRow (number_of count))

-- one more byte of a line
abbrev pub on_byte : MapDue → ℕ → List ℕ → ℕ → Standing
on_byte type_due count line b = going type_due count (line ++ b ∷ [])
on_byte height_due count line b = going height_due count (line ++ b ∷ [])
on_byte (width_due height) count line b = going (width_due height) count (line ++ b ∷ [])
on_byte (map_due width height) count line b = going (map_due width height) count (line ++ b ∷ [])
on_byte (rows_due width zero) count line b =
    if is_rest_byte b then going (rows_due width zero) count (line ++ b ∷ []) else stopped (TextAfter (number_of count))
on_byte (rows_due width (suc rows)) count line b = on_row_byte width rows count line b (row_state line)

-- one more byte of the text
abbrev pub pass : Standing → ℕ → Standing
pass (going due count line) b = if b == line_feed then after_line due count line else on_byte due count line b
pass (stopped fault) b = stopped fault

-- the bytes of a text from its first line on
abbrev pub standing_of : List ℕ → Standing
standing_of text = fold pass (going type_due 0 []) text

-- a fault stays
pub stopped-stays : (fault : MapFault) (bytes : List ℕ) → fold pass (stopped fault) bytes ≡ stopped fault
stopped-stays fault [] = refl
stopped-stays fault (b ∷ bytes) = stopped-stays fault bytes

-- the fault at the end of the text, where a line is due that does not come
abbrev pub missing : MapDue → ℕ → Option MapFault
missing type_due count = Some (BadHeader (number_of count))
missing height_due count = Some (BadHeader (number_of count))
missing (width_due height) count = Some (BadHeader (number_of count))
missing (map_due width height) count = Some (BadHeader (number_of count))
missing (rows_due width zero) count = None
missing (rows_due width (suc rows)) count = Some (MissingRows (number_of count))

-- the fault where the text ends after a line
abbrev pub fault_after : Standing → Option MapFault
fault_after (going due count line) = missing due count
fault_after (stopped fault) = Some fault

-- the fault where the text ends, if there is one
abbrev pub fault_of : Standing → Option MapFault
fault_of (going due count []) = missing due count
fault_of (going due count (b ∷ line)) = fault_after (after_line due count (b ∷ line))
fault_of (stopped fault) = Some fault

-- ---- the lines of the header

-- a line whose words are others
after_words-other : (next : MapDue) (count : ℕ) (s : Saying) → (s ≡ Whole → ⊥)
    → after_words next count s ≡ stopped (BadHeader (number_of count))
after_words-other next count Whole h = absurd (h refl)
after_words-other next count (Size n) h = refl
after_words-other next count NoSize h = refl
after_words-other next count NoForm h = refl

-- a line that has no value
after_number-form : (is_large : ℕ → Bool) (next : ℕ → MapDue) (count : ℕ) (s : Saying)
    → (s ≡ NoSize → ⊥) → ((n : ℕ) → s ≡ Size n → ⊥) → after_number is_large next count s ≡ stopped (BadHeader (number_of count))
after_number-form is_large next count Whole h k = refl
after_number-form is_large next count (Size n) h k = absurd (k n refl)
after_number-form is_large next count NoSize h k = absurd (h refl)
after_number-form is_large next count NoForm h k = refl

-- a line whose value is no number above 0
after_number-value : (kind : HeaderLine) → HasSize kind → (is_large : ℕ → Bool) (next : ℕ → MapDue) (count : ℕ) (line : List ℕ)
    → HasValue (word_of kind) line → (HasPositive (word_of kind) line → ⊥)
    → after_number is_large next count (saying_of kind line) ≡ stopped (BadNumber (number_of count))
after_number-value kind sized is_large next count line value other = elim (says-from_HasValue kind sized line value) [
  | inl none ↦ ap (after_number is_large next count) none
  | inr (n, says) ↦
      let number = number_line-from_Size kind sized line n says in
      elim (cases_lt 0 number.0) [
        | inl above ↦ absurd (other (number.0, number.1, above))
        | inr least ↦
            let same : n ≡ 0 = omega (arith, number.2) in
            ap (after_number is_large next count) says ∙ cond-true (n == 0) _ _ (eq-eqb n 0 same)
      ]
]

-- a line whose number is too large
after_number-large : (kind : HeaderLine) → HasSize kind → (is_large : ℕ → Bool) (next : ℕ → MapDue) (count : ℕ) (line : List ℕ) (m : ℕ)
    → IsNumberLine (word_of kind) m line → 0 < m → is_large (min m 65536) ≡ true
    → after_number is_large next count (saying_of kind line) ≡ stopped (TooLarge (number_of count))
after_number-large kind sized is_large next count line m number above large =
    ap (after_number is_large next count) (Size-from_number_line kind sized m line number)
    ∙ (cond-false (min m 65536 == 0) _ _ (ne_eqb (min m 65536) 0 (λ e. omega arith)) ∙ cond-true (is_large (min m 65536)) _ _ large)

-- a line whose number is right
after_number-next : (kind : HeaderLine) → HasSize kind → (is_large : ℕ → Bool) (next : ℕ → MapDue) (count : ℕ) (line : List ℕ) (m : ℕ)
    → IsNumberLine (word_of kind) m line → 0 < m → m < 65536 → is_large m ≡ false
    → after_number is_large next count (saying_of kind line) ≡ going (next m) (suc count) []
after_number-next kind sized is_large next count line m number above below small =
    let same : min m 65536 ≡ m = omega arith in
    ap (after_number is_large next count) (Size-from_number_line kind sized m line number ∙ ap Size same)
    ∙ (cond-false (m == 0) _ _ (ne_eqb m 0 (λ e. omega arith)) ∙ cond-false (is_large m) _ _ small)

-- a line of another form
pub after_line-form : (due : MapDue) (count : ℕ) (line : List ℕ) → HasOtherForm due line
    → after_line due count line ≡ stopped (BadHeader (number_of count))
after_line-form type_due count line h =
    after_words-other height_due count (saying_of TypeLine line) (λ e. h (type_line-from_Whole line e))
after_line-form height_due count line h =
    after_number-form is_large_height width_due count (saying_of HeightLine line)
    (λ e. h (HasValue-from_NoSize HeightLine height_has_size line e)) (λ n e. h (HasValue-from_Size HeightLine height_has_size line n e))
after_line-form (width_due height) count line h =
    after_number-form (is_large_width height) (λ width. map_due width height) count (saying_of WidthLine line)
    (λ e. h (HasValue-from_NoSize WidthLine width_has_size line e)) (λ n e. h (HasValue-from_Size WidthLine width_has_size line n e))
after_line-form (map_due width height) count line h =
    after_words-other (rows_due width height) count (saying_of MapLine line) (λ e. h (map_line-from_Whole line e))
after_line-form (rows_due width rows) count line h = absurd h

-- a line of another value
pub after_line-value : (due : MapDue) (count : ℕ) (line : List ℕ) → HasOtherValue due line
    → after_line due count line ≡ stopped (BadNumber (number_of count))
after_line-value type_due count line h = absurd h
after_line-value height_due count line h =
    after_number-value HeightLine height_has_size is_large_height width_due count line h.0 h.1
after_line-value (width_due height) count line h =
    after_number-value WidthLine width_has_size (is_large_width height) (λ width. map_due width height) count line h.0 h.1
after_line-value (map_due width height) count line h = absurd h
after_line-value (rows_due width rows) count line h = absurd h

-- a width past the limits is above 0
large_width-pos : (n height : ℕ) → (65535 < n) ⊎ (4194304 < n * height) → 0 < n
large_width-pos n height (inl h) = omega arith
large_width-pos zero height (inr h) = absurd (omega arith)
large_width-pos (suc n) height (inr h) = omega arith

-- the test of a width past the limits
is_large_width-true : (n height : ℕ) → (65535 < n) ⊎ (4194304 < n * height) → is_large_width height (min n 65536) ≡ true
is_large_width-true n height h = elim (cases_lt 65535 n) [
  | inl large ↦ or_left _ _ (lt-ltb 65535 (min n 65536) (omega arith))
  | inr small ↦ elim h [
    | inl large ↦ absurd (omega arith)
    | inr many ↦
        let same : min n 65536 ≡ n = omega arith in
        ap (is_large_width height) same ∙ or_right (nat_lt 65535 n) _ (lt-ltb 4194304 (n * height) many)
  ]
]

-- a line of a large value
pub after_line-large : (due : MapDue) (count : ℕ) (line : List ℕ) → HasLargeValue due line
    → after_line due count line ≡ stopped (TooLarge (number_of count))
after_line-large type_due count line h = absurd h
after_line-large height_due count line h =
    after_number-large HeightLine height_has_size is_large_height width_due count line h.0 h.1
    (omega (arith, h.2)) (lt-ltb 65535 (min h.0 65536) (omega (arith, h.2)))
after_line-large (width_due height) count line h =
    after_number-large WidthLine width_has_size (is_large_width height) (λ width. map_due width height) count line h.0 h.1
    (large_width-pos h.0 height h.2) (is_large_width-true h.0 height h.2)
after_line-large (map_due width height) count line h = absurd h
after_line-large (rows_due width rows) count line h = absurd h

-- a right line of a width
is_large_width-false : (n height : ℕ) → IsSize n height → is_large_width height n ≡ false
is_large_width-false n height size =
    ap (λ t. t || nat_lt 4194304 (n * height)) (le-ltb 65535 n size.width_limit)
    ∙ le-ltb 4194304 (n * height) size.cell_limit

-- ---- rows

-- the state after characters
row_state-characters : (line : List ℕ) (n : ℕ) → IsTrue (list_all is_terrain line)
    → fold row_step (characters n) line ≡ characters (n + length line)
row_state-characters [] n h = ap characters (omega arith)
row_state-characters (b ∷ line) n h =
    let parts = and_parts (is_terrain b) (list_all is_terrain line) h in
    ap (λ s. fold row_step s line)
    (cond-false (b == carriage_return) (returned n) (characters (suc n)) (differs is_terrain carriage_return b refl parts.0))
    ∙ (row_state-characters line (suc n) parts.1 ∙ ap characters (omega arith))

-- the state after characters, from the first on
pub row_state-terrain : (line : List ℕ) → IsTrue (list_all is_terrain line) → row_state line ≡ characters (length line)
row_state-terrain line h = row_state-characters line 0 h ∙ ap characters (omega arith)

-- the state after characters and a CR
pub row_state-returned : (line : List ℕ) → IsTrue (list_all is_terrain line)
    → row_state (line ++ carriage_return ∷ []) ≡ returned (length line)
row_state-returned line h =
    fold-append row_step (characters 0) line (carriage_return ∷ [])
    ∙ ap (λ s. fold row_step s (carriage_return ∷ [])) (row_state-terrain line h)

-- the length of a row is that of its characters
pub row_length-row : (row line : List ℕ) → IsRowOf row line → IsTrue (list_all is_terrain row) → row_length (row_state line) ≡ length row
row_length-row row line (inl e) h = ap (λ l. row_length (row_state l)) e ∙ ap row_length (row_state-terrain row h)
row_length-row row line (inr e) h = ap (λ l. row_length (row_state l)) e ∙ ap row_length (row_state-returned row h)

-- a right line leads to the next
pub after_line-next : (due : MapDue) (count : ℕ) (line : List ℕ) (next : MapDue) → MapFollows due line next
    → after_line due count line ≡ going next (suc count) []
after_line-next type_due count line next h =
    ap (after_words height_due count) (Whole-from_type_line line h.0) ∙ ap (λ d. going d (suc count) []) (sym h.1)
after_line-next height_due count line next h =
    after_number-next HeightLine height_has_size is_large_height width_due count line h.0 h.1 h.2.0 h.2.1
    (le-ltb 65535 h.0 (omega (arith, h.2.1)))
    ∙ ap (λ d. going d (suc count) []) (sym h.3)
after_line-next (width_due height) count line next h =
    after_number-next WidthLine width_has_size (is_large_width height) (λ width. map_due width height) count line h.0 h.1
    h.2.some_width (omega (arith, h.2.width_limit)) (is_large_width-false h.0 height h.2)
    ∙ ap (λ d. going d (suc count) []) (sym h.3)
after_line-next (map_due width height) count line next h =
    ap (after_words (rows_due width height) count) (Whole-from_map_line line h.0) ∙ ap (λ d. going d (suc count) []) (sym h.1)
after_line-next (rows_due width zero) count line next h = ap (λ d. going d (suc count) []) (sym h.1)
after_line-next (rows_due width (suc rows)) count line next h =
    let same : row_length (row_state line) ≡ width = row_length-row h.0.characters line h.0.bytes h.0.terrain ∙ h.0.count in
    cond-false (nat_lt (row_length (row_state line)) width) _ _ (le-ltb (row_length (row_state line)) width (omega arith))
    ∙ ap (λ d. going d (suc count) []) (sym h.1)

-- ---- the pass over the beginning of a line

-- a byte of a line that is no LF
pass-byte : (due : MapDue) (count : ℕ) (seen : List ℕ) (b : ℕ) → (b == line_feed) ≡ false
    → pass (going due count seen) b ≡ on_byte due count seen b
pass-byte due count seen b h = cond-false (b == line_feed) (after_line due count seen) (on_byte due count seen b) h

-- one more byte before the others
seen-byte : (due : MapDue) (count : ℕ) (seen : List ℕ) (b : ℕ) (line : List ℕ)
    → going due count ((seen ++ b ∷ []) ++ line) ≡ going due count (seen ++ b ∷ line)
seen-byte due count seen b line = ap (going due count) (append_assoc seen (b ∷ []) line)

-- a line of the header
pass-header : (due : MapDue) → ((count : ℕ) (seen : List ℕ) (b : ℕ) → on_byte due count seen b ≡ going due count (seen ++ b ∷ []))
    → (count : ℕ) (seen line : List ℕ) → IsLine line → fold pass (going due count seen) line ≡ going due count (seen ++ line)
pass-header due holds count seen [] h = ap (going due count) (sym (append-nil seen))
pass-header due holds count seen (b ∷ line) h =
    let parts = and_parts (is_line_byte b) (list_all is_line_byte line) h in
    ap (λ s. fold pass s line) (pass-byte due count seen b (is_line_byte-true b parts.0) ∙ holds count seen b)
    ∙ (pass-header due holds count (seen ++ b ∷ []) line parts.1 ∙ seen-byte due count seen b line)

-- a blank line after the last row
pass-rest : (width count : ℕ) (seen line : List ℕ) → IsTrue (list_all is_rest_byte line)
    → fold pass (going (rows_due width zero) count seen) line ≡ going (rows_due width zero) count (seen ++ line)
pass-rest width count seen [] h = ap (going (rows_due width zero) count) (sym (append-nil seen))
pass-rest width count seen (b ∷ line) h =
    let parts = and_parts (is_rest_byte b) (list_all is_rest_byte line) h in
    ap (λ s. fold pass s line)
    (pass-byte (rows_due width zero) count seen b (differs is_rest_byte line_feed b refl parts.0)
    ∙ cond-true (is_rest_byte b) _ _ parts.0)
    ∙ (pass-rest width count (seen ++ b ∷ []) line parts.1 ∙ seen-byte (rows_due width zero) count seen b line)

-- the characters of a row
pass-characters : (width rows count : ℕ) (seen line : List ℕ) (n : ℕ) → row_state seen ≡ characters n
    → IsTrue (list_all is_terrain line) → n + length line ≤ width
    → fold pass (going (rows_due width (suc rows)) count seen) line ≡ going (rows_due width (suc rows)) count (seen ++ line)
pass-characters width rows count seen [] n is h within = ap (going (rows_due width (suc rows)) count) (sym (append-nil seen))
pass-characters width rows count seen (b ∷ line) n is h within =
    let parts = and_parts (is_terrain b) (list_all is_terrain line) h in
    let state : row_state (seen ++ b ∷ []) ≡ characters (suc n) =
    fold-append row_step (characters 0) seen (b ∷ [])
    ∙ (ap (λ s. row_step s b) is
    ∙ cond-false (b == carriage_return) (returned n) (characters (suc n)) (differs is_terrain carriage_return b refl parts.0)) in
    ap (λ s. fold pass s line) (pass-byte (rows_due width (suc rows)) count seen b (differs is_terrain line_feed b refl parts.0)
    ∙ (ap (on_row_byte width rows count seen b) is
    ∙ (cond-false (b == carriage_return) _ _ (differs is_terrain carriage_return b refl parts.0)
    ∙ (cond-true (nat_lt n width) _ _ (lt-ltb n width (omega arith)) ∙ cond-true (is_terrain b) _ _ parts.0))))
    ∙ (pass-characters width rows count (seen ++ b ∷ []) line (suc n) state parts.1 (omega arith)
    ∙ seen-byte (rows_due width (suc rows)) count seen b line)

-- the characters of a row, from the first on
pub pass-terrain : (width rows count : ℕ) (row : List ℕ) → IsTrue (list_all is_terrain row) → length row ≤ width
    → fold pass (going (rows_due width (suc rows)) count []) row ≡ going (rows_due width (suc rows)) count row
pass-terrain width rows count row h within = pass-characters width rows count [] row 0 refl h (omega arith)

-- the CR after them
pub pass-returned : (width rows count : ℕ) (row : List ℕ) → IsTrue (list_all is_terrain row) → length row ≤ width
    → fold pass (going (rows_due width (suc rows)) count []) (row ++ carriage_return ∷ [])
    ≡ going (rows_due width (suc rows)) count (row ++ carriage_return ∷ [])
pass-returned width rows count row h within =
    fold-append pass (going (rows_due width (suc rows)) count []) row (carriage_return ∷ [])
    ∙ (ap (λ s. fold pass s (carriage_return ∷ [])) (pass-terrain width rows count row h within)
    ∙ ap (on_row_byte width rows count row carriage_return) (row_state-terrain row h))

-- the beginning of a line in which no fault is judged
pub pass-open : (due : MapDue) (count : ℕ) (line : List ℕ) → IsLineOpen due line → fold pass (going due count []) line ≡ going due count line
pass-open type_due count line h = pass-header type_due (λ count seen b. refl) count [] line h
pass-open height_due count line h = pass-header height_due (λ count seen b. refl) count [] line h
pass-open (width_due height) count line h = pass-header (width_due height) (λ count seen b. refl) count [] line h
pass-open (map_due width height) count line h = pass-header (map_due width height) (λ count seen b. refl) count [] line h
pass-open (rows_due width zero) count line h = pass-rest width count [] line h
pass-open (rows_due width (suc rows)) count line (row, within, terrain, inl is) =
    subst (λ l. fold pass (going (rows_due width (suc rows)) count []) l ≡ going (rows_due width (suc rows)) count l) (sym is)
    (pass-terrain width rows count row terrain within)
pass-open (rows_due width (suc rows)) count line (row, within, terrain, inr is) =
    subst (λ l. fold pass (going (rows_due width (suc rows)) count []) l ≡ going (rows_due width (suc rows)) count l) (sym is)
    (pass-returned width rows count row terrain within)

-- a right line is open at its end
pub open-from_Follows : (due : MapDue) (line : List ℕ) (next : MapDue) → IsLine line → MapFollows due line next → IsLineOpen due line
open-from_Follows type_due line next is h = is
open-from_Follows height_due line next is h = is
open-from_Follows (width_due height) line next is h = is
open-from_Follows (map_due width height) line next is h = is
open-from_Follows (rows_due width zero) line next is h = h.0
open-from_Follows (rows_due width (suc rows)) line next is h =
    (h.0.characters, omega (arith, h.0.count), h.0.terrain, h.0.bytes)

-- the LF of an open line
pub pass-line_feed : (due : MapDue) (count : ℕ) (line : List ℕ) → IsLineOpen due line
    → fold pass (going due count []) (line ++ line_feed ∷ []) ≡ after_line due count line
pass-line_feed due count line h =
    fold-append pass (going due count []) line (line_feed ∷ []) ∙ ap (λ s. pass s line_feed) (pass-open due count line h)

-- right lines, and more of the text
pub pass-lines : (due : MapDue) (count : ℕ) (lines : List (List ℕ)) (last : MapDue) (rest : List ℕ)
    → AllByRecursion IsLine lines → MapLeads due lines last
    → fold pass (going due count []) (ended lines ++ rest) ≡ fold pass (going last (count + length lines) []) rest
pass-lines due count [] last rest are h =
    let same : count ≡ count + length {A = List ℕ} [] = omega arith in
    ap (λ d. fold pass (going d count []) rest) (sym h) ∙ ap (λ n. fold pass (going last n []) rest) same
pass-lines due count (line ∷ lines) last rest are h =
    let follows = h.1 in
    let more : suc count + length lines ≡ count + length (line ∷ lines) = omega arith in
    ap (fold pass (going due count [])) (ended-line line lines rest ∙ sym (append_assoc line (line_feed ∷ []) (ended lines ++ rest)))
    ∙ (fold-append pass (going due count []) (line ++ line_feed ∷ []) (ended lines ++ rest)
    ∙ (ap (λ s. fold pass s (ended lines ++ rest))
    (pass-line_feed due count line (open-from_Follows due line h.0 are.0 follows) ∙ after_line-next due count line h.0 follows)
    ∙ (pass-lines h.0 (suc count) lines last rest are.1 h.2 ∙ ap (λ n. fold pass (going last n []) rest) more)))

-- right lines from the beginning of the text on, and more of it
pub standing_of-lines : (lines : List (List ℕ)) (last : MapDue) (rest : List ℕ) → AllByRecursion IsLine lines → MapLeads type_due lines last
    → standing_of (ended lines ++ rest) ≡ fold pass (going last (length lines) []) rest
standing_of-lines lines last rest are h =
    let same : 0 + length lines ≡ length lines = omega arith in
    pass-lines type_due 0 lines last rest are h ∙ ap (λ n. fold pass (going last n []) rest) same
