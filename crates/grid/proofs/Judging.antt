-- No two readings of a text hold: what each says, the one pass over the bytes finds.
use Rattle.std.proofs.Common.{◌≡◌, ◌≢◌, ℕ, zero, suc, ◌+◌, ◌<◌, ◌≤◌, ◌⊎◌, true, false, List, [], ◌∷◌, ◌++◌, length, refl, sym, ap, ◌∙◌, subst, inl, inr, arith, append_assoc, Some}
use Rattle.std.specs.Prelude.{◌==◌, nat_lt, IsTrue}
use Rattle.std.specs.List.{list_all, fold}
use Rattle.std.proofs.lemmas.Bool.{and_parts, cond-true, cond-false, ne_eqb, lt-ltb, le-ltb}
use Rattle.std.proofs.lemmas.List.{length-append}
use Rattle.std.proofs.lemmas.List.Sums.{fold-append}
use Rattle.std.proofs.lemmas.List.Folds.{list_all-append}
use Rattle.grid.specs.declared.map_fault.MapFault.{MapFault}
use Rattle.grid.specs.declared.map_fault.MapFault.TheVariants.{BadHeader, BadNumber, TooLarge, BadTerrain, ShortRow, LongRow, MissingRows, TextAfter, ReadFailed, OutOfMemory}
use Rattle.text_io.specs.Text.{line_feed, carriage_return, is_line_byte, lines_of, IsLine}
use Rattle.grid.specs.Terrain.{is_terrain}
use Rattle.grid.specs.MapText.{IsRowOf, is_rest_byte}
use Rattle.text_io.specs.Reading.{Place, at_line_feed, at_byte, at_end, IsOver, IsByte, Decides, IsFirstFault, line_number}
use Rattle.grid.specs.MapFault.{MapDue, type_due, height_due, width_due, map_due, rows_due}
use Rattle.grid.specs.MapFault.{MapFollows, HasOtherForm, HasOtherValue, HasLargeValue, IsBeginning}
use Rattle.grid.specs.MapFault.{IsWholeRow, RunsOver, GoesWrong, HasMapFault, MapFaultAt}
use Rattle.grid.specs.Code.Following.{IsLineOpen, IsUndecided, MapLeads}
use Rattle.text_io.specs.Laws.Lines.{is_line_byte-true, whole_parts, open_parts, lines_parts, AreLines}
use Rattle.grid.proofs.Standing.{going, stopped, number_of, characters, returned, row_state}
use Rattle.grid.proofs.Standing.{row_length, row_length-row, row_state-terrain, row_state-returned}
use Rattle.grid.proofs.Standing.{after_line, on_byte, on_row_byte, pass, standing_of, stopped-stays}
use Rattle.grid.proofs.Standing.{missing, fault_after, fault_of, after_line-form, after_line-value}
use Rattle.grid.proofs.Standing.{after_line-large, after_line-next, pass-terrain, pass-returned}
use Rattle.grid.proofs.Standing.{pass-open, open-from_Follows, pass-line_feed, standing_of-lines}

-- ---- a fault of a whole line

-- a line of another form, value or size is open at its end, as each line of the header is
open-from_header : (due : MapDue) (line : List ℕ) → IsLine line
    → HasOtherForm due line ⊎ (HasOtherValue due line ⊎ HasLargeValue due line) → IsLineOpen due line
open-from_header type_due line is h = is
open-from_header height_due line is h = is
open-from_header (width_due height) line is h = is
open-from_header (map_due width height) line is h = is
open-from_header (rows_due width rows) line is h = absurd (elim h [ inl e ↦ e | inr (inl e) ↦ e | inr (inr e) ↦ e ])

-- the pass finds the fault where the line ends, and none before
abbrev pub StopsAfter : MapFault → MapDue → ℕ → List ℕ → Type 0
StopsAfter fault due count line = IsLineOpen due line × (after_line due count line ≡ stopped fault)

-- a row that is too short
short_row : (width rows count : ℕ) (row line : List ℕ) → IsBeginning width row → IsRowOf row line
    → StopsAfter (ShortRow (number_of count)) (rows_due width (suc rows)) count line
short_row width rows count row line h is =
    let length_is = row_length-row row line is h.terrain in
    let short = h.short in
    let shorter : row_length (row_state line) < width = omega arith in
    ((row, omega arith, h.terrain, is), cond-true _ _ _ (lt-ltb (row_length (row_state line)) width shorter))

-- a fault that is judged where a line is over, but where the line is missing
stops_after : (fault : MapFault) (place : Place) (due : MapDue) (count : ℕ) (line : List ℕ) → IsOver place → IsLine line
    → (place ≡ at_end → line ≢ []) → HasMapFault fault place due (number_of count) line → StopsAfter fault due count line
stops_after (BadHeader at) place due count line over is some h =
    (open-from_header due line is (inl h.2), after_line-form due count line h.2 ∙ ap (λ n. stopped (BadHeader n)) (sym h.0))
stops_after (BadNumber at) place due count line over is some h =
    (open-from_header due line is (inr (inl h.2)), after_line-value due count line h.2 ∙ ap (λ n. stopped (BadNumber n)) (sym h.0))
stops_after (TooLarge at) place due count line over is some h =
    (open-from_header due line is (inr (inr h.2)), after_line-large due count line h.2 ∙ ap (λ n. stopped (TooLarge n)) (sym h.0))
stops_after (BadTerrain at column) place due count line over is some h = absurd (subst IsOver h.1 over)
stops_after (ShortRow at) place due count line over is some h =
    let found = short_row h.2 h.3.0 count h.4 line h.5 h.6 in
    let numbered = subst (λ n. StopsAfter (ShortRow n) (rows_due h.2 (suc h.3.0)) count line) (sym h.0) found in
    subst (λ d. StopsAfter (ShortRow at) d count line) (sym h.3.1) numbered
stops_after (LongRow at) place due count line over is some h = absurd (subst IsOver h.1 over)
stops_after (MissingRows at) place due count line over is some h = absurd (some h.1 h.4)
stops_after (TextAfter at) place due count line over is some h = absurd (subst IsOver h.1 over)
stops_after ReadFailed place due count line over is some h = absurd h
stops_after OutOfMemory place due count line over is some h = absurd h

-- ---- a fault of a byte

-- the last byte of a line is no LF
last_is_line_byte : (front : List ℕ) (b : ℕ) → IsLine (front ++ b ∷ []) → (b == line_feed) ≡ false
last_is_line_byte front b h =
    let parts = and_parts _ _ (sym (list_all-append is_line_byte front (b ∷ [])) ∙ h) in
    is_line_byte-true b (and_parts (is_line_byte b) true parts.1).0

-- the pass over the last byte of a line
pass-last : (due : MapDue) (count : ℕ) (front : List ℕ) (b : ℕ) (fault : MapFault) → IsLine (front ++ b ∷ [])
    → fold pass (going due count []) front ≡ going due count front → on_byte due count front b ≡ stopped fault
    → fold pass (going due count []) (front ++ b ∷ []) ≡ stopped fault
pass-last due count front b fault is goes found =
    fold-append pass (going due count []) front (b ∷ [])
    ∙ (ap (λ s. pass s b) goes ∙ (cond-false (b == line_feed) _ _ (last_is_line_byte front b is) ∙ found))

-- the byte after the characters of a row, which is no CR
pass-wrong : (width rows count : ℕ) (row : List ℕ) (b : ℕ) (fault : MapFault) → IsLine (row ++ b ∷ [])
    → IsTrue (list_all is_terrain row) → length row ≤ width → on_row_byte width rows count row b (characters (length row)) ≡ stopped fault
    → fold pass (going (rows_due width (suc rows)) count []) (row ++ b ∷ []) ≡ stopped fault
pass-wrong width rows count row b fault is terrain within found =
    pass-last (rows_due width (suc rows)) count row b fault is (pass-terrain width rows count row terrain within)
    (ap (on_row_byte width rows count row b) (row_state-terrain row terrain) ∙ found)

-- the byte after the characters of a row and a CR
pass-after_return : (width rows count : ℕ) (row : List ℕ) (b : ℕ) (fault : MapFault) → IsLine (row ++ carriage_return ∷ b ∷ [])
    → IsTrue (list_all is_terrain row) → length row ≤ width
    → on_row_byte width rows count (row ++ carriage_return ∷ []) b (returned (length row)) ≡ stopped fault
    → fold pass (going (rows_due width (suc rows)) count []) (row ++ carriage_return ∷ b ∷ []) ≡ stopped fault
pass-after_return width rows count row b fault is terrain within found =
    let parts = append_assoc row (carriage_return ∷ []) (b ∷ []) in
    let line = subst IsLine (sym parts) is in
    ap (fold pass (going (rows_due width (suc rows)) count [])) (sym parts)
    ∙ pass-last (rows_due width (suc rows)) count (row ++ carriage_return ∷ []) b fault line
    (pass-returned width rows count row terrain within)
    (ap (on_row_byte width rows count (row ++ carriage_return ∷ []) b) (row_state-returned row terrain) ∙ found)

-- no terrain where a cell is due
pass-bad_terrain : (width rows count : ℕ) (row line : List ℕ) → IsLine line → IsBeginning width row → GoesWrong row line
    → fold pass (going (rows_due width (suc rows)) count []) line ≡ stopped (BadTerrain (number_of count) (length row + 1))
pass-bad_terrain width rows count row line is h (inl (b, e, other, wrong)) =
    let short = h.short in
    let fault = BadTerrain (number_of count) (length row + 1) in
    ap (fold pass (going (rows_due width (suc rows)) count [])) e
    ∙ pass-wrong width rows count row b fault (subst IsLine e is) h.terrain (omega arith)
    (cond-false (b == carriage_return) _ _ (ne_eqb b carriage_return other)
    ∙ (cond-true (nat_lt (length row) width) _ _ (lt-ltb (length row) width short) ∙ cond-false (is_terrain b) _ _ wrong))
pass-bad_terrain width rows count row line is h (inr (b, e)) =
    let short = h.short in
    let fault = BadTerrain (number_of count) (length row + 1) in
    ap (fold pass (going (rows_due width (suc rows)) count [])) e
    ∙ pass-after_return width rows count row b fault (subst IsLine e is) h.terrain (omega arith)
    (cond-true (nat_lt (length row) width) _ _ (lt-ltb (length row) width short))

-- more than the width
pass-long_row : (width rows count : ℕ) (row line : List ℕ) → IsLine line → IsWholeRow width row → RunsOver row line
    → fold pass (going (rows_due width (suc rows)) count []) line ≡ stopped (LongRow (number_of count))
pass-long_row width rows count row line is h (inl (b, e, other)) =
    let whole = h.whole in
    let fault = LongRow (number_of count) in
    ap (fold pass (going (rows_due width (suc rows)) count [])) e
    ∙ pass-wrong width rows count row b fault (subst IsLine e is) h.terrain (omega arith)
    (cond-false (b == carriage_return) _ _ (ne_eqb b carriage_return other)
    ∙ cond-false (nat_lt (length row) width) _ _ (le-ltb (length row) width (omega arith)))
pass-long_row width rows count row line is h (inr (b, e)) =
    let whole = h.whole in
    let fault = LongRow (number_of count) in
    ap (fold pass (going (rows_due width (suc rows)) count [])) e
    ∙ pass-after_return width rows count row b fault (subst IsLine e is) h.terrain (omega arith)
    (cond-false (nat_lt (length row) width) _ _ (le-ltb (length row) width (omega arith)))

-- more than blanks and CRs after the last row
pass-text_after : (width count : ℕ) (front : List ℕ) (b : ℕ) → IsLine (front ++ b ∷ []) → IsTrue (list_all is_rest_byte front)
    → is_rest_byte b ≡ false → fold pass (going (rows_due width zero) count []) (front ++ b ∷ []) ≡ stopped (TextAfter (number_of count))
pass-text_after width count front b is rest other =
    pass-last (rows_due width zero) count front b (TextAfter (number_of count)) is (pass-open (rows_due width zero) count front rest)
    (cond-false (is_rest_byte b) _ _ other)

-- a fault that is judged at a byte of a line
stops_at : (fault : MapFault) (due : MapDue) (count : ℕ) (line : List ℕ) → IsLine line
    → HasMapFault fault at_byte due (number_of count) line → fold pass (going due count []) line ≡ stopped fault
stops_at (BadHeader at) due count line is h = absurd h.1
stops_at (BadNumber at) due count line is h = absurd h.1
stops_at (TooLarge at) due count line is h = absurd h.1
stops_at (BadTerrain at column) due count line is h =
    ap (λ d. fold pass (going d count []) line) h.3.1
    ∙ (pass-bad_terrain h.2 h.3.0 count h.4 line is h.5 h.6
    ∙ (ap (λ n. stopped (BadTerrain n (length h.4 + 1))) (sym h.0) ∙ ap (λ n. stopped (BadTerrain at n)) (sym h.7)))
stops_at (ShortRow at) due count line is h = absurd h.1
stops_at (LongRow at) due count line is h =
    ap (λ d. fold pass (going d count []) line) h.3.1
    ∙ (pass-long_row h.2 h.3.0 count h.4 line is h.5 h.6 ∙ ap (λ n. stopped (LongRow n)) (sym h.0))
stops_at (MissingRows at) due count line is h = absurd (cc (h.1))
stops_at (TextAfter at) due count line is h =
    ap (λ d. fold pass (going d count []) line) h.3
    ∙ (ap (fold pass (going (rows_due h.2 zero) count [])) h.6
    ∙ (pass-text_after h.2 count h.4 h.5 (subst IsLine h.6 is) h.7 h.8 ∙ ap (λ n. stopped (TextAfter n)) (sym h.0)))
stops_at ReadFailed due count line is h = absurd h
stops_at OutOfMemory due count line is h = absurd h

-- ---- a fault of a text

-- a place at an LF is not the end
line_feed_is_no_end : (line : List ℕ) → at_line_feed ≡ at_end → line ≢ []
line_feed_is_no_end line e = absurd (cc)

-- the pass stops where a fault stands at a byte
pub stopped-from_fault : (fault : MapFault) (place : Place) (text : List ℕ) → IsByte place → MapFaultAt fault place text
    → standing_of text ≡ stopped fault
stopped-from_fault fault at_line_feed text byte h =
    let parts = whole_parts text h.before h.line h.judged.0 h.judged.1 in
    let found = stops_after fault at_line_feed h.due (length h.before) h.line tt parts.2 (line_feed_is_no_end h.line) h.faulty in
    ap standing_of parts.0
    ∙ (standing_of-lines h.before h.due (h.line ++ line_feed ∷ []) parts.1 h.right
    ∙ (pass-line_feed h.due (length h.before) h.line found.0 ∙ found.1))
stopped-from_fault fault at_byte text byte h =
    let parts = open_parts text h.before h.line h.judged.0 h.judged.1 in
    ap standing_of parts.0
    ∙ (standing_of-lines h.before h.due h.line parts.1 h.right ∙ stops_at fault h.due (length h.before) h.line parts.2 h.faulty)
stopped-from_fault fault at_end text byte h = absurd byte

-- the pass stops where the bytes decide a fault
pub stopped-from_Decides : (fault : MapFault) (text : List ℕ) → Decides MapFaultAt fault text → standing_of text ≡ stopped fault
stopped-from_Decides fault text (front, rest, place, is, byte, at) =
    ap standing_of is
    ∙ (fold-append pass (going type_due 0 []) front rest
    ∙ (ap (λ s. fold pass s rest) (stopped-from_fault fault place front byte at) ∙ stopped-stays fault rest))

-- the pass goes on where no fault is decided
pub going-from_IsUndecided : (text : List ℕ) (h : IsUndecided text) → standing_of text ≡ going h.due (length h.before) h.line
going-from_IsUndecided text h =
    ap standing_of h.bytes
    ∙ (standing_of-lines h.before h.due h.line h.are_lines h.right ∙ pass-open h.due (length h.before) h.line h.is_open)

-- A text in which nothing is decided decides no fault.
pub undecided : (text : List ℕ) → IsUndecided text → (f : MapFault) → Decides MapFaultAt f text → ⊥
undecided text h f k =
    let goes = going-from_IsUndecided text h in
    let stops = stopped-from_Decides f text k in
    cc

-- ---- the end of a text

-- the last of right lines
pub MapLeads-last : (first : MapDue) (before : List (List ℕ)) (line : List ℕ) (last : MapDue) → MapLeads first (before ++ line ∷ []) last
    → (due : MapDue) × MapLeads first before due × MapFollows due line last
MapLeads-last first [] line last (next, follows, is) = (first, refl, subst (MapFollows first line) (sym is) follows)
MapLeads-last first (line' ∷ before) line last (next, follows, rest) =
    let found = MapLeads-last next before line last rest in
    (found.0, (next, follows, found.1), found.2)

-- right lines, and more of them
pub MapLeads-append : (first : MapDue) (before : List (List ℕ)) (due : MapDue) (lines : List (List ℕ)) (last : MapDue)
    → MapLeads first before due → MapLeads due lines last → MapLeads first (before ++ lines) last
MapLeads-append first [] due lines last is h = subst (λ d. MapLeads d lines last) is h
MapLeads-append first (line ∷ before) due lines last (next, follows, rest) h =
    (next, follows, MapLeads-append next before due lines last rest h)

-- the end of the text after some bytes of a line
fault_of-line : (due : MapDue) (count : ℕ) (line : List ℕ) → 0 < length line
    → fault_of (going due count line) ≡ fault_after (after_line due count line)
fault_of-line due count [] some = absurd (omega arith)
fault_of-line due count (b ∷ line) some = refl

-- at the end of a text whose lines are right, the line that is due is missing
pub fault_of-lines : (text : List ℕ) (lines : List (List ℕ)) (last : MapDue) → lines_of text ≡ lines → MapLeads type_due lines last
    → fault_of (standing_of text) ≡ missing last (length lines)
fault_of-lines text lines last e right = on (lines_parts text lines e)
  where
    on : AreLines text lines → fault_of (standing_of text) ≡ missing last (length lines)
    on parts = elim parts.last [
      | inl h ↦
          let leads = subst (λ ls. MapLeads type_due ls last) h.1 right in
          ap (λ t. fault_of (standing_of t)) parts.bytes
          ∙ (ap fault_of (standing_of-lines parts.before last parts.line parts.are_lines leads)
          ∙ (ap (λ l. fault_of (fold pass (going last (length parts.before) []) l)) h.0
          ∙ ap (λ ls. missing last (length ls)) (sym h.1)))
      | inr h ↦
          let found = MapLeads-last type_due parts.before parts.line last (subst (λ ls. MapLeads type_due ls last) h.1 right) in
          let line_open = open-from_Follows found.0 parts.line last parts.is_line found.2 in
          let longer : suc (length parts.before) ≡ length lines =
          omega (arith, ap length h.1, length-append parts.before (parts.line ∷ [])) in
          ap (λ t. fault_of (standing_of t)) parts.bytes
          ∙ (ap fault_of (standing_of-lines parts.before found.0 parts.line parts.are_lines found.1
          ∙ pass-open found.0 (length parts.before) parts.line line_open)
          ∙ (fault_of-line found.0 (length parts.before) parts.line h.0
          ∙ (ap fault_after (after_line-next found.0 (length parts.before) parts.line last found.2)
          ∙ ap (missing last) longer)))
    ]

-- the empty line has no value
no_value : (due : MapDue) → HasOtherValue due [] → ⊥
no_value type_due h = h
no_value height_due h = let bytes = h.0.bytes in cc
no_value (width_due height) h = let bytes = h.0.bytes in cc
no_value (map_due width height) h = h
no_value (rows_due width rows) h = h

-- the empty line has no number
no_number : (due : MapDue) → HasLargeValue due [] → ⊥
no_number type_due h = h
no_number height_due h = let bytes = h.1.bytes in cc
no_number (width_due height) h = let bytes = h.1.bytes in cc
no_number (map_due width height) h = h
no_number (rows_due width rows) h = h

-- the header lines that are missing have another form
missing-form : (due : MapDue) (count : ℕ) → HasOtherForm due [] → missing due count ≡ Some (BadHeader (number_of count))
missing-form type_due count h = refl
missing-form height_due count h = refl
missing-form (width_due height) count h = refl
missing-form (map_due width height) count h = refl
missing-form (rows_due width rows) count h = absurd h

-- the fault of a line that is missing
pub missing-from_fault : (fault : MapFault) (due : MapDue) (count : ℕ) → HasMapFault fault at_end due (number_of count) []
    → missing due count ≡ Some fault
missing-from_fault (BadHeader at) due count h = missing-form due count h.2 ∙ ap (λ n. Some (BadHeader n)) (sym h.0)
missing-from_fault (BadNumber at) due count h = absurd (no_value due h.2)
missing-from_fault (TooLarge at) due count h = absurd (no_number due h.2)
missing-from_fault (BadTerrain at column) due count h = absurd (cc (h.1))
missing-from_fault (ShortRow at) due count h = absurd (h.7 refl refl)
missing-from_fault (LongRow at) due count h = absurd (cc (h.1))
missing-from_fault (MissingRows at) due count h =
    ap (λ d. missing d count) h.3.1 ∙ ap (λ n. Some (MissingRows n)) (sym h.0)
missing-from_fault (TextAfter at) due count h = absurd (cc (h.1))
missing-from_fault ReadFailed due count h = absurd h
missing-from_fault OutOfMemory due count h = absurd h

-- the pass finds the fault of the end of a text
pub fault_of-end : (fault : MapFault) (text : List ℕ) → MapFaultAt fault at_end text → fault_of (standing_of text) ≡ Some fault
fault_of-end fault text h = elim h.judged [
  | inl judged ↦
      let parts = open_parts text h.before h.line judged.0 judged.1 in
      let some : h.line ≢ [] = λ e. omega (arith, ap length e) in
      let found = stops_after fault at_end h.due (length h.before) h.line tt parts.2 (λ _. some) h.faulty in
      ap (λ t. fault_of (standing_of t)) parts.0
      ∙ (ap fault_of (standing_of-lines h.before h.due h.line parts.1 h.right ∙ pass-open h.due (length h.before) h.line found.0)
      ∙ (fault_of-line h.due (length h.before) h.line parts.3 ∙ ap fault_after found.1))
  | inr judged ↦
      let faulty = subst (HasMapFault fault at_end h.due (line_number h.before)) judged.1 h.faulty in
      fault_of-lines text h.before h.due judged.0 h.right ∙ missing-from_fault fault h.due (length h.before) faulty
]

-- the pass finds the first fault of a text
pub fault_of-first : (fault : MapFault) (text : List ℕ) → IsFirstFault MapFaultAt fault text → fault_of (standing_of text) ≡ Some fault
fault_of-first fault text (inl decided) = ap fault_of (stopped-from_Decides fault text decided)
fault_of-first fault text (inr at) = fault_of-end fault text at

-- A text has one first fault at the most.
pub one_fault : (text : List ℕ) (f g : MapFault) → IsFirstFault MapFaultAt f text → IsFirstFault MapFaultAt g text → f ≡ g
one_fault text f g h k =
    let first = fault_of-first f text h in
    let second = fault_of-first g text k in
    cc
