-- A text spells one map at the most, and the text that is written for a map spells it.
use Rattle.std.proofs.Common.{◌≡◌, ℕ, zero, suc, ◌+◌, ◌*◌, ◌^◌, ◌%◌, ◌<◌, ◌≤◌, min, Bool, true}
use Rattle.std.proofs.Common.{List, [], ◌∷◌, ◌++◌, length, map, take, drop, refl, sym, ap, ◌∙◌}
use Rattle.std.proofs.Common.{subst, inl, inr, arith, append_assoc, append-nil, codes}
use Rattle.std.specs.Prelude.{IsTrue, decimal}
use Rattle.std.specs.List.{list_all, AllByRecursion}
use Rattle.std.specs.Char.{is_ascii_digit}
use Rattle.std.proofs.lemmas.Bool.{and_parts, and_from, le-leb}
use Rattle.std.proofs.Math.Nat.{mul-suc, mul-zero}
use Rattle.std.proofs.lemmas.List.{length-append, length-map, length-take-le, length-drop, append_cancel_right, take_at, take-append-drop, take-map, drop-map, nil_from_length}
use Rattle.std.proofs.lemmas.List.Folds.{list_all-append}
use Rattle.std.proofs.lemmas.Fmt.{decimal_by_steps, decimal_is_IsNumeral, decimal_nonempty}
use Rattle.grid.specs.declared.header_line.HeaderLine.TheVariants.{HeightLine, WidthLine}
use Rattle.grid.specs.declared.header_line.HeaderLine.{HeaderLine}
use Rattle.grid.specs.declared.map_fault.MapFault.{MapFault}
use Rattle.grid.specs.declared.terrain.Terrain.{Terrain}
use Rattle.grid.specs.declared.terrain.Terrain.TheVariants.{Floor, Grass, Void, OutOfBounds, Trees, Swamp, Water}
use Rattle.text_io.specs.Text.{line_feed, carriage_return, is_line_byte, IsLine}
use Rattle.grid.specs.Terrain.{character_of, is_terrain, kind_of}
use Rattle.grid.specs.Map.{Grid, IsMap}
use Rattle.grid.specs.MapText.{IsNumberLine, IsRowOf, is_rest_byte, AreRows, MapText, rows_of, header_lines, canonical_map_text}
use Rattle.text_io.specs.Reading.{IsFirstFault}
use Rattle.grid.specs.MapFault.{type_due, height_due, width_due, map_due, rows_due, MapFaultAt}
use Rattle.grid.specs.Code.Following.{MapLeads}
use Rattle.grid.specs.Code.HeaderLine.{word_of, saying_of}
use Rattle.text_io.specs.Laws.Lines.{differs, is_line_byte-from, lines_of-all}
use Rattle.grid.proofs.HeaderNumbers.{HasSize, height_has_size, width_has_size, Size-from_number_line}
use Rattle.grid.proofs.Judging.{MapLeads-append, fault_of-lines, fault_of-first}

-- ---- characters

-- the character of a terrain is a terrain character
pub character_is_terrain : (t : Terrain) → is_terrain (character_of t) ≡ true
character_is_terrain Floor = refl
character_is_terrain Grass = refl
character_is_terrain Void = refl
character_is_terrain OutOfBounds = refl
character_is_terrain Trees = refl
character_is_terrain Swamp = refl
character_is_terrain Water = refl

-- the terrain of a terrain's character
pub kind_of-character_of : (t : Terrain) → kind_of (character_of t) ≡ t
kind_of-character_of Floor = refl
kind_of-character_of Grass = refl
kind_of-character_of Void = refl
kind_of-character_of OutOfBounds = refl
kind_of-character_of Trees = refl
kind_of-character_of Swamp = refl
kind_of-character_of Water = refl

-- the character of a terrain is a byte of a line
character_is_line_byte : (t : Terrain) → is_line_byte (character_of t) ≡ true
character_is_line_byte t =
    is_line_byte-from (character_of t) (differs is_terrain line_feed (character_of t) refl (character_is_terrain t))

-- a test that the characters of all terrain pass
list_all-characters : (test : ℕ → Bool) → ((t : Terrain) → test (character_of t) ≡ true) → (terrain : List Terrain)
    → IsTrue (list_all test (map character_of terrain))
list_all-characters test each [] = refl
list_all-characters test each (t ∷ terrain) =
    and_from (test (character_of t)) (list_all test (map character_of terrain)) (each t) (list_all-characters test each terrain)

-- the terrain of a row's characters
pub map-kind_of-character_of : (terrain : List Terrain) → map kind_of (map character_of terrain) ≡ terrain
map-kind_of-character_of [] = refl
map-kind_of-character_of (t ∷ terrain) =
    ap (λ x. x ∷ map kind_of (map character_of terrain)) (kind_of-character_of t) ∙ ap (λ ts. t ∷ ts) (map-kind_of-character_of terrain)

-- ---- the lines of a map text

-- rows of a width are right where so many are due
rows-lead : (width : ℕ) (terrain : List Terrain) (rows : List (List ℕ)) → AreRows width terrain rows
    → MapLeads (rows_due width (length rows)) rows (rows_due width zero)
rows-lead width terrain [] h = refl
rows-lead width terrain (line ∷ rows) (row, rest, is, count, bytes, others) =
    let same = length-map row character_of in (
      rows_due width (length rows),
      (
        record {
          characters = map character_of row;
          bytes = bytes;
          count = same ∙ count;
          terrain = list_all-characters is_terrain character_is_terrain row;
        },
        refl,
      ),
      rows-lead width rest rows others,
    )

-- blank lines are right after the last row
blank-lead : (width : ℕ) (rest : List (List ℕ)) → AllByRecursion (λ line. IsTrue (list_all is_rest_byte line)) rest
    → MapLeads (rows_due width zero) rest (rows_due width zero)
blank-lead width [] h = refl
blank-lead width (line ∷ rest) h = (rows_due width zero, (h.0, refl), blank-lead width rest h.1)

-- all lines of a map text are right, and no row is due after them
pub MapLeads-from_MapText : (m : Grid) (text : List ℕ) (h : MapText m text)
    → MapLeads type_due (h.type_line ∷ h.height_line ∷ h.width_line ∷ h.map_line ∷ (h.rows ++ h.rest)) (rows_due m.width zero)
MapLeads-from_MapText m text h =
    let size = h.within.size in
    let limit = size.height_limit in (
      height_due,
      (h.is_type, refl),
      (
        width_due m.height,
        (m.height, h.is_height, (size.some_height, omega arith), refl),
        (
          map_due m.width m.height,
          (m.width, h.is_width, size, refl),
          (
            rows_due m.width m.height,
            (h.is_map, refl),
            MapLeads-append (rows_due m.width m.height) h.rows (rows_due m.width zero) h.rest (rows_due m.width zero)
                (subst (λ n. MapLeads (rows_due m.width n) h.rows (rows_due m.width zero)) h.count
                (rows-lead m.width m.terrain h.rows h.are_rows))
                (blank-lead m.width h.rest h.are_blank),
          ),
        ),
      ),
    )

-- A text that spells a map has no fault.
pub never_both : (text : List ℕ) (m : Grid) (f : MapFault) → MapText m text → IsFirstFault MapFaultAt f text → ⊥
never_both text m f h k =
    let none = fault_of-lines text _ (rows_due m.width zero) h.lines (MapLeads-from_MapText m text h) in
    let some = fault_of-first f text k in
    cc

-- ---- one map

-- lists that two of one length begin
same_front : {X : Type 0} (xs ys us vs : List X) → xs ++ us ≡ ys ++ vs → length xs ≡ length ys → xs ≡ ys
same_front xs ys us vs e n =
    sym (take_at xs us (length xs) refl) ∙ (ap (take (length xs)) e ∙ take_at ys vs (length xs) (sym n))

-- a row's bytes have one terrain of the width
same_row : (width : ℕ) (line : List ℕ) (row other : List Terrain) → length row ≡ width → length other ≡ width
    → IsRowOf (map character_of row) line → IsRowOf (map character_of other) line → row ≡ other
same_row width line row other n k h g =
    let rows : map character_of row ≡ map character_of other = go h g in
    sym (map-kind_of-character_of row) ∙ (ap (map kind_of) rows ∙ map-kind_of-character_of other)
  where
    apart : (xs ys : List ℕ) → length xs ≡ length ys → line ≡ xs → line ≡ ys ++ carriage_return ∷ [] → ⊥
    apart xs ys same e g = omega (arith, ap length (sym e ∙ g), length-append ys (carriage_return ∷ []))

    lengths : length (map character_of row) ≡ length (map character_of other)
    lengths = length-map row character_of ∙ (n ∙ (sym k ∙ sym (length-map other character_of)))

    go : IsRowOf (map character_of row) line → IsRowOf (map character_of other) line → map character_of row ≡ map character_of other
    go (inl e) (inl g) = sym e ∙ g
    go (inl e) (inr g) = absurd (apart (map character_of row) (map character_of other) lengths e g)
    go (inr e) (inl g) = absurd (apart (map character_of other) (map character_of row) (sym lengths) g e)
    go (inr e) (inr g) = append_cancel_right (map character_of row) (map character_of other) (carriage_return ∷ []) (sym e ∙ g)

-- rows have one terrain
same_terrain : (width : ℕ) (rows : List (List ℕ)) (terrain other : List Terrain) → AreRows width terrain rows → AreRows width other rows
    → terrain ≡ other
same_terrain width [] terrain other h k = h ∙ sym k
same_terrain width (line ∷ rows) terrain other (row, rest, is, count, bytes, others) (row', rest', is', count', bytes', others') =
    let first = same_row width line row row' count count' bytes bytes' in
    let more = same_terrain width rows rest rest' others others' in
    is ∙ (ap (λ xs. xs ++ rest) first ∙ (ap (λ xs. row' ++ xs) more ∙ sym is'))

-- a line of a number has one number within the greatest size
same_number : (kind : HeaderLine) → HasSize kind → (m n : ℕ) (line other : List ℕ) → IsNumberLine (word_of kind) m line
    → IsNumberLine (word_of kind) n other → line ≡ other → m ≤ 65535 → n ≤ 65535 → m ≡ n
same_number kind sized m n line other h k e p q =
    let first = Size-from_number_line kind sized m line h in
    let second = Size-from_number_line kind sized n other k in
    let same : min m 65536 ≡ min n 65536 = cc (ap (saying_of kind) e) in
    omega arith

-- A text spells one map at the most.
pub one_map : (text : List ℕ) (m n : Grid) → MapText m text → MapText n text → m ≡ n
one_map text m n h k =
    let lines = sym h.lines ∙ k.lines in
    let heights : h.height_line ≡ k.height_line = cc in
    let widths : h.width_line ≡ k.width_line = cc in
    let others : h.rows ++ h.rest ≡ k.rows ++ k.rest = cc in
    let height : m.height ≡ n.height =
    same_number HeightLine height_has_size m.height n.height h.height_line k.height_line h.is_height k.is_height heights
    h.within.size.height_limit k.within.size.height_limit in
    let width : m.width ≡ n.width =
    same_number WidthLine width_has_size m.width n.width h.width_line k.width_line h.is_width k.is_width widths
    h.within.size.width_limit k.within.size.width_limit in
    let rows : h.rows ≡ k.rows = same_front h.rows k.rows h.rest k.rest others (h.count ∙ (height ∙ sym k.count)) in
    let terrain : m.terrain ≡ n.terrain =
    same_terrain n.width k.rows m.terrain n.terrain
    (subst (λ w. AreRows w m.terrain k.rows) width (subst (AreRows m.width m.terrain) rows h.are_rows)) k.are_rows in
    λ i. record { width = width i; height = height i; terrain = terrain i }

-- ---- the text that is written

-- a digit is a byte of a line
digit_is_line_byte : (b : ℕ) → is_ascii_digit b ≡ true → is_line_byte b ≡ true
digit_is_line_byte b h = is_line_byte-from b (differs is_ascii_digit line_feed b refl h)

-- a test that follows from another passes where that does
list_all-weaker : (strong weak : ℕ → Bool) → ((b : ℕ) → strong b ≡ true → weak b ≡ true) → (bytes : List ℕ)
    → IsTrue (list_all strong bytes) → IsTrue (list_all weak bytes)
list_all-weaker strong weak each [] h = refl
list_all-weaker strong weak each (b ∷ bytes) h =
    let parts = and_parts (strong b) (list_all strong bytes) h in
    and_from (weak b) (list_all weak bytes) (each b parts.0) (list_all-weaker strong weak each bytes parts.1)

-- the code of a last digit
code_is_digit : (n : ℕ) → n < 10 → is_ascii_digit (48 + n) ≡ true
code_is_digit n h = and_from _ _ (le-leb 48 (48 + n) (omega arith)) (le-leb (48 + n) 57 (omega arith))

-- a number is written in digits
pub digits-decimal : (n : ℕ) → n < 2 ^ 64 → IsTrue (list_all is_ascii_digit (decimal n))
digits-decimal n h = decimal_by_steps (λ _ ds. IsTrue (list_all is_ascii_digit ds)) one more n h
  where
    one : (n : ℕ) → n < 10 → IsTrue (list_all is_ascii_digit ((48 + n) ∷ []))
    one n h = and_from (is_ascii_digit (48 + n)) true (code_is_digit n h) refl

    more : (n : ℕ) (ds : List ℕ) → 10 ≤ n → IsTrue (list_all is_ascii_digit ds)
        → IsTrue (list_all is_ascii_digit (ds ++ ((48 + n % 10) ∷ [])))
    more n ds h k =
        list_all-append is_ascii_digit ds ((48 + n % 10) ∷ [])
        ∙ and_from (list_all is_ascii_digit ds) _ k (one (n % 10) (omega arith))

-- a word, a blank and a number are a line of that number
pub number_line-decimal : (word : List ℕ) (n : ℕ) → n < 2 ^ 64 → IsNumberLine word n (word ++ 32 ∷ decimal n)
number_line-decimal word n h = record {
  gap = 32 ∷ [];
  digits = decimal n;
  tail = [];
  bytes = sym (append_assoc word (32 ∷ []) (decimal n)) ∙ sym (append-nil (word ++ 32 ∷ [] ++ decimal n));
  is_gap = (refl, omega arith);
  number = (digits-decimal n h, decimal_nonempty n h, (decimal_is_IsNumeral n h).1);
  is_tail = refl;
}

-- a word, a blank and a number are a line
number_line_is_line : (word : List ℕ) (n : ℕ) → n < 2 ^ 64 → IsLine word → IsLine (word ++ 32 ∷ decimal n)
number_line_is_line word n h k =
    list_all-append is_line_byte word (32 ∷ decimal n)
    ∙ and_from (list_all is_line_byte word) _ k
    (list_all-weaker is_ascii_digit is_line_byte digit_is_line_byte (decimal n) (digits-decimal n h))

-- the lines of the header are lines
pub are_lines-header : (width height : ℕ) → width < 2 ^ 64 → height < 2 ^ 64 → AllByRecursion IsLine (header_lines width height)
are_lines-header width height h k =
    (refl, (number_line_is_line (codes "height") height k refl, (number_line_is_line (codes "width") width h refl, (refl, tt))))

-- the part of the cells that a row takes, and the others
rest_count : (width count : ℕ) (terrain : List Terrain) → length terrain ≡ width * suc count
    → (width ≤ length terrain) × (length (drop width terrain) ≡ width * count)
rest_count width count terrain h =
    let whole : width * suc count ≡ width * count + width = mul-suc width count in
    (omega arith, omega (arith, length-drop width terrain))

-- the rows of the cells
pub AreRows-rows_of : (width count : ℕ) (terrain : List Terrain) → length terrain ≡ width * count
    → AreRows width terrain (rows_of count width (map character_of terrain))
AreRows-rows_of width zero terrain h = nil_from_length terrain (h ∙ mul-zero width)
AreRows-rows_of width (suc count) terrain h =
    let parts = rest_count width count terrain h in (
      take width terrain,
      drop width terrain,
      sym (take-append-drop width terrain),
      length-take-le width terrain parts.0,
      inl (take-map character_of width terrain),
      subst (λ cs. AreRows width (drop width terrain) (rows_of count width cs)) (sym (drop-map character_of width terrain))
          (AreRows-rows_of width count (drop width terrain) parts.1),
    )

-- as many rows as are due
pub length-rows_of : (count width : ℕ) (bytes : List ℕ) → length (rows_of count width bytes) ≡ count
length-rows_of zero width bytes = refl
length-rows_of (suc count) width bytes = ap suc (length-rows_of count width (drop width bytes))

-- rows of terrain are lines
are_lines-rows : (width : ℕ) (terrain : List Terrain) (rows : List (List ℕ)) → AreRows width terrain rows → AllByRecursion IsLine rows
are_lines-rows width terrain [] h = tt
are_lines-rows width terrain (line ∷ rows) (row, rest, is, count, bytes, others) = (first bytes, are_lines-rows width rest rows others)
  where
    characters_are : IsLine (map character_of row)
    characters_are = list_all-characters is_line_byte character_is_line_byte row

    first : IsRowOf (map character_of row) line → IsLine line
    first (inl e) = subst IsLine (sym e) characters_are
    first (inr e) =
        ap (list_all is_line_byte) e
        ∙ (list_all-append is_line_byte (map character_of row) (carriage_return ∷ [])
        ∙ and_from (list_all is_line_byte (map character_of row)) _ characters_are refl)

-- The text that is written for a map spells it.
pub spells : (m : Grid) → IsMap m → MapText m (canonical_map_text m)
spells m h =
    let size = h.size in
    let limit = size.width_limit in
    let height_limit = size.height_limit in
    let wide : m.width < 2 ^ 64 = omega arith in
    let high : m.height < 2 ^ 64 = omega arith in
    let rows = rows_of m.height m.width (map character_of m.terrain) in
    let are_rows : AreRows m.width m.terrain (rows_of m.height m.width (map character_of m.terrain)) =
    AreRows-rows_of m.width m.height m.terrain h.cells in
    let head = are_lines-header m.width m.height wide high in
    let all : AllByRecursion IsLine (header_lines m.width m.height ++ rows_of m.height m.width (map character_of m.terrain)) =
    (head.0, (head.1.0, (head.1.1.0, (head.1.1.1.0, are_lines-rows m.width m.terrain rows are_rows)))) in
    record {
      type_line = codes "type octile";
      height_line = codes "height " ++ decimal m.height;
      width_line = codes "width " ++ decimal m.width;
      map_line = codes "map";
      rows = rows;
      rest = [];
      lines = lines_of-all (header_lines m.width m.height ++ rows) all
          ∙ ap (λ rs. header_lines m.width m.height ++ rs) (sym (append-nil rows));
      is_type = record { gap = 32 ∷ []; tail = []; bytes = refl; is_gap = (refl, omega arith); is_tail = refl };
      is_height = number_line-decimal (codes "height") m.height high;
      is_width = number_line-decimal (codes "width") m.width wide;
      is_map = record { tail = []; bytes = refl; is_tail = refl };
      count = length-rows_of m.height m.width (map character_of m.terrain);
      are_rows = are_rows;
      are_blank = tt;
      within = h;
    }

-- The text that is written for a map spells no other.
pub only : (m n : Grid) → IsMap m → MapText n (canonical_map_text m) → n ≡ m
only m n h k = one_map (canonical_map_text m) n m k (spells m h)
