-- Each text has a reading: the pass over its bytes finds one.
use Rattle.std.proofs.Common.{◌≡◌, ℕ, zero, suc, ◌*◌, ◌<◌, ◌⊎◌, Bool, true, false, List, [], ◌∷◌, ◌++◌, length, map, refl, sym, ap, ◌∙◌, subst, inl, inr, arith, append_assoc, append-nil, codes}
use Rattle.std.specs.Prelude.{◌==◌, IsTrue}
use Rattle.std.specs.List.{list_all, fold, AllByRecursion}
use Rattle.std.proofs.lemmas.Bool.{cond-true, cond-false, eqb-true}
use Rattle.std.proofs.lemmas.List.{length-append, length-map, nil_from_length}
use Rattle.std.proofs.Math.Nat.{mul-suc, mul-zero}
use Rattle.grid.specs.declared.map_fault.MapFault.{MapFault}
use Rattle.grid.specs.declared.map_fault.MapFault.TheVariants.{BadHeader, MissingRows}
use Rattle.grid.specs.declared.terrain.Terrain.{Terrain}
use Rattle.text_io.specs.Text.{line_feed, is_line_byte, lines_of, ended, ends_in_line_feed, IsLine}
use Rattle.grid.specs.Terrain.{kind_of}
use Rattle.grid.specs.Map.{Grid, IsSize}
use Rattle.grid.specs.MapText.{IsNumberLine, IsTypeLine, IsMapLine, IsRowOf, is_rest_byte, AreRows, MapText}
use Rattle.text_io.specs.Reading.{Place, at_line_feed, at_byte, at_end, IsByte, Decides, IsFirstFault, line_number}
use Rattle.grid.specs.MapFault.{MapDue, type_due, height_due, width_due, map_due, rows_due, IsRow, MapFollows, HasMapFault, MapFaultAt}
use Rattle.grid.specs.Code.Following.{IsLineOpen, MapLeads}
use Rattle.text_io.specs.Laws.Lines.{is_line_byte-from, lines_of-whole, lines_of-open, lines_of-all, ends_in_line_feed-whole, ends_in_line_feed-open, ended_push, AllByRecursion_push}
use Rattle.grid.proofs.Standing.{Standing, going, stopped, number_of, after_line, on_byte, pass, standing_of}
use Rattle.grid.proofs.Judging.{MapLeads-append}
use Rattle.grid.proofs.TerrainLemmas.{map-character_of-kind}
use Rattle.grid.proofs.LineDecisions.{IsDue, line_decides, list_all_push, byte_decides}

-- the lines before a line that is due are right, and it is open
pub record HasCome (seen : List ℕ) (due : MapDue) (count : ℕ) (line : List ℕ) : Type 0 where
  pub before : List (List ℕ)
  pub bytes : seen ≡ ended before ++ line
  pub are_lines : AllByRecursion IsLine before
  pub is_line : IsLine line
  pub number : count ≡ length before
  pub right : MapLeads type_due before due
  pub known : IsDue due
  pub is_open : IsLineOpen due line

-- what the pass says of the bytes up to where it stands
abbrev pub Means : List ℕ → Standing → Type 0
Means seen (going due count line) = HasCome seen due count line
Means seen (stopped fault) = Decides MapFaultAt fault seen

-- a fault at a byte of a text is decided there
Decides-here : (fault : MapFault) (place : Place) (text : List ℕ) → IsByte place → MapFaultAt fault place text
    → Decides MapFaultAt fault text
Decides-here fault place text byte at = (text, [], place, sym (append-nil text), byte, at)

-- one more right line
Leads_push : (before : List (List ℕ)) (due : MapDue) (line : List ℕ) (next : MapDue) → MapLeads type_due before due → MapFollows due line next
    → MapLeads type_due (before ++ line ∷ []) next
Leads_push before due line next h k = MapLeads-append type_due before due (line ∷ []) next h (next, k, refl)

-- the pass at the LF of a line
Means-line_feed : (seen : List ℕ) (due : MapDue) (count : ℕ) (line : List ℕ) → HasCome seen due count line
    → Means (seen ++ line_feed ∷ []) (after_line due count line)
Means-line_feed seen due count line h = elim (line_decides due count line h.known h.is_open) [
  | inl (next, follows, known, is) ↦
      let number = h.number in
      let last : Means (seen ++ line_feed ∷ []) (going next (suc count) []) = record {
        before = h.before ++ line ∷ [];
        bytes = whole ∙ (sym (ended_push h.before line) ∙ sym (append-nil (ended (h.before ++ line ∷ []))));
        are_lines = AllByRecursion_push IsLine h.before line h.are_lines h.is_line;
        is_line = refl;
        number = omega (arith, length-append h.before (line ∷ []));
        right = Leads_push h.before due line next h.right follows;
        known = known;
        is_open = open_line next follows;
      } in
      subst (Means (seen ++ line_feed ∷ [])) (sym is) last
  | inr (fault, is, faulty) ↦
      let found : HasMapFault fault at_line_feed due (line_number h.before) line =
      subst (λ n. HasMapFault fault at_line_feed due (number_of n) line) h.number (faulty at_line_feed tt (λ e. absurd (cc))) in
      subst (Means (seen ++ line_feed ∷ [])) (sym is) (Decides-here fault at_line_feed (seen ++ line_feed ∷ []) tt (record {
        before = h.before;
        line = line;
        due = due;
        judged = (
          ap lines_of whole ∙ lines_of-whole h.before line h.are_lines h.is_line,
          ap ends_in_line_feed whole ∙ ends_in_line_feed-whole (ended h.before) line,
        );
        right = h.right;
        faulty = found;
      }))
]
  where
    whole : seen ++ line_feed ∷ [] ≡ ended h.before ++ (line ++ line_feed ∷ [])
    whole = ap (λ xs. xs ++ line_feed ∷ []) h.bytes ∙ append_assoc (ended h.before) line (line_feed ∷ [])

    empty_row : (width rows : ℕ) → IsLineOpen (rows_due width rows) []
    empty_row width zero = refl
    empty_row width (suc rows) = ([], omega arith, refl, inl refl)

    open_line : (next : MapDue) → MapFollows due line next → IsLineOpen next []
    open_line type_due follows = refl
    open_line height_due follows = refl
    open_line (width_due height) follows = refl
    open_line (map_due width height) follows = refl
    open_line (rows_due width rows) follows = empty_row width rows

-- the pass at another byte
Means-on_byte : (seen : List ℕ) (due : MapDue) (count : ℕ) (line : List ℕ) (b : ℕ) → HasCome seen due count line → IsTrue (is_line_byte b)
    → Means (seen ++ b ∷ []) (on_byte due count line b)
Means-on_byte seen due count line b h k = elim (byte_decides due count line b h.is_open k) [
  | inl (is_open, is) ↦
      let last : Means (seen ++ b ∷ []) (going due count (line ++ b ∷ [])) = record {
        before = h.before;
        bytes = more;
        are_lines = h.are_lines;
        is_line = is_line;
        number = h.number;
        right = h.right;
        known = h.known;
        is_open = is_open;
      } in
      subst (Means (seen ++ b ∷ [])) (sym is) last
  | inr (fault, is, faulty) ↦
      let found : HasMapFault fault at_byte due (line_number h.before) (line ++ b ∷ []) =
      subst (λ n. HasMapFault fault at_byte due (number_of n) (line ++ b ∷ [])) h.number faulty in
      subst (Means (seen ++ b ∷ [])) (sym is) (Decides-here fault at_byte (seen ++ b ∷ []) tt (record {
        before = h.before;
        line = line ++ b ∷ [];
        due = due;
        judged = (
          ap lines_of more ∙ lines_of-open h.before (line ++ b ∷ []) h.are_lines is_line some,
          ap ends_in_line_feed more ∙ ends_in_line_feed-open (ended h.before) (line ++ b ∷ []) is_line some,
        );
        right = h.right;
        faulty = found;
      }))
]
  where
    more : seen ++ b ∷ [] ≡ ended h.before ++ (line ++ b ∷ [])
    more = ap (λ xs. xs ++ b ∷ []) h.bytes ∙ append_assoc (ended h.before) line (b ∷ [])

    is_line : IsLine (line ++ b ∷ [])
    is_line = list_all_push is_line_byte line b h.is_line k

    some : 0 < length (line ++ b ∷ [])
    some = omega (arith, length-append line (b ∷ []))

-- the pass at one more byte
Means-pass : (seen : List ℕ) (s : Standing) (b : ℕ) → Means seen s → Means (seen ++ b ∷ []) (pass s b)
Means-pass seen (going due count line) b h = go (b == line_feed) refl
  where
    go : (t : Bool) → (b == line_feed) ≡ t → Means (seen ++ b ∷ []) (pass (going due count line) b)
    go true feed =
        let at : b ≡ line_feed = eqb-true b line_feed feed in
        let is : pass (going due count line) b ≡ after_line due count line = cond-true (b == line_feed) _ _ feed in
        let last = subst (λ x. Means (seen ++ x ∷ []) (after_line due count line)) (sym at) (Means-line_feed seen due count line h) in
        subst (Means (seen ++ b ∷ [])) (sym is) last
    go false byte =
        let is : pass (going due count line) b ≡ on_byte due count line b = cond-false (b == line_feed) _ _ byte in
        subst (Means (seen ++ b ∷ [])) (sym is) (Means-on_byte seen due count line b h (is_line_byte-from b byte))
Means-pass seen (stopped fault) b (front, rest, place, is, byte, at) =
    (front, rest ++ b ∷ [], place, ap (λ xs. xs ++ b ∷ []) is ∙ append_assoc front rest (b ∷ []), byte, at)

-- the pass over more bytes
Means-fold : (seen : List ℕ) (s : Standing) (bytes : List ℕ) → Means seen s → Means (seen ++ bytes) (fold pass s bytes)
Means-fold seen s [] h = subst (λ xs. Means xs s) (sym (append-nil seen)) h
Means-fold seen s (b ∷ bytes) h =
    subst (λ xs. Means xs (fold pass (pass s b) bytes)) (append_assoc seen (b ∷ []) bytes)
    (Means-fold (seen ++ b ∷ []) (pass s b) bytes (Means-pass seen s b h))

-- where the pass stands at the end of a text
pub means_of : (text : List ℕ) → Means text (standing_of text)
means_of text = Means-fold [] (going type_due 0 []) text (record {
  before = [];
  bytes = refl;
  are_lines = tt;
  is_line = refl;
  number = refl;
  right = refl;
  known = tt;
  is_open = refl;
})

-- ---- the map that right lines spell

-- the rows that are due, with their terrain, and the blank lines after them
pub record HasRows (width rows : ℕ) (lines : List (List ℕ)) : Type 0 where
  pub terrain : List Terrain
  pub row_lines : List (List ℕ)
  pub rest : List (List ℕ)
  pub are : lines ≡ row_lines ++ rest
  pub count : length row_lines ≡ rows
  pub cells : length terrain ≡ width * rows
  pub are_rows : AreRows width terrain row_lines
  pub are_blank : AllByRecursion (λ line. IsTrue (list_all is_rest_byte line)) rest

-- one more row
row_more : (width rows : ℕ) (line : List ℕ) (lines : List (List ℕ)) → IsRow width line → HasRows width rows lines
    → HasRows width (suc rows) (line ∷ lines)
row_more width rows line lines row h =
    let same = length-map row.characters kind_of in
    let whole = row.count in
    let cells = h.cells in
    record {
      terrain = map kind_of row.characters ++ h.terrain;
      row_lines = line ∷ h.row_lines;
      rest = h.rest;
      are = ap (λ ls. line ∷ ls) h.are;
      count = ap suc h.count;
      cells = omega (arith, length-append (map kind_of row.characters) h.terrain, mul-suc width rows);
      are_rows = (
        map kind_of row.characters,
        h.terrain,
        refl,
        same ∙ whole,
        subst (λ cs. IsRowOf cs line) (sym (map-character_of-kind row.characters row.terrain)) row.bytes,
        h.are_rows,
      );
      are_blank = h.are_blank;
    }

-- right lines from the first row on, after which no row is due
rows_from_Leads : (width rows : ℕ) (lines : List (List ℕ)) (last : ℕ) → MapLeads (rows_due width rows) lines (rows_due last zero)
    → HasRows width rows lines
rows_from_Leads width zero [] last h = record {
  terrain = [];
  row_lines = [];
  rest = [];
  are = refl;
  count = refl;
  cells = sym (mul-zero width);
  are_rows = refl;
  are_blank = tt;
}
rows_from_Leads width (suc rows) [] last h = absurd (cc)
rows_from_Leads width zero (line ∷ lines) last (next, follows, rest) =
    let more = rows_from_Leads width zero lines last (subst (λ d. MapLeads d lines (rows_due last zero)) follows.1 rest) in
    record {
      terrain = [];
      row_lines = [];
      rest = line ∷ lines;
      are = refl;
      count = refl;
      cells = sym (mul-zero width);
      are_rows = refl;
      are_blank = (follows.0, blank more (nil_from_length more.row_lines more.count));
    }
  where
    blank : (more : HasRows width zero lines) → more.row_lines ≡ [] → AllByRecursion (λ line. IsTrue (list_all is_rest_byte line)) lines
    blank more none =
        subst (AllByRecursion (λ line. IsTrue (list_all is_rest_byte line)))
        (sym (more.are ∙ ap (λ ls. ls ++ more.rest) none)) more.are_blank
rows_from_Leads width (suc rows) (line ∷ lines) last (next, follows, rest) =
    row_more width rows line lines follows.0
    (rows_from_Leads width rows lines last (subst (λ d. MapLeads d lines (rows_due last zero)) follows.1 rest))

-- right lines of a text after which no row is due, and the map that they spell
map_from_rows : (text : List ℕ) (type_line height_line width_line map_line : List ℕ) (lines : List (List ℕ)) (width height : ℕ)
    → lines_of text ≡ type_line ∷ height_line ∷ width_line ∷ map_line ∷ lines
    → IsTypeLine type_line → IsNumberLine (codes "height") height height_line → IsNumberLine (codes "width") width width_line
    → IsMapLine map_line → IsSize width height → HasRows width height lines → (m : Grid) × MapText m text
map_from_rows text type_line height_line width_line map_line lines width height is is_type is_height is_width is_map size h = (
  record { width = width; height = height; terrain = h.terrain },
  record {
    type_line = type_line;
    height_line = height_line;
    width_line = width_line;
    map_line = map_line;
    rows = h.row_lines;
    rest = h.rest;
    lines = is ∙ ap (λ ls. type_line ∷ height_line ∷ width_line ∷ map_line ∷ ls) h.are;
    is_type = is_type;
    is_height = is_height;
    is_width = is_width;
    is_map = is_map;
    count = h.count;
    are_rows = h.are_rows;
    are_blank = h.are_blank;
    within = record { size = size; cells = h.cells };
  },
)

-- the same from what leads to it, a line of the header after the other
map_from_Leads : (text : List ℕ) (lines : List (List ℕ)) (last : ℕ) → lines_of text ≡ lines → MapLeads type_due lines (rows_due last zero)
    → (m : Grid) × MapText m text
map_from_Leads text [] last is h = absurd (cc)
map_from_Leads text (type_line ∷ lines) last is (next, follows, rest) =
    on_height lines is (subst (λ d. MapLeads d lines (rows_due last zero)) follows.1 rest)
  where
    on_map : (height_line width_line : List ℕ) (width height : ℕ) → IsNumberLine (codes "height") height height_line
        → IsNumberLine (codes "width") width width_line → IsSize width height → (lines : List (List ℕ))
        → lines_of text ≡ type_line ∷ height_line ∷ width_line ∷ lines → MapLeads (map_due width height) lines (rows_due last zero)
        → (m : Grid) × MapText m text
    on_map height_line width_line width height is_height is_width size [] is h = absurd (cc)
    on_map height_line width_line width height is_height is_width size (map_line ∷ lines) is (next, is_map, rest) =
        map_from_rows text type_line height_line width_line map_line lines width height is follows.0 is_height is_width is_map.0 size
        (rows_from_Leads width height lines last (subst (λ d. MapLeads d lines (rows_due last zero)) is_map.1 rest))

    on_width : (height_line : List ℕ) (height : ℕ) → IsNumberLine (codes "height") height height_line → (lines : List (List ℕ))
        → lines_of text ≡ type_line ∷ height_line ∷ lines → MapLeads (width_due height) lines (rows_due last zero) → (m : Grid)
        × MapText m text
    on_width height_line height is_height [] is h = absurd (cc)
    on_width height_line height is_height (width_line ∷ lines) is (next, (width, is_width, size, due_is), rest) =
        on_map height_line width_line width height is_height is_width size lines is
        (subst (λ d. MapLeads d lines (rows_due last zero)) due_is rest)

    on_height : (lines : List (List ℕ)) → lines_of text ≡ type_line ∷ lines → MapLeads height_due lines (rows_due last zero)
        → (m : Grid) × MapText m text
    on_height [] is h = absurd (cc)
    on_height (height_line ∷ lines) is (next, (height, is_height, limits, due_is), rest) =
        on_width height_line height is_height lines is (subst (λ d. MapLeads d lines (rows_due last zero)) due_is rest)

-- ---- the end of a text

-- the two readings that a text can have
abbrev pub HasReading : List ℕ → Type 0
HasReading text = ((m : Grid) × MapText m text) ⊎ ((f : MapFault) × IsFirstFault MapFaultAt f text)

-- a fault at the end of a text whose lines are right
end_fault : (fault : MapFault) (text : List ℕ) (lines : List (List ℕ)) (due : MapDue) → lines_of text ≡ lines → MapLeads type_due lines due
    → HasMapFault fault at_end due (line_number lines) [] → HasReading text
end_fault fault text lines due is right faulty = inr (
  fault,
  inr (record {
    before = lines;
    line = [];
    due = due;
    judged = inr (is, refl);
    right = right;
    faulty = faulty;
  }),
)

-- a text whose lines are right has a reading
right_lines : (due : MapDue) (text : List ℕ) (lines : List (List ℕ)) → lines_of text ≡ lines → MapLeads type_due lines due → HasReading text
right_lines type_due text lines is right =
    end_fault (BadHeader (line_number lines)) text lines type_due is right (refl, tt, λ h. let bytes = h.bytes in cc)
right_lines height_due text lines is right =
    end_fault (BadHeader (line_number lines)) text lines height_due is right (refl, tt, λ h. let bytes = h.bytes in cc)
right_lines (width_due height) text lines is right =
    end_fault (BadHeader (line_number lines)) text lines (width_due height) is right (refl, tt, λ h. let bytes = h.bytes in cc)
right_lines (map_due width height) text lines is right =
    end_fault (BadHeader (line_number lines)) text lines (map_due width height) is right (refl, tt, λ h. let bytes = h.bytes in cc)
right_lines (rows_due width zero) text lines is right = inl (map_from_Leads text lines width is right)
right_lines (rows_due width (suc rows)) text lines is right =
    end_fault (MissingRows (line_number lines)) text lines (rows_due width (suc rows)) is right (refl, refl, width, (rows, refl), refl)

-- a text that ends where a line is open has a reading
open_line_reading : (text : List ℕ) (due : MapDue) (count : ℕ) (line : List ℕ) → HasCome text due count line → HasReading text
open_line_reading text due count [] h =
    right_lines due text h.before
    (ap lines_of (h.bytes ∙ append-nil (ended h.before)) ∙ lines_of-all h.before h.are_lines) h.right
open_line_reading text due count (b ∷ line) h = elim (line_decides due count (b ∷ line) h.known h.is_open) [
  | inl (next, follows, known, is) ↦
      right_lines next text (h.before ++ (b ∷ line) ∷ []) lines (Leads_push h.before due (b ∷ line) next h.right follows)
  | inr (fault, is, faulty) ↦
      let found : HasMapFault fault at_end due (line_number h.before) (b ∷ line) =
      subst (λ n. HasMapFault fault at_end due (number_of n) (b ∷ line)) h.number (faulty at_end tt (λ _ e. absurd (cc))) in
      inr (
        fault,
        inr (record {
          before = h.before;
          line = b ∷ line;
          due = due;
          judged = inl (lines, ap ends_in_line_feed h.bytes ∙ ends_in_line_feed-open (ended h.before) (b ∷ line) h.is_line (omega arith));
          right = h.right;
          faulty = found;
        }),
      )
]
  where
    lines : lines_of text ≡ h.before ++ (b ∷ line) ∷ []
    lines = ap lines_of h.bytes ∙ lines_of-open h.before (b ∷ line) h.are_lines h.is_line (omega arith)

-- Each text spells a map or has a first fault.
pub some_reading : (text : List ℕ) → HasReading text
some_reading text = go (standing_of text) (means_of text)
  where
    go : (s : Standing) → Means text s → HasReading text
    go (going due count line) h = open_line_reading text due count line h
    go (stopped fault) h = inr (fault, inl h)
