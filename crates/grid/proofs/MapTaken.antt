-- The text that the reader of a map took, and what it answers for it.
use Rattle.std.proofs.Common.{◌≡◌, ℕ, zero, ◌+◌, ◌*◌, true, false, List, [], ◌∷◌, ◌++◌, length, map, Err, refl, sym, ap, subst, ◌∙◌, inl, inr, arith, append-nil, length-append, min, codes}
use Rattle.std.specs.Prelude.{Option, IsTrue, ◌&&◌}
use Rattle.std.specs.List.{list_all, AllByRecursion}
use Rattle.std.specs.Io.KnownBytes.{IsAtEnd as IsSpent}
use Rattle.std.proofs.lemmas.List.{map-append, length-map}
use Rattle.std.proofs.lemmas.List.Folds.{list_all-append}
use Rattle.std.proofs.Math.Nat.{mul-suc, mul-zero}
use Rattle.text_io.specs.declared.source.Source.{Source}
use Rattle.grid.specs.declared.map_fault.MapFault.{MapFault}
use Rattle.grid.specs.declared.map_fault.MapFault.TheVariants.{BadHeader, BadNumber, TooLarge, BadTerrain, ShortRow, LongRow, MissingRows, TextAfter, ReadFailed, OutOfMemory}
use Rattle.text_io.specs.Counted.{greatest}
use Rattle.text_io.specs.Text.{lines_of, ended, IsLine}
use Rattle.grid.specs.Terrain.{kind_of, is_terrain}
use Rattle.grid.specs.Map.{Grid, IsSize}
use Rattle.text_io.specs.Source.{at_hand, source_reader, has_ended, has_failed, is_stopped, GoesOn, Takes, IsAtEnd}
use Rattle.text_io.specs.Reading.{by_input, Place, at_line_feed, at_byte, at_end, JudgedAt, ReadsText, is_value, is_fault, is_failed, is_refused, line_number}
use Rattle.grid.specs.MapText.{MapText, IsTypeLine, IsNumberLine, IsMapLine, IsRowOf, AreRows, is_rest_byte}
use Rattle.grid.specs.MapFault.{MapDue, type_due, height_due, width_due, map_due, rows_due, HasMapFault, MapFaultAt, map_outcome}
use Rattle.grid.specs.Code.Following.{TakesLines, TakesRight, TakesUpTo, number_after, TakesFault, TakesFailure, TakesRefusal, StopsReading, TakesRows, HaveRows, MapLeads}
use Rattle.text_io.specs.Laws.Lines.{lines_of-whole, lines_of-open, lines_of-all, ends_in_line_feed-whole, ends_in_line_feed-open, AllByRecursion-append}
use Rattle.grid.proofs.Judging.{undecided}
use Rattle.grid.proofs.TerrainLemmas.{map-character_of-kind}
use Rattle.text_io.specs.Laws.Taking.{slice_range-empty, spent, same_failures, more_failures, not_ended, failed_is_stopped, has_failed-goes_on}
use Rattle.grid.proofs.RowsTaken.{MapLeads-rows}

-- ---- the lines of a map

-- the four lines of a header
pub record HeaderOf (lines : List (List ℕ)) (width height : ℕ) : Type 0 where
  pub type_line : List ℕ
  pub height_line : List ℕ
  pub width_line : List ℕ
  pub map_line : List ℕ
  pub are : lines ≡ type_line ∷ height_line ∷ width_line ∷ map_line ∷ []
  pub is_type : IsTypeLine type_line
  pub is_height : IsNumberLine (codes "height") height height_line
  pub is_width : IsNumberLine (codes "width") width width_line
  pub is_map : IsMapLine map_line

-- four right lines from the first on are a header
pub header_from_Leads : (lines : List (List ℕ)) (width height : ℕ) → length lines ≡ 4 → MapLeads type_due lines (rows_due width height) → HeaderOf lines width height
header_from_Leads (a ∷ b ∷ c ∷ d ∷ []) width height four (n, (is_type, type_next), type_rest) =
    on_height (subst (λ due. MapLeads due (b ∷ c ∷ d ∷ []) (rows_due width height)) type_next type_rest)
  where
    on_map : (h w : ℕ) → IsNumberLine (codes "height") h b → IsNumberLine (codes "width") w c → MapLeads (map_due w h) (d ∷ []) (rows_due width height)
        → HeaderOf (a ∷ b ∷ c ∷ d ∷ []) width height
    on_map h w is_height is_width (n, (is_map, map_next), last) =
        let same : rows_due width height ≡ rows_due w h = last ∙ map_next in
        let height_is : h ≡ height = cc in
        let width_is : w ≡ width = cc in
        record {
          type_line = a;
          height_line = b;
          width_line = c;
          map_line = d;
          are = refl;
          is_type = is_type;
          is_height = subst (λ x. IsNumberLine (codes "height") x b) height_is is_height;
          is_width = subst (λ x. IsNumberLine (codes "width") x c) width_is is_width;
          is_map = is_map;
        }

    on_width : (h : ℕ) → IsNumberLine (codes "height") h b → MapLeads (width_due h) (c ∷ d ∷ []) (rows_due width height) → HeaderOf (a ∷ b ∷ c ∷ d ∷ []) width height
    on_width h is_height (n, (w, is_width, size, width_next), rest) =
        on_map h w is_height is_width (subst (λ due. MapLeads due (d ∷ []) (rows_due width height)) width_next rest)

    on_height : MapLeads height_due (b ∷ c ∷ d ∷ []) (rows_due width height) → HeaderOf (a ∷ b ∷ c ∷ d ∷ []) width height
    on_height (n, (h, is_height, limits, height_next), rest) =
        on_width h is_height (subst (λ due. MapLeads due (c ∷ d ∷ []) (rows_due width height)) height_next rest)
header_from_Leads [] width height four h = absurd (omega (arith, four))
header_from_Leads (a ∷ []) width height four h = absurd (omega (arith, four))
header_from_Leads (a ∷ b ∷ []) width height four h = absurd (omega (arith, four))
header_from_Leads (a ∷ b ∷ c ∷ []) width height four h = absurd (omega (arith, four))
header_from_Leads (a ∷ b ∷ c ∷ d ∷ e ∷ lines) width height four h = absurd (omega (arith, four))

-- the rows with these characters have their terrain
AreRows-from_characters : (width : ℕ) (characters : List ℕ) (lines : List (List ℕ)) → HaveRows width characters lines → AreRows width (map kind_of characters) lines
AreRows-from_characters width characters [] none = ap (map kind_of) none
AreRows-from_characters width characters (line ∷ lines) (row, rest, is, count, terrain, bytes, others) = (
  map kind_of row,
  map kind_of rest,
  ap (map kind_of) is ∙ map-append kind_of row rest,
  length-map row kind_of ∙ count,
  subst (λ cs. IsRowOf cs line) (sym (map-character_of-kind row terrain)) bytes,
  AreRows-from_characters width rest lines others,
)

-- as many characters as cells, and all of them terrain
pub length-rows : (width : ℕ) (characters : List ℕ) (lines : List (List ℕ)) → HaveRows width characters lines → length characters ≡ width * length lines
length-rows width characters [] none = ap length none ∙ sym (mul-zero width)
length-rows width characters (line ∷ lines) (row, rest, is, count, terrain, bytes, others) =
    let whole : length characters ≡ length row + length rest = ap length is ∙ length-append row rest in
    omega (arith, whole, count, length-rows width rest lines others, mul-suc width (length lines))

pub terrain_of_rows : (width : ℕ) (characters : List ℕ) (lines : List (List ℕ)) → HaveRows width characters lines → IsTrue (list_all is_terrain characters)
terrain_of_rows width characters [] none = ap (list_all is_terrain) none
terrain_of_rows width characters (line ∷ lines) (row, rest, is, count, terrain, bytes, others) =
    ap (list_all is_terrain) is ∙ list_all-append is_terrain row rest ∙ ap (λ t. t && list_all is_terrain rest) terrain ∙ terrain_of_rows width rest lines others

-- right lines after the last row are blank
pub blank_from_Leads : (width last : ℕ) (lines : List (List ℕ)) → MapLeads (rows_due width zero) lines (rows_due last zero)
    → AllByRecursion (λ line. IsTrue (list_all is_rest_byte line)) lines
blank_from_Leads width last [] h = tt
blank_from_Leads width last (line ∷ lines) (next, (blank, e), rest) =
    (blank, blank_from_Leads width last lines (subst (λ due. MapLeads due lines (rows_due last zero)) e rest))

-- the lines of a header, of rows and of blank rest spell the map
pub map_of_lines : (text : List ℕ) (header rows rest : List (List ℕ)) (width height : ℕ) (characters : List ℕ) → lines_of text ≡ (header ++ rows) ++ rest
    → HeaderOf header width height → IsSize width height → HaveRows width characters rows → length rows ≡ height
    → AllByRecursion (λ line. IsTrue (list_all is_rest_byte line)) rest → MapText (record { width = width; height = height; terrain = map kind_of characters }) text
map_of_lines text header rows rest width height characters is h size have count blank = record {
  type_line = h.type_line;
  height_line = h.height_line;
  width_line = h.width_line;
  map_line = h.map_line;
  rows = rows;
  rest = rest;
  lines = is ∙ ap (λ l. (l ++ rows) ++ rest) h.are;
  is_type = h.is_type;
  is_height = h.is_height;
  is_width = h.is_width;
  is_map = h.is_map;
  count = count;
  are_rows = AreRows-from_characters width characters rows have;
  are_blank = blank;
  within = record { size = size; cells = length-map characters kind_of ∙ length-rows width characters rows have ∙ ap (λ n. width * n) count };
}

-- ---- what was delivered

-- the number of a line counts from the text's beginning
number_of_line : (before : List (List ℕ)) → number_after 0 before ≡ line_number before
number_of_line before = let none : 0 + length before + 1 ≡ length before + 1 = omega arith in ap (λ n. min n greatest) none

module _ {R : Type 0} {ahead : ℕ} (remaining : R → Option (List ℕ)) (old new : Source R ahead) (fresh : at_hand old ≡ []) (goes_on : GoesOn old) where
  -- what was delivered is what was taken, and what is at hand
  delivered_is : (taken : List ℕ) → (p : Takes remaining old new taken) → p.read ≡ taken ++ at_hand new
  delivered_is taken p = ap (λ l. l ++ p.read) (sym fresh) ∙ p.in_order

  spent_at_end : (taken : List ℕ) → Takes remaining old new taken → IsAtEnd new → IsSpent (remaining (source_reader new).inner)
  spent_at_end taken p end = spent (has_ended old) (has_ended new) _ _ (not_ended old.stop goes_on) end.0 p.ends

  delivered_at_end : (taken : List ℕ) → (p : Takes remaining old new taken) → IsAtEnd new → p.read ≡ taken
  delivered_at_end taken p end = delivered_is taken p ∙ ap (λ l. taken ++ l) end.1 ∙ append-nil taken

  no_failure : (taken : List ℕ) → Takes remaining old new taken → has_failed new ≡ false → (source_reader new).failures ≡ (source_reader old).failures
  no_failure taken p well = same_failures (has_failed old) (has_failed new) _ _ (has_failed-goes_on remaining old goes_on) well p.fails

  -- a fault at a byte
  fault_at_byte : (f : MapFault) (before : List (List ℕ)) (line : List ℕ) (due : MapDue) (place : Place) (taken : List ℕ) → JudgedAt by_input place before line taken
      → MapLeads type_due before due → HasMapFault f place due (number_after 0 before) line → MapFaultAt f place taken
  fault_at_byte f before line due place taken judged right faulty = record {
    before = before;
    line = line;
    due = due;
    judged = judged;
    right = right;
    faulty = subst (λ n. HasMapFault f place due n line) (number_of_line before) faulty;
  }

  -- the answer of a fault
  pub reads_fault : (f : MapFault) → TakesFault remaining old new type_due 0 f
      → ReadsText MapText MapFaultAt (remaining (source_reader old).inner) (remaining (source_reader new).inner) (source_reader old).failures (source_reader new).failures (is_fault f)
  reads_fault f q = on q.place q.taken q.faulty
    where
      on : (place : Place) → TakesUpTo remaining old new place q.before q.line → HasMapFault f place q.due (number_after 0 q.before) q.line
          → ReadsText MapText MapFaultAt (remaining (source_reader old).inner) (remaining (source_reader new).inner) (source_reader old).failures (source_reader new).failures (is_fault f)
      on at_line_feed p faulty = record {
        delivered = p.read;
        consumed = p.delivered;
        answer = inl (
          _,
          at_hand new,
          at_line_feed,
          delivered_is _ p,
          tt,
          fault_at_byte f q.before q.line q.due at_line_feed _
              (lines_of-whole q.before q.line q.are_lines q.is_line, ends_in_line_feed-whole (ended q.before) q.line) q.right faulty,
        );
        failures = no_failure _ p q.well;
      }
      on at_byte p faulty = record {
        delivered = p.0.read;
        consumed = p.0.delivered;
        answer = inl (
          _,
          at_hand new,
          at_byte,
          delivered_is _ p.0,
          tt,
          fault_at_byte f q.before q.line q.due at_byte _
              (lines_of-open q.before q.line q.are_lines q.is_line p.1, ends_in_line_feed-open (ended q.before) q.line q.is_line p.1) q.right faulty,
        );
        failures = no_failure _ p.0 q.well;
      }
      on at_end (end, inl p) faulty = record {
        delivered = p.0.read;
        consumed = p.0.delivered;
        answer = inr (
          subst (MapFaultAt f at_end) (sym (delivered_at_end _ p.0 end)) (fault_at_byte f q.before q.line q.due at_end _
              (inl (lines_of-open q.before q.line q.are_lines q.is_line p.1, ends_in_line_feed-open (ended q.before) q.line q.is_line p.1)) q.right faulty),
          spent_at_end _ p.0 end,
        );
        failures = no_failure _ p.0 q.well;
      }
      on at_end (end, inr (inl p, none)) faulty = record {
        delivered = p.read;
        consumed = p.delivered;
        answer = inr (
          subst (MapFaultAt f at_end) (sym (delivered_at_end _ p end)) (fault_at_byte f q.before q.line q.due at_end _
              (inr (lines_of-all q.before q.are_lines, none)) q.right faulty),
          spent_at_end _ p end,
        );
        failures = no_failure _ p q.well;
      }
      on at_end (end, inr (inr p, none)) faulty =
          let parts = AllByRecursion-append IsLine p.0 (p.1 ∷ []) (subst (AllByRecursion IsLine) p.2 q.are_lines) in
          record {
            delivered = p.4.read;
            consumed = p.4.delivered;
            answer = inr (
              subst (MapFaultAt f at_end) (sym (delivered_at_end _ p.4 end)) (fault_at_byte f q.before q.line q.due at_end _
                  (inr (lines_of-open p.0 p.1 parts.0 parts.1.0 p.3 ∙ sym p.2, none)) q.right faulty),
              spent_at_end _ p.4 end,
            );
            failures = no_failure _ p.4 q.well;
          }

  -- the answer of a failure
  reads_failure : TakesFailure remaining old new type_due
      → ReadsText MapText MapFaultAt (remaining (source_reader old).inner) (remaining (source_reader new).inner) (source_reader old).failures (source_reader new).failures is_failed
  reads_failure q =
      let stopped : is_stopped new ≡ true = failed_is_stopped new.stop q.failed in
      let empty : at_hand new ≡ [] = slice_range-empty new.piece new.start new.end (new.stops_empty stopped) in
      record {
        delivered = q.taken.read;
        consumed = q.taken.delivered;
        answer = undecided q.taken.read (record {
          before = q.before;
          line = q.line;
          due = q.due;
          bytes = delivered_is _ q.taken ∙ ap (λ l. (ended q.before ++ q.line) ++ l) empty ∙ append-nil (ended q.before ++ q.line);
          are_lines = q.are_lines;
          right = q.right;
          is_open = q.is_open;
        });
        failures = more_failures (has_failed old) (has_failed new) _ _ (has_failed-goes_on remaining old goes_on) q.failed q.taken.fails;
      }

  reads_refusal : TakesRefusal remaining old new
      → ReadsText MapText MapFaultAt (remaining (source_reader old).inner) (remaining (source_reader new).inner) (source_reader old).failures (source_reader new).failures is_refused
  reads_refusal q = record { delivered = q.taken.read; consumed = q.taken.delivered; answer = tt; failures = no_failure _ q.taken q.well }

  -- the answer of a stop
  pub reads_stop : (f : MapFault) → StopsReading remaining old new type_due 0 f
      → ReadsText MapText MapFaultAt (remaining (source_reader old).inner) (remaining (source_reader new).inner) (source_reader old).failures (source_reader new).failures (map_outcome (Err f))
  reads_stop (BadHeader at) q = reads_fault (BadHeader at) q
  reads_stop (BadNumber at) q = reads_fault (BadNumber at) q
  reads_stop (TooLarge at) q = reads_fault (TooLarge at) q
  reads_stop (BadTerrain at column) q = reads_fault (BadTerrain at column) q
  reads_stop (ShortRow at) q = reads_fault (ShortRow at) q
  reads_stop (LongRow at) q = reads_fault (LongRow at) q
  reads_stop (MissingRows at) q = reads_fault (MissingRows at) q
  reads_stop (TextAfter at) q = reads_fault (TextAfter at) q
  reads_stop ReadFailed q = reads_failure q
  reads_stop OutOfMemory q = reads_refusal q

  -- the answer of a whole text whose lines were taken
  pub reads_map : (m : Grid) (lines : List (List ℕ)) → AllByRecursion IsLine lines → TakesLines remaining old new lines → IsAtEnd new → has_failed new ≡ false
      → ((text : List ℕ) → lines_of text ≡ lines → MapText m text)
      → ReadsText MapText MapFaultAt (remaining (source_reader old).inner) (remaining (source_reader new).inner) (source_reader old).failures (source_reader new).failures (is_value m)
  reads_map m lines are_lines (inl p) end well spells = record {
    delivered = p.read;
    consumed = p.delivered;
    answer = (spells p.read (ap lines_of (delivered_at_end _ p end) ∙ lines_of-all lines are_lines), spent_at_end _ p end);
    failures = no_failure _ p well;
  }
  reads_map m lines are_lines (inr p) end well spells =
      let parts = AllByRecursion-append IsLine p.0 (p.1 ∷ []) (subst (AllByRecursion IsLine) p.2 are_lines) in
      record {
        delivered = p.4.read;
        consumed = p.4.delivered;
        answer = (spells p.4.read (ap lines_of (delivered_at_end _ p.4 end) ∙ lines_of-open p.0 p.1 parts.0 parts.1.0 p.3 ∙ sym p.2), spent_at_end _ p.4 end);
        failures = no_failure _ p.4 well;
      }

-- ---- the reader stays the same

module _ {R : Type 0} {ahead : ℕ} (remaining : R → Option (List ℕ)) (old new : Source R ahead) where
  pub same_reader_of_lines : (lines : List (List ℕ)) → TakesLines remaining old new lines → new.reader.ghost_name ≡ old.reader.ghost_name
  same_reader_of_lines lines (inl p) = p.same_reader
  same_reader_of_lines lines (inr p) = p.4.same_reader

  same_reader_up_to : (place : Place) (before : List (List ℕ)) (line : List ℕ) → TakesUpTo remaining old new place before line → new.reader.ghost_name ≡ old.reader.ghost_name
  same_reader_up_to at_line_feed before line p = p.same_reader
  same_reader_up_to at_byte before line p = p.0.same_reader
  same_reader_up_to at_end before line (end, inl p) = p.0.same_reader
  same_reader_up_to at_end before line (end, inr p) = same_reader_of_lines before p.0

  pub same_reader_of_stop : (due : MapDue) (skipped : ℕ) (f : MapFault) → StopsReading remaining old new due skipped f → new.reader.ghost_name ≡ old.reader.ghost_name
  same_reader_of_stop due skipped (BadHeader at) q = same_reader_up_to q.place q.before q.line q.taken
  same_reader_of_stop due skipped (BadNumber at) q = same_reader_up_to q.place q.before q.line q.taken
  same_reader_of_stop due skipped (TooLarge at) q = same_reader_up_to q.place q.before q.line q.taken
  same_reader_of_stop due skipped (BadTerrain at column) q = same_reader_up_to q.place q.before q.line q.taken
  same_reader_of_stop due skipped (ShortRow at) q = same_reader_up_to q.place q.before q.line q.taken
  same_reader_of_stop due skipped (LongRow at) q = same_reader_up_to q.place q.before q.line q.taken
  same_reader_of_stop due skipped (MissingRows at) q = same_reader_up_to q.place q.before q.line q.taken
  same_reader_of_stop due skipped (TextAfter at) q = same_reader_up_to q.place q.before q.line q.taken
  same_reader_of_stop due skipped ReadFailed q = q.taken.same_reader
  same_reader_of_stop due skipped OutOfMemory q = q.taken.same_reader

-- ---- the three parts of a text

-- the rows that were taken are right
pub rows_right : {R : Type 0} {ahead : ℕ} (remaining : R → Option (List ℕ)) (old new : Source R ahead) (width height : ℕ) (characters : List ℕ)
    → (p : TakesRows remaining old new width height characters) → TakesRight remaining old new (rows_due width height) (rows_due width zero) p.lines
rows_right remaining old new width height characters p = record {
  are_lines = p.are_lines;
  right = MapLeads-rows width characters p.lines height zero p.rows (let count = p.length_is in omega (arith, count));
  taken = p.taken;
  well = p.well;
}
