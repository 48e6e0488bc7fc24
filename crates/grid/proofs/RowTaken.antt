-- A row that the reader of a map takes, or the fault in it.
use Rattle.std.proofs.Common.{◌≡◌, ℕ, suc, ◌+◌, ◌<◌, ◌≤◌, true, false, List, [], ◌∷◌, ◌++◌, length, refl, sym, ap, subst, ◌∙◌, inl, inr, arith, append_assoc, append-nil, length-append, min}
use Rattle.std.specs.Prelude.{Option, IsTrue, ◌&&◌}
use Rattle.std.specs.List.{list_all}
use Rattle.std.proofs.lemmas.Bool.{and_parts, true_from_ne_false}
use Rattle.std.proofs.lemmas.List.Folds.{list_all-append}
use Rattle.text_io.specs.declared.source.Source.{Source}
use Rattle.grid.specs.declared.map_fault.MapFault.{MapFault}
use Rattle.grid.specs.declared.map_fault.MapFault.TheVariants.{BadHeader, BadNumber, TooLarge, BadTerrain, ShortRow, LongRow, MissingRows, TextAfter, ReadFailed, OutOfMemory}
use Rattle.grid.specs.declared.map_reader.LineEnd.TheVariants.{Line, Input, Other, Failure}
use Rattle.text_io.specs.Counted.{greatest}
use Rattle.text_io.specs.Text.{line_feed, carriage_return, is_line_byte, IsLine}
use Rattle.grid.specs.Terrain.{is_terrain}
use Rattle.text_io.specs.Source.{at_hand, is_stopped, GoesOn, Takes}
use Rattle.text_io.specs.Reading.{at_line_feed, at_byte, at_end}
use Rattle.grid.specs.MapText.{IsRowOf}
use Rattle.grid.specs.MapFault.{rows_due}
use Rattle.grid.specs.Code.Following.{number_after, TakesFault, TakesFailure, StopsReading, HasNoTerrain, IsRowEnd, TakesOther, EndsRow, StopsRow, TakesRow}
use Rattle.text_io.specs.Laws.Lines.{is_line_byte-from, differs}
use Rattle.text_io.specs.Laws.Taking.{Takes-trans, Takes-then_none, slice_range-empty, has_failed-goes_on, has_failed-at_end}

-- terrain characters are bytes of a line
pub terrain_is_line : (row : List ℕ) → IsTrue (list_all is_terrain row) → IsLine row
terrain_is_line [] h = refl
terrain_is_line (b ∷ row) h =
    let both = and_parts (is_terrain b) (list_all is_terrain row) h in
    ap (λ t. t && list_all is_line_byte row) (is_line_byte-from b (differs is_terrain line_feed b refl both.0)) ∙ terrain_is_line row both.1

both_lines : (first second : List ℕ) → IsLine first → IsLine second → IsLine (first ++ second)
both_lines first second p q = list_all-append is_line_byte first second ∙ ap (λ t. t && list_all is_line_byte second) p ∙ q

row_end_is_line : (ending : List ℕ) → IsRowEnd ending → IsLine ending
row_end_is_line ending (inl e) = subst IsLine (sym e) refl
row_end_is_line ending (inr e) = subst IsLine (sym e) refl

-- the characters and their end are the line of a row
row_of_end : (row ending : List ℕ) → IsRowEnd ending → IsRowOf row (row ++ ending)
row_of_end row ending (inl e) = inl (ap (λ l. row ++ l) e ∙ append-nil row)
row_of_end row ending (inr e) = inr (ap (λ l. row ++ l) e)

long_enough : (row ending : List ℕ) → 0 < length ending → 0 < length (row ++ ending)
long_enough row ending some = omega (arith, length-append row ending)

byte_is_line : (b : ℕ) → IsTrue (is_line_byte b) → IsLine (b ∷ [])
byte_is_line b h = ap (λ t. t && true) h

some_line : (line : List ℕ) → 0 < length line → line ≡ [] → ⊥
some_line line some none = let zero_long : length line ≡ 0 = ap length none in absurd (omega (arith, zero_long, some))

pub length_zero : (line : List ℕ) → length line ≡ 0 → line ≡ []
length_zero [] h = refl
length_zero (b ∷ line) h = absurd (let bad : suc (length line) ≡ 0 = h in omega (arith, bad))

-- the number of the first line that is due
pub number_is : (number skipped : ℕ) → number ≡ min (skipped + 1) greatest → number ≡ number_after skipped []
number_is number skipped e = let none : skipped + 1 ≡ skipped + 0 + 1 = omega arith in e ∙ ap (λ n. min n greatest) none

module _ {R : Type 0} {ahead : ℕ} (remaining : R → Option (List ℕ)) (old mid new : Source R ahead) (row : List ℕ) (taken : Takes remaining old mid row)
    (terrain : IsTrue (list_all is_terrain row)) where
  -- the characters, and what ends them
  taken_line : (ending : List ℕ) → Takes remaining mid new (ending ++ line_feed ∷ []) → Takes remaining old new ((row ++ ending) ++ line_feed ∷ [])
  taken_line ending p = subst (Takes remaining old new) (sym (append_assoc row ending (line_feed ∷ []))) (Takes-trans remaining old mid new row _ taken p)

  -- a whole row
  pub row_ended : (width : ℕ) → length row ≡ width → EndsRow remaining mid new Line → TakesRow remaining old new width row
  row_ended width count (ending, is_end, how) = record {
    line = row ++ ending;
    is_line = both_lines row ending (terrain_is_line row terrain) (row_end_is_line ending is_end);
    bytes = row_of_end row ending is_end;
    count = count;
    terrain = terrain;
    taken = elim how [
      | inl a ↦ inl (subst (Takes remaining old new) (sym (append-nil ((row ++ ending) ++ line_feed ∷ []))) (taken_line ending a.0))
      | inr a ↦ inr ([], row ++ ending, refl, long_enough row ending a.1, Takes-trans remaining old mid new row ending taken a.0, a.2)
    ];
    well = elim how [ inl a ↦ has_failed-goes_on remaining new a.1 | inr a ↦ has_failed-at_end remaining new a.2 ];
  }

  -- a whole row, which the end of the input ended
  pub row_at_end : (width : ℕ) → length row ≡ width → 0 < width → EndsRow remaining mid new Input → TakesRow remaining old new width row
  row_at_end width count some p = record {
    line = row;
    is_line = terrain_is_line row terrain;
    bytes = inl refl;
    count = count;
    terrain = terrain;
    taken = inr ([], row, refl, omega (arith, count, some), Takes-then_none remaining old mid new row taken p.0, p.1);
    well = has_failed-at_end remaining new p.1;
  }

  -- the reader failed in the row
  pub row_failed : (width count : ℕ) → length row ≤ width → EndsRow remaining mid new Failure → TakesFailure remaining old new (rows_due width (suc count))
  row_failed width count fits p = record {
    before = [];
    line = row ++ p.0;
    due = rows_due width (suc count);
    are_lines = tt;
    right = refl;
    is_open = (row, fits, terrain, row_of_end row p.0 p.1);
    taken = Takes-trans remaining old mid new row p.0 taken p.2;
    failed = p.3;
  }

  -- a row that is whole goes on
  pub row_long : (width count skipped number : ℕ) → length row ≡ width → number ≡ number_after skipped [] → EndsRow remaining mid new Other
      → TakesFault remaining old new (rows_due width (suc count)) skipped (LongRow number)
  row_long width count skipped number whole e (b, is_byte, goes_on, how) = elim how [
    | inl a ↦ record {
      before = [];
      line = row ++ b ∷ [];
      due = rows_due width (suc count);
      place = at_byte;
      are_lines = tt;
      is_line = both_lines row (b ∷ []) (terrain_is_line row terrain) (byte_is_line b is_byte);
      right = refl;
      faulty = (e, refl, width, (count, refl), row, record { whole = whole; terrain = terrain }, inl (b, refl, a.1));
      taken = (Takes-trans remaining old mid new row _ taken a.0, long_enough row (b ∷ []) (omega arith));
      well = has_failed-goes_on remaining new goes_on;
    }
    | inr a ↦ record {
      before = [];
      line = row ++ carriage_return ∷ b ∷ [];
      due = rows_due width (suc count);
      place = at_byte;
      are_lines = tt;
      is_line = both_lines row (carriage_return ∷ b ∷ []) (terrain_is_line row terrain) (byte_is_line b is_byte);
      right = refl;
      faulty = (e, refl, width, (count, refl), row, record { whole = whole; terrain = terrain }, inr (b, refl));
      taken = (Takes-trans remaining old mid new row _ taken a, long_enough row (carriage_return ∷ b ∷ []) (omega arith));
      well = has_failed-goes_on remaining new goes_on;
    }
  ]

  -- a byte that came where no terrain could come is none
  next_is_none : (b : ℕ) → HasNoTerrain mid → Takes remaining mid new (b ∷ []) → is_terrain b ≡ false
  next_is_none b (inl stopped) p =
      let stop : is_stopped mid ≡ true = true_from_ne_false (is_stopped mid) stopped in
      let empty : at_hand mid ≡ [] = slice_range-empty mid.piece mid.start mid.end (mid.stops_empty stop) in
      let nothing : b ∷ at_hand new ≡ [] = sym p.in_order ∙ ap (λ l. l ++ p.read) empty ∙ (p.stays stop).0 in
      absurd (let zero_long : suc (length (at_hand new)) ≡ 0 = ap length nothing in omega (arith, zero_long))
  next_is_none b (inr (x, rest, is, none)) p =
      let front : x ∷ (rest ++ p.read) ≡ b ∷ at_hand new = ap (λ l. l ++ p.read) (sym is) ∙ p.in_order in
      let same : x ≡ b = cc in
      ap is_terrain (sym same) ∙ none

  -- a row that is short, and goes on with another byte
  row_other : (width rows count skipped number column : ℕ) → length row ≡ count → count < width → number ≡ number_after skipped [] → column ≡ count + 1
      → HasNoTerrain mid → TakesOther remaining mid new → TakesFault remaining old new (rows_due width (suc rows)) skipped (BadTerrain number column)
  row_other width rows count skipped number column count_is short e column_is no_terrain (b, is_byte, goes_on, how) =
      let at : column ≡ length row + 1 = omega (arith, column_is, count_is) in
      let fewer : length row < width = omega (arith, count_is, short) in
      elim how [
        | inl a ↦ record {
          before = [];
          line = row ++ b ∷ [];
          due = rows_due width (suc rows);
          place = at_byte;
          are_lines = tt;
          is_line = both_lines row (b ∷ []) (terrain_is_line row terrain) (byte_is_line b is_byte);
          right = refl;
          faulty = (e, refl, width, (rows, refl), row, record { short = fewer; terrain = terrain }, inl (b, refl, a.1, next_is_none b no_terrain a.0), at);
          taken = (Takes-trans remaining old mid new row _ taken a.0, long_enough row (b ∷ []) (omega arith));
          well = has_failed-goes_on remaining new goes_on;
        }
        | inr a ↦ record {
          before = [];
          line = row ++ carriage_return ∷ b ∷ [];
          due = rows_due width (suc rows);
          place = at_byte;
          are_lines = tt;
          is_line = both_lines row (carriage_return ∷ b ∷ []) (terrain_is_line row terrain) (byte_is_line b is_byte);
          right = refl;
          faulty = (e, refl, width, (rows, refl), row, record { short = fewer; terrain = terrain }, inr (b, refl), at);
          taken = (Takes-trans remaining old mid new row _ taken a, long_enough row (carriage_return ∷ b ∷ []) (omega arith));
          well = has_failed-goes_on remaining new goes_on;
        }
      ]

  -- a row that is short, and ends
  row_short : (width rows skipped number : ℕ) → length row < width → number ≡ number_after skipped [] → EndsRow remaining mid new Line
      → TakesFault remaining old new (rows_due width (suc rows)) skipped (ShortRow number)
  row_short width rows skipped number short e (ending, is_end, how) = elim how [
    | inl a ↦ record {
      before = [];
      line = row ++ ending;
      due = rows_due width (suc rows);
      place = at_line_feed;
      are_lines = tt;
      is_line = both_lines row ending (terrain_is_line row terrain) (row_end_is_line ending is_end);
      right = refl;
      faulty = (e, tt, width, (rows, refl), row, record { short = short; terrain = terrain }, row_of_end row ending is_end, λ other. absurd (cc));
      taken = taken_line ending a.0;
      well = has_failed-goes_on remaining new a.1;
    }
    | inr a ↦ record {
      before = [];
      line = row ++ ending;
      due = rows_due width (suc rows);
      place = at_end;
      are_lines = tt;
      is_line = both_lines row ending (terrain_is_line row terrain) (row_end_is_line ending is_end);
      right = refl;
      faulty = (e, tt, width, (rows, refl), row, record { short = short; terrain = terrain }, row_of_end row ending is_end, λ same. some_line _ (long_enough row ending a.1));
      taken = (a.2, inl (Takes-trans remaining old mid new row ending taken a.0, long_enough row ending a.1));
      well = has_failed-at_end remaining new a.2;
    }
  ]

  -- a row that the end of the input cuts short
  row_cut : (width rows skipped number : ℕ) → length row < width → 0 < length row → number ≡ number_after skipped [] → EndsRow remaining mid new Input
      → TakesFault remaining old new (rows_due width (suc rows)) skipped (ShortRow number)
  row_cut width rows skipped number short some e p = record {
    before = [];
    line = row;
    due = rows_due width (suc rows);
    place = at_end;
    are_lines = tt;
    is_line = terrain_is_line row terrain;
    right = refl;
    faulty = (e, tt, width, (rows, refl), row, record { short = short; terrain = terrain }, inl refl, λ same. some_line row some);
    taken = (p.1, inl (Takes-then_none remaining old mid new row taken p.0, some));
    well = has_failed-at_end remaining new p.1;
  }

  -- a row that the end of the input stands in place of
  row_missing : (width rows skipped number : ℕ) → row ≡ [] → number ≡ number_after skipped [] → EndsRow remaining mid new Input
      → TakesFault remaining old new (rows_due width (suc rows)) skipped (MissingRows number)
  row_missing width rows skipped number none e p = record {
    before = [];
    line = [];
    due = rows_due width (suc rows);
    place = at_end;
    are_lines = tt;
    is_line = refl;
    right = refl;
    faulty = (e, refl, width, (rows, refl), refl);
    taken = (p.1, inr (inl (subst (Takes remaining old new) none (Takes-then_none remaining old mid new row taken p.0)), refl));
    well = has_failed-at_end remaining new p.1;
  }

  no_characters : (count : ℕ) → length row ≡ count → count ≡ 0 → row ≡ []
  no_characters count e none = length_zero row (e ∙ none)

  -- why a row has no more characters is why the reader stops
  pub row_stop : (width rows count skipped number : ℕ) (fault : MapFault) → length row ≡ count → count < width → number ≡ number_after skipped []
      → HasNoTerrain mid → StopsRow remaining mid new number count fault → StopsReading remaining old new (rows_due width (suc rows)) skipped fault
  row_stop width rows count skipped number (MissingRows at) count_is short e no_terrain p =
      row_missing width rows skipped at (no_characters count count_is p.1) (p.0 ∙ e) p.2
  row_stop width rows count skipped number (ShortRow at) count_is short e no_terrain p =
      let fewer : length row < width = omega (arith, count_is, short) in
      elim p.1 [
        | inl a ↦ row_short width rows skipped at fewer (p.0 ∙ e) a
        | inr a ↦ row_cut width rows skipped at fewer (omega (arith, count_is, a.0)) (p.0 ∙ e) a.1
      ]
  row_stop width rows count skipped number (BadTerrain at column) count_is short e no_terrain p =
      row_other width rows count skipped at column count_is short (p.0 ∙ e) p.1 no_terrain p.2
  row_stop width rows count skipped number ReadFailed count_is short e no_terrain p = row_failed width rows (omega (arith, count_is, short)) p
  row_stop width rows count skipped number (BadHeader at) count_is short e no_terrain p = absurd p
  row_stop width rows count skipped number (BadNumber at) count_is short e no_terrain p = absurd p
  row_stop width rows count skipped number (TooLarge at) count_is short e no_terrain p = absurd p
  row_stop width rows count skipped number (LongRow at) count_is short e no_terrain p = absurd p
  row_stop width rows count skipped number (TextAfter at) count_is short e no_terrain p = absurd p
  row_stop width rows count skipped number OutOfMemory count_is short e no_terrain p = absurd p

-- memory was refused after the first characters
pub refused_after : {R : Type 0} {ahead : ℕ} (remaining : R → Option (List ℕ)) (old mid new : Source R ahead) (row : List ℕ) (rows skipped : ℕ) (fault : MapFault) (width : ℕ)
    → Takes remaining old mid row → (fault ≡ OutOfMemory) × GoesOn new × Takes remaining mid new []
    → StopsReading remaining old new (rows_due width (suc rows)) skipped fault
refused_after remaining old mid new row rows skipped fault width taken p = subst (StopsReading remaining old new (rows_due width (suc rows)) skipped) (sym p.0)
    (record { text = row; taken = Takes-then_none remaining old mid new row taken p.2; well = has_failed-goes_on remaining new p.1 })
