-- The lines of the header that the reader of a map takes.
use Rattle.std.proofs.Common.{◌≡◌, ℕ, List, [], ◌∷◌, refl, sym, subst, inl, inr, ◌⊎◌}
use Rattle.std.specs.Prelude.{Option}
use Rattle.text_io.specs.declared.source.Source.{Source}
use Rattle.grid.specs.declared.header_line.HeaderLine.{HeaderLine}
use Rattle.grid.specs.declared.header_line.HeaderLine.TheVariants.{TypeLine, MapLine}
use Rattle.grid.specs.declared.header_line.Saying.TheVariants.{Whole}
use Rattle.grid.specs.declared.map_fault.MapFault.{MapFault}
use Rattle.grid.specs.declared.map_fault.MapFault.TheVariants.{BadHeader, BadNumber, TooLarge, BadTerrain, ShortRow, LongRow, MissingRows, TextAfter, ReadFailed, OutOfMemory}
use Rattle.text_io.specs.Reading.{Place, at_line_feed, at_end, IsOver}
use Rattle.grid.specs.MapFault.{MapDue, type_due, height_due, map_due, rows_due, HasMapFault}
use Rattle.grid.specs.Code.HeaderLine.{saying_of}
use Rattle.text_io.specs.Text.{IsLine}
use Rattle.grid.specs.Code.Following.{IsLineOpen, TakesLine, TakesRight, number_after, TakesFault, TakesFailure, StopsReading, FailsInLine, SaysNoWords, SaysNoSize}
use Rattle.grid.proofs.HeaderLemmas.{Whole-from_type_line, type_line-from_Whole, Whole-from_map_line, map_line-from_Whole}
use Rattle.grid.proofs.HeaderJudged.{says_words}
use Rattle.grid.proofs.TakenLines.{TakesFault-line, TakesRight-line}

-- a line of the header is judged as a whole, so any beginning of it may go on
abbrev pub MayGoOn : MapDue → Type 0
MayGoOn due = (line : List ℕ) → IsLine line → IsLineOpen due line

-- words that are missing are another form
pub type_fault : (line : List ℕ) (number : ℕ) (place : Place) → IsOver place → SaysNoWords TypeLine line → HasMapFault (BadHeader number) place type_due number line
type_fault line number place over says = (refl, over, λ is_type. says (Whole-from_type_line line is_type))

pub map_fault : (width height : ℕ) (line : List ℕ) (number : ℕ) (place : Place) → IsOver place → SaysNoWords MapLine line
    → HasMapFault (BadHeader number) place (map_due width height) number line
map_fault width height line number place over says = (refl, over, λ is_map. says (Whole-from_map_line line is_map))

module _ {R : Type 0} {ahead : ℕ} (remaining : R → Option (List ℕ)) where
  -- the reader failed inside the line
  failure_in_line : (old new : Source R ahead) (due : MapDue) → MayGoOn due → FailsInLine remaining old new → TakesFailure remaining old new due
  failure_in_line old new due goes_on p = record {
    before = [];
    line = p.0;
    due = due;
    are_lines = tt;
    right = refl;
    is_open = goes_on p.0 p.1;
    taken = p.2;
    failed = p.3;
  }

  -- a line without its words stops the reader
  pub words_stop : (old new : Source R ahead) (due : MapDue) (kind : HeaderLine) (skipped number : ℕ) (fault : MapFault) → MayGoOn due
      → ((line : List ℕ) (place : Place) → IsOver place → SaysNoWords kind line → HasMapFault (BadHeader number) place due number line)
      → number ≡ number_after skipped []
      → ((fault ≡ ReadFailed) × FailsInLine remaining old new) ⊎ ((fault ≡ BadHeader number) × (bytes : List ℕ) × TakesLine remaining old new bytes × SaysNoWords kind bytes)
      → StopsReading remaining old new due skipped fault
  words_stop old new due kind skipped number fault goes_on wrong e (inl p) =
      subst (StopsReading remaining old new due skipped) (sym p.0) (failure_in_line old new due goes_on p.1)
  words_stop old new due kind skipped number fault goes_on wrong e (inr p) =
      subst (StopsReading remaining old new due skipped) (sym p.0)
      (TakesFault-line remaining old new due skipped p.1 (BadHeader number) p.2
      (subst (λ n. HasMapFault (BadHeader number) at_line_feed due n p.1) e (wrong p.1 at_line_feed tt p.3))
      (subst (λ n. HasMapFault (BadHeader number) at_end due n p.1) e (wrong p.1 at_end tt p.3)))

  -- a line without its size stops the reader
  module _ (old new : Source R ahead) (due : MapDue) (kind : HeaderLine) (most skipped number : ℕ) (goes_on : MayGoOn due)
      (wrong : (line : List ℕ) (f : MapFault) (place : Place) → IsOver place → SaysNoSize kind most number line f → HasMapFault f place due number line)
      (e : number ≡ number_after skipped []) where
    faulty_size : (fault : MapFault) (line : List ℕ) → TakesLine remaining old new line → SaysNoSize kind most number line fault → TakesFault remaining old new due skipped fault
    faulty_size fault line takes says = TakesFault-line remaining old new due skipped line fault takes
        (subst (λ n. HasMapFault fault at_line_feed due n line) e (wrong line fault at_line_feed tt says))
        (subst (λ n. HasMapFault fault at_end due n line) e (wrong line fault at_end tt says))

    size_fault : (fault : MapFault) (line : List ℕ) → TakesLine remaining old new line → SaysNoSize kind most number line fault
        → StopsReading remaining old new due skipped fault
    size_fault (BadHeader at) line takes says = faulty_size (BadHeader at) line takes says
    size_fault (BadNumber at) line takes says = faulty_size (BadNumber at) line takes says
    size_fault (TooLarge at) line takes says = faulty_size (TooLarge at) line takes says
    size_fault (BadTerrain at column) line takes says = absurd says
    size_fault (ShortRow at) line takes says = absurd says
    size_fault (LongRow at) line takes says = absurd says
    size_fault (MissingRows at) line takes says = absurd says
    size_fault (TextAfter at) line takes says = absurd says
    size_fault ReadFailed line takes says = absurd says
    size_fault OutOfMemory line takes says = absurd says

    pub size_stop : (fault : MapFault)
        → ((fault ≡ ReadFailed) × FailsInLine remaining old new) ⊎ ((bytes : List ℕ) × TakesLine remaining old new bytes × SaysNoSize kind most number bytes fault)
        → StopsReading remaining old new due skipped fault
    size_stop fault (inl p) = subst (StopsReading remaining old new due skipped) (sym p.0) (failure_in_line old new due goes_on p.1)
    size_stop fault (inr p) = size_fault fault p.0 p.1 p.2

  -- a line with its words is right
  pub type_right : (old new : Source R ahead) (line : List ℕ) → TakesLine remaining old new line → saying_of TypeLine line ≡ Whole
      → TakesRight remaining old new type_due height_due (line ∷ [])
  type_right old new line takes says =
      TakesRight-line remaining old new type_due height_due line takes (type_line-from_Whole line says, refl) (says_words TypeLine line says)

  pub map_right : (old new : Source R ahead) (width height : ℕ) (line : List ℕ) → TakesLine remaining old new line → saying_of MapLine line ≡ Whole
      → TakesRight remaining old new (map_due width height) (rows_due width height) (line ∷ [])
  map_right old new width height line takes says =
      TakesRight-line remaining old new (map_due width height) (rows_due width height) line takes (map_line-from_Whole line says, refl) (says_words MapLine line says)
