-- The blank lines that the reader of a map takes after the last row.
use Rattle.std.proofs.Common.{◌≡◌, ℕ, zero, ◌+◌, true, false, List, [], ◌∷◌, ◌++◌, length, refl, sym, ap, subst, ◌∙◌, inl, inr, arith, append_assoc, append-nil, length-append, min}
use Rattle.std.specs.Prelude.{Option, IsTrue, ◌&&◌}
use Rattle.std.specs.List.{list_all, AllByRecursion}
use Rattle.std.proofs.lemmas.List.Folds.{list_all-append}
use Rattle.std.proofs.lemmas.Bool.{and_parts}
use Rattle.text_io.specs.declared.source.Source.{Source}
use Rattle.grid.specs.declared.map_fault.MapFault.TheVariants.{TextAfter}
use Rattle.text_io.specs.Counted.{greatest}
use Rattle.text_io.specs.Text.{line_feed, is_line_byte, ended, IsLine}
use Rattle.text_io.specs.Source.{has_failed, GoesOn, Takes, IsAtEnd}
use Rattle.text_io.specs.Reading.{at_byte}
use Rattle.grid.specs.MapText.{is_rest_byte}
use Rattle.grid.specs.MapFault.{rows_due}
use Rattle.grid.specs.Code.Following.{TakesRight, number_after, TakesFault, TakesFailure, MapLeads}
use Rattle.text_io.specs.Laws.Lines.{is_line_byte-from, differs, ended_push}
use Rattle.text_io.specs.Laws.Taking.{Takes-trans, Takes-then_none, has_failed-goes_on, has_failed-at_end, is_line_byte-other}
use Rattle.grid.proofs.TakenLines.{all-append}

-- no more than blanks and CRs
abbrev pub IsBlankLine : List ℕ → Type 0
IsBlankLine line = IsTrue (list_all is_rest_byte line)

blank_is_line : (line : List ℕ) → IsBlankLine line → IsLine line
blank_is_line [] h = refl
blank_is_line (b ∷ line) h =
    let both = and_parts (is_rest_byte b) (list_all is_rest_byte line) h in
    ap (λ t. t && list_all is_line_byte line) (is_line_byte-from b (differs is_rest_byte line_feed b refl both.0)) ∙ blank_is_line line both.1

blank_are_lines : (lines : List (List ℕ)) → AllByRecursion IsBlankLine lines → AllByRecursion IsLine lines
blank_are_lines [] h = tt
blank_are_lines (line ∷ lines) h = (blank_is_line line h.0, blank_are_lines lines h.1)

-- blank lines are right after the last row
MapLeads-blank : (width : ℕ) (lines : List (List ℕ)) → AllByRecursion IsBlankLine lines → MapLeads (rows_due width zero) lines (rows_due width zero)
MapLeads-blank width [] h = refl
MapLeads-blank width (line ∷ lines) h = (rows_due width zero, (h.0, refl), MapLeads-blank width lines h.1)

pub blank_push : (line : List ℕ) (b : ℕ) → IsBlankLine line → is_rest_byte b ≡ true → IsBlankLine (line ++ b ∷ [])
blank_push line b h e = list_all-append is_rest_byte line (b ∷ []) ∙ ap (λ t. t && (is_rest_byte b && true)) h ∙ ap (λ t. t && true) e

pub blanks_push : (lines : List (List ℕ)) (line : List ℕ) → AllByRecursion IsBlankLine lines → IsBlankLine line → AllByRecursion IsBlankLine (lines ++ line ∷ [])
blanks_push lines line p q = all-append IsBlankLine lines (line ∷ []) p (q, tt)

-- the number of the line after one more
pub number_after-next : (skipped number next : ℕ) (before : List (List ℕ)) (line : List ℕ) → number ≡ number_after skipped before → next ≡ min (number + 1) greatest
    → next ≡ number_after skipped (before ++ line ∷ [])
number_after-next skipped number next before line e n =
    let len : length (before ++ line ∷ []) ≡ length before + 1 = length-append before (line ∷ []) in
    omega (arith, e, n, len)

module _ {R : Type 0} {ahead : ℕ} (remaining : R → Option (List ℕ)) (old mid new : Source R ahead) (before : List (List ℕ)) (line : List ℕ)
    (blanks : AllByRecursion IsBlankLine before) (blank : IsBlankLine line) (taken : Takes remaining old mid (ended before ++ line)) where
  -- an LF ends the line
  pub rest_line : Takes remaining mid new (line_feed ∷ []) → Takes remaining old new (ended (before ++ line ∷ []) ++ [])
  rest_line p = subst (Takes remaining old new) (append_assoc (ended before) line (line_feed ∷ []) ∙ sym (ended_push before line) ∙ sym (append-nil _))
      (Takes-trans remaining old mid new _ _ taken p)

  -- one byte more of the line
  pub rest_byte : (b : ℕ) → Takes remaining mid new (b ∷ []) → Takes remaining old new (ended before ++ (line ++ b ∷ []))
  rest_byte b p = subst (Takes remaining old new) (append_assoc (ended before) line (b ∷ [])) (Takes-trans remaining old mid new _ _ taken p)

  -- another byte is text after the rows
  pub rest_fault : (width skipped number b : ℕ) → number ≡ number_after skipped before → is_rest_byte b ≡ false → (b ≡ line_feed → ⊥) → GoesOn new
      → Takes remaining mid new (b ∷ []) → TakesFault remaining old new (rows_due width zero) skipped (TextAfter number)
  rest_fault width skipped number b e other no_feed goes_on p = record {
    before = before;
    line = line ++ b ∷ [];
    due = rows_due width zero;
    place = at_byte;
    are_lines = blank_are_lines before blanks;
    is_line = list_all-append is_line_byte line (b ∷ []) ∙ ap (λ t. t && (is_line_byte b && true)) (blank_is_line line blank) ∙ ap (λ t. t && true) (is_line_byte-other b no_feed);
    right = MapLeads-blank width before blanks;
    faulty = (e, refl, width, refl, line, b, refl, blank, other);
    taken = (rest_byte b p, omega (arith, length-append line (b ∷ [])));
    well = has_failed-goes_on remaining new goes_on;
  }

  pub rest_failed : (width : ℕ) → Takes remaining mid new [] → has_failed new ≡ true → TakesFailure remaining old new (rows_due width zero)
  rest_failed width p failed = record {
    before = before;
    line = line;
    due = rows_due width zero;
    are_lines = blank_are_lines before blanks;
    right = MapLeads-blank width before blanks;
    is_open = blank;
    taken = Takes-then_none remaining old mid new _ taken p;
    failed = failed;
  }

-- the end came after blank lines
pub rest_right : {R : Type 0} {ahead : ℕ} (remaining : R → Option (List ℕ)) (old mid new : Source R ahead) (before : List (List ℕ)) (line : List ℕ)
    → AllByRecursion IsBlankLine before → IsBlankLine line → Takes remaining old mid (ended before ++ line) → (width : ℕ) → Takes remaining mid new [] → IsAtEnd new
    → (lines : List (List ℕ)) × TakesRight remaining old new (rows_due width zero) (rows_due width zero) lines
rest_right remaining old mid new before [] blanks blank taken width p end = (
  before,
  record {
    are_lines = blank_are_lines before blanks;
    right = MapLeads-blank width before blanks;
    taken = inl (subst (Takes remaining old new) (append-nil (ended before)) (Takes-then_none remaining old mid new _ taken p));
    well = has_failed-at_end remaining new end;
  },
)
rest_right remaining old mid new before (b ∷ line) blanks blank taken width p end = (
  before ++ (b ∷ line) ∷ [],
  record {
    are_lines = blank_are_lines _ (blanks_push before (b ∷ line) blanks blank);
    right = MapLeads-blank width _ (blanks_push before (b ∷ line) blanks blank);
    taken = inr (before, b ∷ line, refl, omega arith, Takes-then_none remaining old mid new _ taken p, end);
    well = has_failed-at_end remaining new end;
  },
)
