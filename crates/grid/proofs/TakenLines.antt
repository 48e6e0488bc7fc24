-- The lines that the reader of a map takes, one after another.
use Rattle.std.proofs.Common.{◌≡◌, ℕ, suc, ◌+◌, ◌<◌, true, List, [], ◌∷◌, ◌++◌, length, Some, None, refl, sym, ap, subst, ◌∙◌, inl, inr, arith, append_assoc, append-nil, length-append, min}
use Rattle.std.specs.Prelude.{Option, is_some}
use Rattle.std.specs.List.{AllByRecursion}
use Rattle.std.proofs.lemmas.Bool.{false≢true}
use Rattle.std.proofs.lemmas.Grind.{flat_map-append}
use Rattle.text_io.specs.declared.source.Source.{Source}
use Rattle.text_io.specs.declared.source.Stop.{Stop}
use Rattle.grid.specs.declared.map_fault.MapFault.{MapFault}
use Rattle.grid.specs.declared.map_fault.MapFault.TheVariants.{BadHeader, BadNumber, TooLarge, BadTerrain, ShortRow, LongRow, MissingRows, TextAfter, ReadFailed, OutOfMemory}
use Rattle.text_io.specs.Counted.{greatest}
use Rattle.text_io.specs.Text.{line_feed, ended, IsLine}
use Rattle.text_io.specs.Source.{at_hand, is_end, Takes, IsAtEnd}
use Rattle.text_io.specs.Reading.{Place, at_line_feed, at_byte, at_end}
use Rattle.grid.specs.MapFault.{MapDue, MapFollows, HasMapFault}
use Rattle.grid.specs.Code.Following.{TakesLine, TakesLines, TakesRight, TakesUpTo, number_after, TakesFault, TakesFailure, TakesRefusal, StopsReading}
use Rattle.text_io.specs.Laws.Taking.{Takes-trans, Takes-then_none, has_failed-goes_on, has_failed-at_end}
use Rattle.grid.proofs.Judging.{MapLeads-append}

-- two lists that make none are none
append_empty : (xs ys : List ℕ) → xs ++ ys ≡ [] → (xs ≡ []) × (ys ≡ [])
append_empty [] ys h = (refl, h)
append_empty (x ∷ xs) ys h = absurd (let bad : suc (length (xs ++ ys)) ≡ 0 = ap length h in omega (arith, bad))

not_empty : (xs : List ℕ) → xs ≡ [] → 0 < length xs → ⊥
not_empty xs none some = let zero_long : length xs ≡ 0 = ap length none in absurd (omega (arith, zero_long, some))

-- the lines of both, ended
pub ended-append : (lines more : List (List ℕ)) → ended (lines ++ more) ≡ ended lines ++ ended more
ended-append lines more = flat_map-append (λ line. line ++ line_feed ∷ []) lines more

ended-before : (lines before : List (List ℕ)) (bytes : List ℕ) → ended lines ++ (ended before ++ bytes) ≡ ended (lines ++ before) ++ bytes
ended-before lines before bytes = sym (append_assoc (ended lines) (ended before) bytes) ∙ ap (λ l. l ++ bytes) (sym (ended-append lines before))

-- lines that are no bytes are none
ended_empty : (lines : List (List ℕ)) → ended lines ≡ [] → lines ≡ []
ended_empty [] h = refl
ended_empty (line ∷ lines) h =
    let first = append_empty (line ++ line_feed ∷ []) (ended lines) h in
    let feed = append_empty line (line_feed ∷ []) first.0 in
    absurd (not_empty (line_feed ∷ []) feed.1 (omega arith))

pub all-append : (P : List ℕ → Type 0) (xs ys : List (List ℕ)) → AllByRecursion P xs → AllByRecursion P ys → AllByRecursion P (xs ++ ys)
all-append P [] ys p q = q
all-append P (x ∷ xs) ys p q = (p.0, all-append P xs ys p.1 q)

end_is_stop : (stop : Option Stop) → is_end stop ≡ true → is_some stop ≡ true
end_is_stop None h = absurd (false≢true h)
end_is_stop (Some stop) h = refl

module _ {R : Type 0} {ahead : ℕ} (remaining : R → Option (List ℕ)) where
  -- past the end nothing is taken
  pub Takes-at_end : (old new : Source R ahead) (taken : List ℕ) → IsAtEnd old → Takes remaining old new taken → (taken ≡ []) × IsAtEnd new
  Takes-at_end old new taken h p =
      let same = p.stays (end_is_stop old.stop h.0) in
      let both = append_empty taken (at_hand new) (sym p.in_order ∙ ap (λ l. l ++ p.read) h.1 ∙ same.0) in
      (both.0, (ap is_end same.1 ∙ h.0, both.1))

  -- lines and then lines
  pub TakesLines-append : (old mid new : Source R ahead) (lines more : List (List ℕ)) → TakesLines remaining old mid lines → TakesLines remaining mid new more
      → TakesLines remaining old new (lines ++ more)
  TakesLines-append old mid new lines more p q = elim p [
    | inl a ↦ elim q [
      | inl b ↦ inl (subst (Takes remaining old new) (sym (ended-append lines more)) (Takes-trans remaining old mid new _ _ a b))
      | inr b ↦ inr (
        lines ++ b.0,
        b.1,
        ap (λ l. lines ++ l) b.2 ∙ sym (append_assoc lines b.0 (b.1 ∷ [])),
        b.3,
        subst (Takes remaining old new) (ended-before lines b.0 b.1) (Takes-trans remaining old mid new _ _ a b.4),
        b.5,
      )
    ]
    | inr a ↦ elim q [
      | inl b ↦
          let past = Takes-at_end mid new (ended more) a.5 b in
          let none = ended_empty more past.0 in
          inr (
            a.0,
            a.1,
            ap (λ l. lines ++ l) none ∙ append-nil lines ∙ a.2,
            a.3,
            Takes-then_none remaining old mid new _ a.4 (subst (Takes remaining mid new) past.0 b),
            past.1,
          )
      | inr b ↦
          let past = Takes-at_end mid new (ended b.0 ++ b.1) a.5 b.4 in
          absurd (not_empty b.1 (append_empty (ended b.0) b.1 past.0).1 b.3)
    ]
  ]

  -- lines, and then the bytes up to a place
  pub TakesUpTo-after : (old mid new : Source R ahead) (lines : List (List ℕ)) (place : Place) (before : List (List ℕ)) (line : List ℕ)
      → TakesLines remaining old mid lines → TakesUpTo remaining mid new place before line → TakesUpTo remaining old new place (lines ++ before) line
  TakesUpTo-after old mid new lines at_line_feed before line p q = elim p [
    | inl a ↦ subst (Takes remaining old new) (ended-before lines before (line ++ line_feed ∷ [])) (Takes-trans remaining old mid new _ _ a q)
    | inr a ↦
        let past = Takes-at_end mid new _ a.5 q in
        let feed = append_empty line (line_feed ∷ []) (append_empty (ended before) (line ++ line_feed ∷ []) past.0).1 in
        absurd (not_empty (line_feed ∷ []) feed.1 (omega arith))
  ]
  TakesUpTo-after old mid new lines at_byte before line p q = elim p [
    | inl a ↦ (subst (Takes remaining old new) (ended-before lines before line) (Takes-trans remaining old mid new _ _ a q.0), q.1)
    | inr a ↦
        let past = Takes-at_end mid new _ a.5 q.0 in
        absurd (not_empty line (append_empty (ended before) line past.0).1 q.1)
  ]
  TakesUpTo-after old mid new lines at_end before line p q = (
    q.0,
    elim q.1 [
      | inl b ↦ elim p [
        | inl a ↦ inl (subst (Takes remaining old new) (ended-before lines before line) (Takes-trans remaining old mid new _ _ a b.0), b.1)
        | inr a ↦
            let past = Takes-at_end mid new _ a.5 b.0 in
            absurd (not_empty line (append_empty (ended before) line past.0).1 b.1)
      ]
      | inr b ↦ inr (TakesLines-append old mid new lines before p b.0, b.1)
    ],
  )

  -- right lines, and then more of them
  pub TakesRight-append : (old mid new : Source R ahead) (first middle last : MapDue) (lines more : List (List ℕ)) → TakesRight remaining old mid first middle lines
      → TakesRight remaining mid new middle last more → TakesRight remaining old new first last (lines ++ more)
  TakesRight-append old mid new first middle last lines more p q = record {
    are_lines = all-append IsLine lines more p.are_lines q.are_lines;
    right = MapLeads-append first lines middle more last p.right q.right;
    taken = TakesLines-append old mid new lines more p.taken q.taken;
    well = q.well;
  }

  -- right lines, and then a fault
  TakesFault-after : (old mid new : Source R ahead) (first middle : MapDue) (lines : List (List ℕ)) (skipped passed : ℕ) (f : MapFault)
      → passed ≡ skipped + length lines → TakesRight remaining old mid first middle lines → TakesFault remaining mid new middle passed f
      → TakesFault remaining old new first skipped f
  TakesFault-after old mid new first middle lines skipped passed f e p q = record {
    before = lines ++ q.before;
    line = q.line;
    due = q.due;
    place = q.place;
    are_lines = all-append IsLine lines q.before p.are_lines q.are_lines;
    is_line = q.is_line;
    right = MapLeads-append first lines middle q.before q.due p.right q.right;
    faulty =
        let number : passed + length q.before + 1 ≡ skipped + length (lines ++ q.before) + 1 = omega (arith, e, length-append lines q.before) in
        subst (λ n. HasMapFault f q.place q.due n q.line) (ap (λ n. min n greatest) number) q.faulty;
    taken = TakesUpTo-after old mid new lines q.place q.before q.line p.taken q.taken;
    well = q.well;
  }

  TakesFailure-after : (old mid new : Source R ahead) (first middle : MapDue) (lines : List (List ℕ)) → TakesRight remaining old mid first middle lines
      → TakesFailure remaining mid new middle → TakesFailure remaining old new first
  TakesFailure-after old mid new first middle lines p q = record {
    before = lines ++ q.before;
    line = q.line;
    due = q.due;
    are_lines = all-append IsLine lines q.before p.are_lines q.are_lines;
    right = MapLeads-append first lines middle q.before q.due p.right q.right;
    is_open = q.is_open;
    taken = elim p.taken [
      | inl a ↦ subst (Takes remaining old new) (ended-before lines q.before q.line) (Takes-trans remaining old mid new _ _ a q.taken)
      | inr a ↦
          let past = Takes-at_end mid new _ a.5 q.taken in
          absurd (false≢true (sym (has_failed-at_end remaining new past.1) ∙ q.failed))
    ];
    failed = q.failed;
  }

  TakesRefusal-after : (old mid new : Source R ahead) (lines : List (List ℕ)) → TakesLines remaining old mid lines → TakesRefusal remaining mid new
      → TakesRefusal remaining old new
  TakesRefusal-after old mid new lines p q = elim p [
    | inl a ↦ record { text = ended lines ++ q.text; taken = Takes-trans remaining old mid new _ _ a q.taken; well = q.well }
    | inr a ↦ record { text = (ended a.0 ++ a.1) ++ q.text; taken = Takes-trans remaining old mid new _ _ a.4 q.taken; well = q.well }
  ]

  -- right lines, and then a stop
  pub StopsReading-after : (old mid new : Source R ahead) (first middle : MapDue) (lines : List (List ℕ)) (skipped passed : ℕ) (f : MapFault)
      → passed ≡ skipped + length lines → TakesRight remaining old mid first middle lines → StopsReading remaining mid new middle passed f
      → StopsReading remaining old new first skipped f
  StopsReading-after old mid new first middle lines skipped passed (BadHeader at) e p q = TakesFault-after old mid new first middle lines skipped passed _ e p q
  StopsReading-after old mid new first middle lines skipped passed (BadNumber at) e p q = TakesFault-after old mid new first middle lines skipped passed _ e p q
  StopsReading-after old mid new first middle lines skipped passed (TooLarge at) e p q = TakesFault-after old mid new first middle lines skipped passed _ e p q
  StopsReading-after old mid new first middle lines skipped passed (BadTerrain at column) e p q = TakesFault-after old mid new first middle lines skipped passed _ e p q
  StopsReading-after old mid new first middle lines skipped passed (ShortRow at) e p q = TakesFault-after old mid new first middle lines skipped passed _ e p q
  StopsReading-after old mid new first middle lines skipped passed (LongRow at) e p q = TakesFault-after old mid new first middle lines skipped passed _ e p q
  StopsReading-after old mid new first middle lines skipped passed (MissingRows at) e p q = TakesFault-after old mid new first middle lines skipped passed _ e p q
  StopsReading-after old mid new first middle lines skipped passed (TextAfter at) e p q = TakesFault-after old mid new first middle lines skipped passed _ e p q
  StopsReading-after old mid new first middle lines skipped passed ReadFailed e p q = TakesFailure-after old mid new first middle lines p q
  StopsReading-after old mid new first middle lines skipped passed OutOfMemory e p q = TakesRefusal-after old mid new lines p.taken q

  -- a right line
  pub TakesRight-line : (old new : Source R ahead) (due next : MapDue) (line : List ℕ) → TakesLine remaining old new line → MapFollows due line next → 0 < length line
      → TakesRight remaining old new due next (line ∷ [])
  TakesRight-line old new due next line p follows some = record {
    are_lines = (p.0, tt);
    right = (next, follows, refl);
    taken = elim p.1 [
      | inl a ↦ inl (subst (Takes remaining old new) (sym (append-nil (line ++ line_feed ∷ []))) a.0)
      | inr a ↦ inr ([], line, refl, some, a.0, a.1)
    ];
    well = elim p.1 [ inl a ↦ has_failed-goes_on remaining new a.1 | inr a ↦ has_failed-at_end remaining new a.1 ];
  }

  -- a line that is judged as a whole
  pub TakesFault-line : (old new : Source R ahead) (due : MapDue) (skipped : ℕ) (line : List ℕ) (f : MapFault) → TakesLine remaining old new line
      → HasMapFault f at_line_feed due (number_after skipped []) line → HasMapFault f at_end due (number_after skipped []) line → TakesFault remaining old new due skipped f
  TakesFault-line old new due skipped [] f p at_feed at_last = elim p.1 [
    | inl a ↦ record {
      before = [];
      line = [];
      due = due;
      place = at_line_feed;
      are_lines = tt;
      is_line = p.0;
      right = refl;
      faulty = at_feed;
      taken = a.0;
      well = has_failed-goes_on remaining new a.1;
    }
    | inr a ↦ record {
      before = [];
      line = [];
      due = due;
      place = at_end;
      are_lines = tt;
      is_line = p.0;
      right = refl;
      faulty = at_last;
      taken = (a.1, inr (inl a.0, refl));
      well = has_failed-at_end remaining new a.1;
    }
  ]
  TakesFault-line old new due skipped (b ∷ line) f p at_feed at_last = elim p.1 [
    | inl a ↦ record {
      before = [];
      line = b ∷ line;
      due = due;
      place = at_line_feed;
      are_lines = tt;
      is_line = p.0;
      right = refl;
      faulty = at_feed;
      taken = a.0;
      well = has_failed-goes_on remaining new a.1;
    }
    | inr a ↦ record {
      before = [];
      line = b ∷ line;
      due = due;
      place = at_end;
      are_lines = tt;
      is_line = p.0;
      right = refl;
      faulty = at_last;
      taken = (a.1, inl (a.0, omega arith));
      well = has_failed-at_end remaining new a.1;
    }
  ]
