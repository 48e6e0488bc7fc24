-- What the lines that a reader took say of the text that was delivered.
use Rattle.std.proofs.Common.{◌≡◌, ℕ, ◌+◌, ◌<◌, ◌⊎◌, inl, inr, Bool, true, false, List, [], ◌∷◌, ◌++◌, length, take, None, Err, Ok, refl, sym, ap, ◌∙◌, subst, arith, append-nil, length-append}
use Rattle.std.specs.Prelude.{Option, Result, MatchResult, min}
use Rattle.std.specs.List.{AllByRecursion}
use Rattle.text_io.specs.declared.counted.Counted.{Counted}
use Rattle.text_io.specs.declared.source.Source.{Source}
use Rattle.text_io.specs.Counted.{counted_inner, failures_of, greatest}
use Rattle.text_io.specs.Source.{source_reader}
use Rattle.text_io.specs.Text.{IsLine, lines_of}
use Rattle.text_io.specs.Lines.{HasTaken, HasCome, InputEnded, LineTooLong as LongLineTaken, ReaderFailed}
use Rattle.text_io.specs.Reading.{by_input, Place, at_line_feed, at_byte, at_end, JudgedAt, line_number, ReadsText, is_fault}
use Rattle.scenario.specs.declared.scen_fault.ScenFault.{ScenFault}
use Rattle.scenario.specs.declared.scen_reader.Progress.{Progress}
use Rattle.scenario.specs.declared.scen_fault.ScenFault.TheVariants.{NoVersion, FieldCount, BadNumber, OutOfGrid, BadLength, ReadFailed, OutOfMemory, LineTooLong}
use Rattle.scenario.specs.Query.{Query, IsQuery, longest_line}
use Rattle.scenario.specs.ScenText.{AreQueries, ScenText}
use Rattle.scenario.specs.ScenFault.{ScenDue, version_due, row_due, ScenFollows, HasScenFault, ScenFaultAt, scen_outcome}
use Rattle.scenario.specs.Code.AtHand.{AddsAtHand}
use Rattle.scenario.specs.Code.Parsing.{due_after, Adds, RefusesLine, ScenLeads}
use Rattle.text_io.specs.Laws.Taking.{HasTaken-more}
use Rattle.scenario.proofs.JudgedLines.{line_next, line_rows, right-from_Follows, row_right, skipped_rows}
use Rattle.scenario.proofs.TextScanned.{rows_in, first_fault, first_fault-leads, Leads_push, rows_in_push, ScenText-from_none}
use Rattle.scenario.proofs.TextFaults.{Stands, none_decided}

abbrev pub AreLines : Type 0
AreLines = (text : List ℕ) → AllByRecursion IsLine (lines_of text)

abbrev pub Last : Type 0
Last = (text : List ℕ) (before : List (List ℕ)) (line : List ℕ) → JudgedAt by_input at_end before line text
    → ((line ≡ []) × (lines_of text ≡ before)) ⊎ ((0 < length line) × (lines_of text ≡ before ++ line ∷ []))

-- ---- one more line

-- what is due after lines, and their rows
abbrev pub ReadsUpTo : List (List ℕ) → Bool → List Query → Type 0
ReadsUpTo lines has rows = ScenLeads version_due lines (due_after has) × (rows ≡ rows_in version_due lines)

-- Lines of a source were taken, are right, and have the rows of the progress; the next one has this number.
abbrev pub HasReadLines : {R : Type 0} {ahead : ℕ} → (R → Option (List ℕ)) → Source R ahead → Source R ahead → Progress → ℕ → Type 0
HasReadLines remaining start now progress number =
    (before : List (List ℕ)) × HasTaken remaining (source_reader start) now before
    × ScenLeads version_due before (due_after progress.has_version) × (progress.rows.items ≡ rows_in version_due before)
    × (number ≡ line_number before) × (now.reader.ghost_name ≡ start.reader.ghost_name)

-- a line that was added follows
follows : (has now : Bool) (old new : List Query) (line : List ℕ) → Adds has now old new line
    → ScenFollows (due_after has) line (due_after now) × (new ≡ old ++ line_rows (due_after has) line)
follows false now old new line (inl (skipped, e), same) = (inl (skipped, ap due_after e), same ∙ sym (append-nil old))
follows false now old new line (inr (version, e), same) = (inr (version, ap due_after e), same ∙ sym (append-nil old))
follows true now old new line (e, inl (skipped, same)) =
    ((inl skipped, ap due_after e), same ∙ (sym (append-nil old) ∙ ap (λ xs. old ++ xs) (sym (skipped_rows line skipped))))
follows true now old new line (e, inr (q, spells, more)) =
    ((inr (q, spells), ap due_after e), more ∙ ap (λ xs. old ++ xs) (sym (row_right 0 q line spells).1))

-- the lines so far with one more
pub reads_push : (before : List (List ℕ)) (line : List ℕ) (has now : Bool) (old new : List Query) → ReadsUpTo before has old
    → Adds has now old new line → ReadsUpTo (before ++ line ∷ []) now new
reads_push before line has now old new h added =
    let more = follows has now old new line added in (
      Leads_push version_due before (due_after has) line (due_after now) h.0 more.0,
      more.1 ∙ (ap (λ xs. xs ++ line_rows (due_after has) line) h.1 ∙ sym (rows_in_push version_due before (due_after has) line h.0)),
    )

-- a line that was at hand is one more
pub one_at_hand : {R : Type 0} {ahead : ℕ} (remaining : R → Option (List ℕ)) (start old new : Source R ahead) (before now : Progress) (number next : ℕ) (there : Bool)
    → AddsAtHand remaining old new before now number (Ok there) → there ≡ true → next ≡ min (number + 1) greatest
    → HasReadLines remaining start old before number → HasReadLines remaining start new now next
one_at_hand remaining start old new before now number next there added is next_is h =
    let line = (subst (λ b. AddsAtHand remaining old new before now number (Ok b)) is added) in
    let taken = HasTaken-more remaining (source_reader start) old new h.0 line.0 h.1 line.1 (line.2 ∙ h.1.goes_on) line.3 in
    let more = reads_push h.0 line.0 before.has_version now.has_version before.rows.items now.rows.items (h.2, h.3) line.4 in
    let many : next ≡ line_number (h.0 ++ line.0 ∷ []) = omega (arith, next_is, h.4, length-append h.0 (line.0 ∷ [])) in
    (h.0 ++ line.0 ∷ [], taken, more.0, more.1, many, line.1.same_reader ∙ h.5)

-- where none was at hand, all is as before
pub none_at_hand : {R : Type 0} {ahead : ℕ} (remaining : R → Option (List ℕ)) (start old new : Source R ahead) (before now : Progress) (number : ℕ) (there : Bool)
    → AddsAtHand remaining old new before now number (Ok there) → there ≡ false
    → HasReadLines remaining start old before number → HasReadLines remaining start new now number
none_at_hand remaining start old new before now number there added is h =
    let same = subst (λ b. AddsAtHand remaining old new before now number (Ok b)) is added in
    subst (λ p. HasReadLines remaining start new p number) (sym same.1) (subst (λ s. HasReadLines remaining start s before number) (sym same.0) h)

-- an empty line changes nothing
empty_next : (due : ScenDue) → line_next due [] ≡ due
empty_next version_due = refl
empty_next row_due = refl

empty_rows : (due : ScenDue) → line_rows due [] ≡ []
empty_rows version_due = refl
empty_rows row_due = refl

-- all the lines of a text that ended
pub reads_all : (text : List ℕ) (before : List (List ℕ)) (line : List ℕ) (has now : Bool) (old new : List Query)
    → ((line ≡ []) × (lines_of text ≡ before)) ⊎ ((0 < length line) × (lines_of text ≡ before ++ line ∷ []))
    → ReadsUpTo before has old → Adds has now old new line → ReadsUpTo (lines_of text) now new
reads_all text before line has now old new (inl (empty, lines)) h added =
    let more = follows has now old new line added in
    let right = right-from_Follows (due_after has) 0 line (due_after now) more.0 in
    let same : due_after now ≡ due_after has = right.next_is ∙ (ap (line_next (due_after has)) empty ∙ empty_next (due_after has)) in (
      subst (λ xs. ScenLeads version_due xs (due_after now)) (sym lines) (subst (ScenLeads version_due before) (sym same) h.0),
      more.1
          ∙ (ap (λ l. old ++ line_rows (due_after has) l) empty
          ∙ (ap (λ xs. old ++ xs) (empty_rows (due_after has)) ∙ (append-nil old ∙ (h.1 ∙ ap (rows_in version_due) (sym lines))))),
    )
reads_all text before line has now old new (inr (some, lines)) h added =
    subst (λ xs. ReadsUpTo xs now new) (sym lines) (reads_push before line has now old new h added)

-- the rows of a text whose lines are right and end with rows due
pub spelled : AreLines → (text : List ℕ) (rows : List Query) → ReadsUpTo (lines_of text) true rows → ScenText rows text
spelled are text rows h =
    let none : first_fault version_due 0 (lines_of text) ≡ None =
    ap (first_fault version_due 0) (sym (append-nil (lines_of text))) ∙ first_fault-leads version_due 0 (lines_of text) row_due [] h.0 in
    subst (λ qs. ScenText qs text) (sym h.1) (ScenText-from_none text (are text) none)

-- the fault of a text whose lines are right and end with the version due
pub no_version : (text : List ℕ) (rows : List Query) → ReadsUpTo (lines_of text) false rows → ScenFaultAt NoVersion at_end text
no_version text rows h = record {
  before = lines_of text;
  line = [];
  due = version_due;
  judged = inr (refl, refl);
  right = h.0;
  faulty = (refl, omega arith, inr (refl, refl));
}

-- the last of lines that have no LF
pub last_line : (before : List (List ℕ)) (line : List ℕ) → AllByRecursion IsLine (before ++ line ∷ []) → IsLine line
last_line [] line h = h.0
last_line (l ∷ before) line h = last_line before line h.1

-- a line at the end of a text has no LF
pub end_line : AreLines → (text : List ℕ) (before : List (List ℕ)) (line : List ℕ) → JudgedAt by_input at_end before line text → IsLine line
end_line are text before line (inl (lines, unended)) = last_line before line (subst (AllByRecursion IsLine) lines (are text))
end_line are text before line (inr (lines, empty)) = subst IsLine (sym empty) refl

-- rows that lines spell keep their limits
rows_within : (queries : List Query) (lines : List (List ℕ)) → AreQueries queries lines → AllByRecursion IsQuery queries
rows_within queries [] is = subst (AllByRecursion IsQuery) (sym is) tt
rows_within queries (line ∷ lines) (inl h) = rows_within queries lines h.1
rows_within queries (line ∷ lines) (inr (q, others, is, row, rest)) =
    subst (AllByRecursion IsQuery) (sym is) (row.within, rows_within others lines rest)

-- a fault of a line is a fault of the text
outcome-from_fault : (fault : ScenFault) (place : Place) (due : ScenDue) (number : ℕ) (line : List ℕ) → HasScenFault fault place due number line
    → scen_outcome (Err fault) ≡ is_fault fault
outcome-from_fault NoVersion place due number line h = refl
outcome-from_fault (FieldCount at) place due number line h = refl
outcome-from_fault (BadNumber at field) place due number line h = refl
outcome-from_fault (OutOfGrid at) place due number line h = refl
outcome-from_fault (BadLength at) place due number line h = refl
outcome-from_fault (LineTooLong at) place due number line h = refl
outcome-from_fault ReadFailed place due number line h = absurd h
outcome-from_fault OutOfMemory place due number line h = absurd h

module _ {R : Type 0} {ahead : ℕ} (remaining : R → Option (List ℕ)) (first : Counted R) (now : Source R ahead) where
  -- a line was refused at its LF
  pub refused_line : (before : List (List ℕ)) (line : List ℕ) (has : Bool) (rows : List Query) (fault : ScenFault)
      → HasCome remaining first now at_line_feed before line → failures_of (source_reader now) ≡ failures_of first → ReadsUpTo before has rows
      → RefusesLine (due_after has) (line_number before) line fault
      → ReadsText ScenText ScenFaultAt (remaining (counted_inner first)) (remaining (counted_inner (source_reader now))) (failures_of first)
      (failures_of (source_reader now)) (scen_outcome (Err fault))
  refused_line before line has rows fault come failures h (inl none) =
      subst (λ f. ReadsText ScenText ScenFaultAt (remaining (counted_inner first)) (remaining (counted_inner (source_reader now))) (failures_of first)
      (failures_of (source_reader now)) (scen_outcome (Err f))) (sym none)
      (record { delivered = come.delivered; consumed = come.consumed; answer = tt; failures = failures })
  refused_line before line has rows fault come failures h (inr faulty) =
      subst (ReadsText ScenText ScenFaultAt (remaining (counted_inner first)) (remaining (counted_inner (source_reader now))) (failures_of first)
      (failures_of (source_reader now)))
      (sym (outcome-from_fault fault at_line_feed (due_after has) (line_number before) line (faulty at_line_feed tt)))
      (record {
        delivered = come.delivered;
        consumed = come.consumed;
        answer = inl (
          come.front,
          come.rest,
          at_line_feed,
          come.bytes,
          tt,
          record {
            before = before;
            line = line;
            due = due_after has;
            judged = come.judged by_input;
            right = h.0;
            faulty = faulty at_line_feed tt;
          },
        );
        failures = failures;
      })

  -- all that came where the input ended
  all_come : (before : List (List ℕ)) (line : List ℕ) (come : HasCome remaining first now at_end before line) → come.delivered ≡ come.front
  all_come before line come = come.bytes ∙ (ap (λ xs. come.front ++ xs) (come.whole refl) ∙ append-nil come.front)

  -- the last line was refused where the input ended
  pub refused_end : (before : List (List ℕ)) (room : List ℕ) (count : ℕ) (has : Bool) (rows : List Query) (fault : ScenFault)
      → InputEnded remaining first now before room count → ReadsUpTo before has rows
      → RefusesLine (due_after has) (line_number before) (take count room) fault
      → ReadsText ScenText ScenFaultAt (remaining (counted_inner first)) (remaining (counted_inner (source_reader now))) (failures_of first)
      (failures_of (source_reader now)) (scen_outcome (Err fault))
  refused_end before room count has rows fault t h (inl none) =
      subst (λ f. ReadsText ScenText ScenFaultAt (remaining (counted_inner first)) (remaining (counted_inner (source_reader now))) (failures_of first)
      (failures_of (source_reader now)) (scen_outcome (Err f))) (sym none)
      (record { delivered = t.come.delivered; consumed = t.come.consumed; answer = tt; failures = t.failures })
  refused_end before room count has rows fault t h (inr faulty) =
      subst (ReadsText ScenText ScenFaultAt (remaining (counted_inner first)) (remaining (counted_inner (source_reader now))) (failures_of first)
      (failures_of (source_reader now)))
      (sym (outcome-from_fault fault at_end (due_after has) (line_number before) (take count room) (faulty at_end tt)))
      (record {
        delivered = t.come.delivered;
        consumed = t.come.consumed;
        answer = inr (
          record {
            before = before;
            line = take count room;
            due = due_after has;
            judged = subst (JudgedAt by_input at_end before (take count room)) (sym (all_come before (take count room) t.come)) (t.come.judged by_input);
            right = h.0;
            faulty = faulty at_end tt;
          },
          t.spent,
        );
        failures = t.failures;
      })

  -- all lines were taken
  pub ended_all : Last → (before : List (List ℕ)) (room : List ℕ) (count : ℕ) (has after : Bool) (old new : List Query)
      → (t : InputEnded remaining first now before room count) → ReadsUpTo before has old → Adds has after old new (take count room)
      → ReadsUpTo (lines_of t.come.delivered) after new
  ended_all last before room count has after old new t h added =
      reads_all t.come.delivered before (take count room) has after old new
      (last t.come.delivered before (take count room)
      (subst (JudgedAt by_input at_end before (take count room)) (sym (all_come before (take count room) t.come)) (t.come.judged by_input))) h added

  -- they spell the rows
  ended_spelled : AreLines → Last → (before : List (List ℕ)) (room : List ℕ) (count : ℕ) (has after : Bool) (old new : List Query) → after ≡ true
      → (t : InputEnded remaining first now before room count) → ReadsUpTo before has old → Adds has after old new (take count room)
      → ScenText new t.come.delivered
  ended_spelled are last before room count has after old new is t h added =
      let reads = ended_all last before room count has after old new t h added in
      spelled are t.come.delivered new (subst (λ b. ReadsUpTo (lines_of t.come.delivered) b new) is reads)

  -- and each row keeps its limits
  pub ended_within : AreLines → Last → (before : List (List ℕ)) (room : List ℕ) (count : ℕ) (has after : Bool) (old new : List Query) → after ≡ true
      → InputEnded remaining first now before room count → ReadsUpTo before has old → Adds has after old new (take count room)
      → AllByRecursion IsQuery new
  ended_within are last before room count has after old new is t h added =
      let spells = ended_spelled are last before room count has after old new is t h added in
      rows_within new spells.rest spells.are_rows

  pub ended_value : AreLines → Last → (before : List (List ℕ)) (room : List ℕ) (count : ℕ) (has after : Bool) (old new : List Query) → after ≡ true
      → InputEnded remaining first now before room count → ReadsUpTo before has old → Adds has after old new (take count room)
      → ReadsText ScenText ScenFaultAt (remaining (counted_inner first)) (remaining (counted_inner (source_reader now))) (failures_of first)
      (failures_of (source_reader now)) (scen_outcome (Ok new))
  ended_value are last before room count has after old new is t h added = record {
    delivered = t.come.delivered;
    consumed = t.come.consumed;
    answer = (ended_spelled are last before room count has after old new is t h added, t.spent);
    failures = t.failures;
  }

  pub ended_no_version : Last → (before : List (List ℕ)) (room : List ℕ) (count : ℕ) (has after : Bool) (old new : List Query) → after ≡ false
      → InputEnded remaining first now before room count → ReadsUpTo before has old → Adds has after old new (take count room)
      → ReadsText ScenText ScenFaultAt (remaining (counted_inner first)) (remaining (counted_inner (source_reader now))) (failures_of first)
      (failures_of (source_reader now)) (scen_outcome (Err NoVersion))
  ended_no_version last before room count has after old new is t h added = record {
    delivered = t.come.delivered;
    consumed = t.come.consumed;
    answer =
        let reads = ended_all last before room count has after old new t h added in
        inr (no_version t.come.delivered new (subst (λ b. ReadsUpTo (lines_of t.come.delivered) b new) is reads), t.spent);
    failures = t.failures;
  }

  -- a line is too long
  pub long_line : (before : List (List ℕ)) (room : List ℕ) (has : Bool) (rows : List Query) (number : ℕ) → number ≡ line_number before
      → length room ≡ longest_line → LongLineTaken remaining first now before room → ReadsUpTo before has rows
      → ReadsText ScenText ScenFaultAt (remaining (counted_inner first)) (remaining (counted_inner (source_reader now))) (failures_of first)
      (failures_of (source_reader now)) (scen_outcome (Err (LineTooLong number)))
  long_line before room has rows number is size t h = record {
    delivered = t.come.delivered;
    consumed = t.come.consumed;
    answer = inl (
      t.come.front,
      t.come.rest,
      at_byte,
      t.come.bytes,
      tt,
      record {
        before = before;
        line = t.line;
        due = due_after has;
        judged = t.come.judged by_input;
        right = h.0;
        faulty = (is, refl, omega (arith, t.length_is, size));
      },
    );
    failures = t.failures;
  }

  -- the reader failed
  pub failed : Stands → (before : List (List ℕ)) (room : List ℕ) (has : Bool) (rows : List Query) → length room ≡ longest_line
      → ReaderFailed remaining first now before room → ReadsUpTo before has rows
      → ReadsText ScenText ScenFaultAt (remaining (counted_inner first)) (remaining (counted_inner (source_reader now))) (failures_of first)
      (failures_of (source_reader now)) (scen_outcome (Err ReadFailed))
  failed stands before room has rows size t h = record {
    delivered = t.come.delivered;
    consumed = t.come.consumed;
    answer =
        none_decided stands t.come.delivered before t.line (due_after has)
        (subst (JudgedAt by_input at_end before t.line) (sym (all_come before t.line t.come)) (t.come.judged by_input)) (omega (arith, t.in_room, size)) h.0;
    failures = t.failures;
  }

  -- the input ended, and the scenario or its want of a version was answered
  pub ended : AreLines → Last → (before : List (List ℕ)) (room : List ℕ) (count : ℕ) (has after : Bool) (old new : List Query)
      → (result : Result (List Query) ScenFault)
      → MatchResult result (λ queries. (after ≡ true) × (queries ≡ new)) (λ fault. (after ≡ false) × (fault ≡ NoVersion))
      → InputEnded remaining first now before room count → ReadsUpTo before has old → Adds has after old new (take count room)
      → ReadsText ScenText ScenFaultAt (remaining (counted_inner first)) (remaining (counted_inner (source_reader now))) (failures_of first)
      (failures_of (source_reader now)) (scen_outcome result)
  ended are last before room count has after old new (Ok queries) is t h added =
      subst (λ qs. ReadsText ScenText ScenFaultAt (remaining (counted_inner first)) (remaining (counted_inner (source_reader now))) (failures_of first)
      (failures_of (source_reader now)) (scen_outcome (Ok qs))) (sym is.1) (ended_value are last before room count has after old new is.0 t h added)
  ended are last before room count has after old new (Err fault) is t h added =
      subst (λ f. ReadsText ScenText ScenFaultAt (remaining (counted_inner first)) (remaining (counted_inner (source_reader now))) (failures_of first)
      (failures_of (source_reader now)) (scen_outcome (Err f))) (sym is.1) (ended_no_version last before room count has after old new is.0 t h added)
