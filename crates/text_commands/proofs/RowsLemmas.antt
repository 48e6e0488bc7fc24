-- Rows that were judged one after another, and one more.
use Rattle.std.proofs.Common.{◌≡◌, ◌∙◌, ℕ, ◌+◌, ◌<◌, Bool, true, false, List, [], ◌∷◌, ◌++◌, get_or}
use Rattle.std.proofs.Common.{length, take, Option, Ok, Err, Some, ap, append-nil, append_assoc}
use Rattle.std.proofs.Common.{arith, refl, sym, subst, zero-add}
use Rattle.std.specs.Prelude.{count_by, max, sum_by}
use Rattle.std.proofs.KnownBytes.{Appends-trans}
use Rattle.std.proofs.lemmas.List.{length-append, length-take, take_more}
use Rattle.std.proofs.lemmas.List.Sums.{sum_by-append}
use Rattle.std.proofs.lemmas.Option.{slice_get-get_or}
use Rattle.text_io.specs.declared.counted.Counted.{Counted}
use Rattle.text_io.specs.Laws.Putting.{Breaks-after, Puts-trans}
use Rattle.text_io.specs.Sink.{Breaks, Puts}
use Rattle.text_io.specs.declared.sink.Sink.{Sink}
use Rattle.grid.specs.Map.{Grid}
use Rattle.scenario.specs.Query.{Query}
use Rattle.text_commands.specs.declared.row_line.RowLine.{RowLine}
use Rattle.text_commands.specs.declared.tally.Tally.{Tally}
use Rattle.text_commands.specs.Code.Judging.{HavePut, Judgement, PutsRow, PutsRows, one_line}
use Rattle.text_commands.specs.declared.rows_fault.RowsFault.{RowsFault}
use Rattle.text_commands.specs.declared.rows_fault.RowsFault.TheVariants.{Row, WriteFailed}
use Rattle.text_commands.specs.Code.Tallies.{IsTally, IsTallyWith, one_if}
use Rattle.text_commands.specs.RowsCommand.{AreRowLines, IsRowLine, ShowsProgress, has_other_size, is_agreed, is_otherwise, is_unreached, most_steps, numbered_lines, steps_of}

pub lines_more : (straight : Bool) (m : Grid) (queries : List Query) (lines : List RowLine) (q : Query) (line : RowLine) → AreRowLines straight m queries lines
    → IsRowLine straight m q line → AreRowLines straight m (queries ++ q ∷ []) (lines ++ line ∷ [])
lines_more straight m [] lines q line are is = (line, [], ap (λ (l : List RowLine). l ++ line ∷ []) are, is, refl)
lines_more straight m (p ∷ queries) lines q line are is =
    (are.0, are.1 ++ line ∷ [], ap (λ (l : List RowLine). l ++ line ∷ []) are.2, are.3, lines_more straight m queries are.1 q line are.4 is)

pub lines_length : (straight : Bool) (m : Grid) (queries : List Query) (lines : List RowLine) → AreRowLines straight m queries lines → length lines ≡ length queries
lines_length straight m [] lines are = ap length are
lines_length straight m (q ∷ queries) lines are = let rest = lines_length straight m queries are.1 are.4 in ap length are.2 ∙ grind arith

pub numbered_more : (number : ℕ) (lines : List RowLine) (line : RowLine)
    → numbered_lines number (lines ++ line ∷ []) ≡ numbered_lines number lines ++ one_line (number + length lines) line
numbered_more number [] line = append-nil (one_line number line) ∙ ap (λ n. one_line n line) (omega arith)
numbered_more number (first ∷ lines) line =
    ap (λ rest. one_line number first ++ rest) (numbered_more (number + 1) lines line ∙ ap (λ n. numbered_lines (number + 1) lines ++ one_line n line) (omega arith))
    ∙ sym (append_assoc (one_line number first) (numbered_lines (number + 1) lines) (one_line (number + length (first ∷ lines)) line))

-- ---- counts

count_more : (p : RowLine → Bool) (lines : List RowLine) (line : RowLine) → count_by p (lines ++ line ∷ []) ≡ count_by p lines + one_if (p line)
count_more p lines line = sum_by-append (λ l. one_if (p l)) lines (line ∷ []) ∙ ap (λ n. count_by p lines + n) (zero-add (one_if (p line)))

sum_more : (lines : List RowLine) (line : RowLine) → sum_by steps_of (lines ++ line ∷ []) ≡ sum_by steps_of lines + steps_of line
sum_more lines line = sum_by-append steps_of lines (line ∷ []) ∙ ap (λ n. sum_by steps_of lines + n) (zero-add (steps_of line))

most_more : (lines : List RowLine) (line : RowLine) → most_steps (lines ++ line ∷ []) ≡ max (most_steps lines) (steps_of line)
most_more [] line = omega arith
most_more (first ∷ lines) line = let rest = most_more lines line in omega arith

pub tally_more : (lines : List RowLine) (line : RowLine) (old new : Tally) → IsTally lines old → IsTallyWith old line new → IsTally (lines ++ line ∷ []) new
tally_more lines line old new is with_line = record {
  rows = with_line.rows ∙ ap (λ n. n + 1) is.rows ∙ sym (length-append lines (line ∷ []));
  agree = with_line.agree ∙ ap (λ n. n + one_if (is_agreed line)) is.agree ∙ sym (count_more is_agreed lines line);
  differ = with_line.differ ∙ ap (λ n. n + one_if (is_otherwise line)) is.differ ∙ sym (count_more is_otherwise lines line);
  unreachable = with_line.unreachable ∙ ap (λ n. n + one_if (is_unreached line)) is.unreachable ∙ sym (count_more is_unreached lines line);
  size = with_line.size ∙ ap (λ n. n + one_if (has_other_size line)) is.size ∙ sym (count_more has_other_size lines line);
  total = with_line.total ∙ ap (λ n. n + steps_of line) is.total ∙ sym (sum_more lines line);
  greatest = with_line.greatest ∙ ap (λ n. max n (steps_of line)) is.greatest ∙ sym (most_more lines line);
}

-- ---- lines that were put

module _ {W : Type 0} (contents : W → Option (List ℕ)) (j : Judgement) where
  pub put_more : (queries : List Query) (number at : ℕ) (q : Query) (old mid new : Sink W) (before tally : Tally) → HavePut contents j queries number old mid before
      → at ≡ number + length queries → PutsRow contents j q at before mid new (Ok tally) → HavePut contents j (queries ++ q ∷ []) number old new tally
  put_more queries number at q old mid new before tally put here row =
      let count = lines_length j.straight j.map queries put.lines put.are_lines in
      let place : number + length put.lines ≡ at = omega (arith, count, here) in
      let text : numbered_lines number put.lines ++ one_line at row.0 ≡ numbered_lines number (put.lines ++ row.0 ∷ [])
      = ap (λ n. numbered_lines number put.lines ++ one_line n row.0) (sym place) ∙ sym (numbered_more number put.lines row.0) in
      record {
        lines = put.lines ++ row.0 ∷ [];
        are_lines = lines_more j.straight j.map queries put.lines q row.0 put.are_lines row.1;
        is_tally = tally_more put.lines row.0 before tally put.is_tally row.2;
        puts = subst (Puts contents old new) text (Puts-trans contents old mid new _ _ put.puts row.3);
        none_held = row.4;
      }

  -- the writer failed at one more
  pub put_broken : (queries : List Query) (number at : ℕ) (q : Query) (line : RowLine) (old mid new : Sink W) (before : Tally)
      → HavePut contents j queries number old mid before → at ≡ number + length queries → IsRowLine j.straight j.map q line → Breaks contents mid new (one_line at line)
      → (lines : List RowLine) × AreRowLines j.straight j.map (queries ++ q ∷ []) lines × Breaks contents old new (numbered_lines number lines)
  put_broken queries number at q line old mid new before put here is breaks =
      let count = lines_length j.straight j.map queries put.lines put.are_lines in
      let place : number + length put.lines ≡ at = omega (arith, count, here) in
      let text : numbered_lines number put.lines ++ one_line at line ≡ numbered_lines number (put.lines ++ line ∷ [])
      = ap (λ n. numbered_lines number put.lines ++ one_line n line) (sym place) ∙ sym (numbered_more number put.lines line) in (
        put.lines ++ line ∷ [],
        lines_more j.straight j.map queries put.lines q line put.are_lines is,
        subst (Breaks contents old new) text (Breaks-after contents old mid new _ _ put.puts breaks),
      )

  -- a row is taken to those before it
  more_rows : (rows : List Query) (i : ℕ) (q : Query) → i < length rows → q ≡ get_or rows i q → take i rows ++ q ∷ [] ≡ take (i + 1) rows
  more_rows rows i q within is = ap (λ (p : Query). take i rows ++ p ∷ []) is ∙ sym (take_more rows i q within)

  pub put_next_row : (rows : List Query) (number at i : ℕ) (q : Query) (old mid new : Sink W) (before tally : Tally) → HavePut contents j (take i rows) number old mid before
      → i < length rows → q ≡ get_or rows i q → at ≡ number + i → PutsRow contents j q at before mid new (Ok tally)
      → HavePut contents j (take (i + 1) rows) number old new tally
  put_next_row rows number at i q old mid new before tally put within is here row =
      let count = length-take i rows in
      subst (λ queries. HavePut contents j queries number old new tally) (more_rows rows i q within is)
      (put_more (take i rows) number at q old mid new before tally put (omega (arith, count)) row)

  -- why one more came to nothing
  pub rows_stopped : (rows : List Query) (number at i : ℕ) (q : Query) (old mid new : Sink W) (before : Tally) (fault : RowsFault) → HavePut contents j (take i rows) number old mid before
      → i < length rows → q ≡ get_or rows i q → at ≡ number + i → PutsRow contents j q at before mid new (Err fault)
      → PutsRows contents j rows number old new (Err fault)
  rows_stopped rows number at i q old mid new before (Row fault) put within is here row = (
    i,
    before,
    q,
    subst (λ (s : Sink W). HavePut contents j (take i rows) number old s before) (sym row.1) put,
    slice_get-get_or rows i q within ∙ ap Some (sym is),
    row.0,
  )
  rows_stopped rows number at i q old mid new before WriteFailed put within is here row =
      let count = length-take i rows in
      let broken = put_broken (take i rows) number at q row.0 old mid new before put (omega (arith, count)) row.1 row.2 in
      (i + 1, broken.0, subst (λ queries. AreRowLines j.straight j.map queries broken.0) (more_rows rows i q within is) broken.1, broken.2)

-- ---- progress

pub shows_more : {E : Type 0} (contents : E → Option (List ℕ)) (shown : Bool) (old mid new : Counted E) → ShowsProgress contents shown old mid → ShowsProgress contents shown mid new
    → ShowsProgress contents shown old new
shows_more contents false old mid new first second = second ∙ first
shows_more contents true old mid new first second = (first.0 ++ second.0, Appends-trans _ _ _ first.0 second.0 first.1 second.1)
