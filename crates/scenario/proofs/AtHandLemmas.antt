-- A line that is at hand of a source: what taking it makes of the lines that were taken, and where it is judged.
use Rattle.std.proofs.Common.{◌≡◌, ℕ, zero, suc, ◌+◌, ◌<◌, ◌≤◌, false, List, [], ◌∷◌, ◌++◌, length, take, drop, get_or, refl, sym, ap, ◌∙◌, arith, append_assoc, add-one}
use Rattle.std.specs.Prelude.{Option, ◌==◌}
use Rattle.std.specs.List.{list_all}
use Rattle.std.proofs.lemmas.Bool.{and_from, eqb-true, false_from_ne_true}
use Rattle.std.proofs.lemmas.List.{take-append-drop, take_more, drop_more}
use Rattle.std.proofs.lemmas.List.Folds.{list_all_more}
use Rattle.memchr.specs.Find.{NoneBefore, Passes, is_byte}
use Rattle.text_io.specs.declared.counted.Counted.{Counted}
use Rattle.text_io.specs.declared.source.Source.{Source}
use Rattle.text_io.specs.Lines.{HasTaken, HasCome}
use Rattle.text_io.specs.Reading.{at_line_feed}
use Rattle.text_io.specs.Source.{at_hand}
use Rattle.text_io.specs.Text.{line_feed, is_line_byte, IsLine, ended}
use Rattle.text_io.specs.Laws.Lines.{is_line_byte-from, lines_of-whole, ends_in_line_feed-whole}
use Rattle.scenario.specs.Code.AtHand.{BeginsWithLine}

-- ---- the first LF of some bytes

before_feed : (bytes : List ℕ) (i : ℕ) → i ≤ length bytes → ((k : ℕ) → k < i → (get_or bytes k 0 == line_feed) ≡ false) → IsLine (take i bytes)
before_feed bytes zero within none = refl
before_feed bytes (suc i) within none =
    ap (λ n. list_all is_line_byte (take n bytes)) (sym (add-one i))
    ∙ (list_all_more is_line_byte bytes i 0 (omega (arith, within))
    ∙ and_from (list_all is_line_byte (take i bytes)) (is_line_byte (get_or bytes i 0))
    (before_feed bytes i (omega (arith, within)) (λ k below. none k (omega (arith, below)))) (is_line_byte-from (get_or bytes i 0) (none i (omega arith))))

-- what stands before it is a line
pub first_feed : (bytes : List ℕ) (i : ℕ) → NoneBefore (Passes (is_byte line_feed) bytes) 0 (length bytes) i → Passes (is_byte line_feed) bytes i
    → BeginsWithLine (take i bytes) bytes
first_feed bytes i none found = (
  drop (i + 1) bytes,
  sym (take-append-drop i bytes) ∙ (ap (λ xs. take i bytes ++ xs) (drop_more bytes i 0 none.high)
      ∙ ap (λ b. take i bytes ++ b ∷ drop (i + 1) bytes) (eqb-true (get_or bytes i 0) line_feed found)),
  before_feed bytes i (let high = none.high in omega (arith, high)) (λ k below. false_from_ne_true (get_or bytes k 0 == line_feed) (none.before k (omega arith) below)),
)

-- the line and its LF
pub line_and_feed : (bytes : List ℕ) (i : ℕ) → i < length bytes → Passes (is_byte line_feed) bytes i → take (i + 1) bytes ≡ take i bytes ++ line_feed ∷ []
line_and_feed bytes i within found =
    take_more bytes i 0 within ∙ ap (λ b. take i bytes ++ b ∷ []) (eqb-true (get_or bytes i 0) line_feed found)

-- ---- a source

-- a line at hand is judged at its LF, before it is taken
pub come_at_hand : {R : Type 0} {ahead : ℕ} (remaining : R → Option (List ℕ)) (first : Counted R) (now : Source R ahead) (before : List (List ℕ)) (line : List ℕ)
    → HasTaken remaining first now before → BeginsWithLine line (at_hand now) → HasCome remaining first now at_line_feed before line
come_at_hand remaining first now before line h (rest, is, is_line) = record {
  delivered = h.delivered;
  consumed = h.consumed;
  front = ended before ++ (line ++ line_feed ∷ []);
  rest = rest;
  bytes = h.in_order ∙ ap (λ l. ended before ++ l) (is ∙ sym (append_assoc line (line_feed ∷ []) rest))
      ∙ sym (append_assoc (ended before) (line ++ line_feed ∷ []) rest);
  judged = λ ends. (lines_of-whole before line h.are_lines is_line, ends_in_line_feed-whole (ended before) line);
  whole = λ e. absurd (cc);
}
