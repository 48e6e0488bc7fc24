-- What a line of the input leaves when it was taken.
use Rattle.std.proofs.Common.{◌≡◌, ℕ, ◌+◌, ◌<◌, ◌≤◌, List, [], ◌++◌, length, take, Option, None, Some, refl, ap, subst, ◌∙◌, arith, append-nil, length-append}
use Rattle.std.specs.Prelude.{IfSome}
use Rattle.std.specs.Io.KnownBytes.{IsAtEnd as IsSpent}
use Rattle.text_io.specs.declared.counted.Counted.{Counted}
use Rattle.text_io.specs.declared.source.Source.{Source}
use Rattle.text_io.specs.Counted.{counted_inner, failures_of}
use Rattle.text_io.specs.Lines.{HasCome, InputEnded}
use Rattle.text_io.specs.Reading.{at_end, by_line_feed}
use Rattle.text_io.specs.Source.{source_reader}
use Rattle.robot.specs.Code.Reading.{HasRest, IsLineKept, IsInputOver}

-- more of a line that is too long
pub longer : (room front more : List ℕ) → length front ≡ length room + 1 → length room < length (front ++ more)
longer room front more long = omega (arith, long, length-append front more)

pub not_empty : (room line : List ℕ) → length room < length line → 0 < length line
not_empty room line h = omega arith

-- a line that is kept lies in the room
pub kept_within : (kept : Option ℕ) (line room : List ℕ) → IsLineKept line room kept → IfSome kept (λ count. count ≤ length room)
kept_within None line room h = tt
kept_within (Some count) line room h = h.0

module _ {R : Type 0} {ahead : ℕ} (remaining : R → Option (List ℕ)) (first : Counted R) (now : Source R ahead) (before : List (List ℕ)) where
  pub has_rest : (line : List ℕ) → HasCome remaining first now at_end before line → HasRest remaining first now before line
  has_rest line come =
      let judged = come.judged by_line_feed in
      record {
        delivered = come.delivered;
        consumed = come.consumed;
        in_order = come.bytes ∙ ap (λ rest. come.front ++ rest) (come.whole refl) ∙ append-nil come.front ∙ judged.0;
        are_lines = judged.1;
        is_line = judged.2;
      }

  pub is_over : (line : List ℕ) → HasCome remaining first now at_end before line → IsSpent (remaining (counted_inner (source_reader now)))
      → failures_of (source_reader now) ≡ failures_of first → IsInputOver remaining first now before line
  is_over line come spent failures = record { has_rest = has_rest line come; spent = spent; failures = failures }

  -- nothing stood behind the last LF
  pub over_at_line_feed : (room : List ℕ) (count : ℕ) → count ≡ 0 → InputEnded remaining first now before room count → IsInputOver remaining first now before []
  over_at_line_feed room count none h =
      is_over [] (subst (HasCome remaining first now at_end before) (ap (λ n. take n room) none) h.come) h.spent h.failures
