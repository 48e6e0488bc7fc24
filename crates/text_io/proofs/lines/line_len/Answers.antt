-- The first LF is the first byte that is none of the line.
use Rattle.std.proofs.Common.{◌≡◌, ℕ, ◌+◌, Bool, true, false, cond, List, length, Some, None, refl, sym, ◌∙◌, arith}
use Rattle.std.specs.Prelude.{Option, ◌==◌}
use Rattle.std.specs.Option.{unwrap_or}
use Rattle.std.specs.List.{prefix_len, position_or_len}
use Rattle.std.proofs.lemmas.Bool.{false_from_ne_true}
use Rattle.std.proofs.lemmas.List.Sums.{position_or_len_is}
use Rattle.std.proofs.lemmas.List.Recursion.{is_position_or_len}
use Rattle.memchr.specs.Find.{IsFirstByte, is_byte}
use Rattle.text_io.specs.Text.{line_feed, is_line_byte}
use Rattle.text_io.proofs.lines.line_len.Goals as goal

swapped : (t : Bool) (n : ℕ) → cond (cond t false true) n 0 ≡ cond t 0 n
swapped true n = refl
swapped false n = refl

-- the bytes of a line go up to the first LF
up_to_line_feed : (bytes : List ℕ) → prefix_len is_line_byte bytes ≡ position_or_len (is_byte line_feed) bytes
up_to_line_feed bytes =
    is_position_or_len (prefix_len is_line_byte) (is_byte line_feed) refl (λ b rest. swapped (b == line_feed) (1 + prefix_len is_line_byte rest)) bytes

first_line_feed : (bytes : List ℕ) (found : Option ℕ) → IsFirstByte (is_byte line_feed) bytes found
    → unwrap_or found (length bytes) ≡ prefix_len is_line_byte bytes
first_line_feed bytes None none =
    sym (position_or_len_is (is_byte line_feed) bytes (length bytes) 0 (omega arith)
    (λ k below. false_from_ne_true _ (none k (omega arith) below)) (λ past. absurd (omega (arith, past)))) ∙ sym (up_to_line_feed bytes)
first_line_feed bytes (Some i) h =
    let inside = h.0.high in
    sym (position_or_len_is (is_byte line_feed) bytes i 0 (omega arith)
    (λ k below. false_from_ne_true _ (h.0.before k (omega arith) below)) (λ _. h.1)) ∙ sym (up_to_line_feed bytes)

pub returns : goal.returns
returns c = c.unwrap_or.ensures ∙ first_line_feed c.args.bytes.now c.memchr.result c.memchr.ensures
