-- What stands at the front of bytes, before an LF or another byte that ends it.
use Rattle.std.proofs.Common.{◌≡◌, ℕ, ◌+◌, ◌-◌, ◌^◌, List, [], ◌∷◌, ◌++◌, length, take, refl, sym, ap, ◌∙◌, arith, append_assoc, length-append}
use Rattle.std.proofs.Math.Seq.{take-append_seam}
use Rattle.text_io.specs.Text.{space, line_feed}
use Rattle.model.specs.declared.event.Event.{Event}
use Rattle.text_io.specs.Numerals.{BeginsWithNumber}
use Rattle.event_text.specs.EventText.{NamesAgent, NamesAgentAnd}
use Rattle.event_text.specs.Code.EventLines.{IsBehindEvent, BeginsWithEvent}

-- ---- an event

-- a word and a number
pub behind_one : (word bytes inner rest : List ℕ) (i : ℕ) → bytes ≡ word ++ space ∷ inner → BeginsWithNumber (2 ^ 32) i line_feed inner rest
    → (line : List ℕ) × (bytes ≡ line ++ line_feed ∷ rest) × NamesAgent word i line
behind_one word bytes inner rest i is (x, inside, numeral, small) = (
  word ++ space ∷ x,
  is ∙ (ap (λ l. word ++ space ∷ l) inside ∙ sym (append_assoc word (space ∷ x) (line_feed ∷ rest))),
  (x, refl, numeral, small),
)

-- a word and two numbers
pub behind_two : (word bytes inner middle rest : List ℕ) (i n limit : ℕ) → bytes ≡ word ++ space ∷ inner → BeginsWithNumber (2 ^ 32) i space inner middle
    → BeginsWithNumber limit n line_feed middle rest → (line : List ℕ) × (bytes ≡ line ++ line_feed ∷ rest) × NamesAgentAnd word i n limit line
behind_two word bytes inner middle rest i n limit is (x, inside, first, small) (y, behind, second, below) = (
  word ++ space ∷ (x ++ space ∷ y),
  is
      ∙ (ap (λ l. word ++ space ∷ l) (inside ∙ (ap (λ l. x ++ space ∷ l) behind ∙ sym (append_assoc x (space ∷ y) (line_feed ∷ rest))))
      ∙ sym (append_assoc word (space ∷ (x ++ space ∷ y)) (line_feed ∷ rest))),
  (x, y, refl, first, small, second, below),
)

-- how many bytes stand before what is behind the event
pub begins_event : (event : Event) (bytes rest : List ℕ) (count : ℕ) → IsBehindEvent event bytes rest → count ≡ length bytes - length rest
    → BeginsWithEvent event count bytes
begins_event event bytes rest count (line, is, spells) count_is =
    (line, rest, is, spells, omega (arith, ap length is, length-append line (line_feed ∷ rest), count_is))

-- ---- taking a line

-- so many bytes are the line and its LF
pub taken_event : (bytes line rest : List ℕ) (count : ℕ) → bytes ≡ line ++ line_feed ∷ rest → count ≡ length line + 1
    → take count bytes ≡ line ++ line_feed ∷ []
taken_event bytes line rest count is count_is =
    let whole = line ++ line_feed ∷ [] in
    let long : count ≡ length whole = count_is ∙ sym (length-append line (line_feed ∷ [])) in
    ap (λ n. take n bytes) long
    ∙ (ap (take (length whole)) (is ∙ sym (append_assoc line (line_feed ∷ []) rest)) ∙ take-append_seam whole rest)
