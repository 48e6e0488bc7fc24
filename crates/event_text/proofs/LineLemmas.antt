-- The line of an event is a line, and not too long.
use Rattle.std.proofs.Common.{◌≡◌, ℕ, ◌^◌, ◌<◌, ◌≤◌, List, [], ◌∷◌, ◌++◌, length, refl, sym, ap, ◌∙◌, subst, arith, length-append, append-nil, codes}
use Rattle.std.specs.Prelude.{◌==◌}
use Rattle.std.specs.List.{list_all, AllByRecursion}
use Rattle.std.proofs.lemmas.Bool.{and_parts, and_from, both_ways, eq-eqb}
use Rattle.std.proofs.lemmas.Fmt.{length-decimal-le}
use Rattle.std.proofs.lemmas.List.Folds.{list_all-append}
use Rattle.text_io.specs.Text.{space, line_feed, is_line_byte, IsLine}
use Rattle.text_io.specs.Laws.Lines.{is_line_byte-true}
use Rattle.model.specs.declared.event.Event.{Event}
use Rattle.model.specs.declared.event.Event.TheVariants.{Start, Finish, Say, Deliver, Restart, Tear}
use Rattle.text_io.specs.Numerals.{IsNumeral}
use Rattle.text_io.specs.Laws.Numerals.{decimal-from_IsNumeral}
use Rattle.text_io.specs.Laws.Parts.{IsPart-digits, IsLine-part}
use Rattle.event_text.specs.EventText.{NamesAgent, NamesAgentAnd, SpellsEvent, AreEvents}
use Rattle.event_text.specs.EventFault.{longest_event_line}

IsLine-append : (xs ys : List ℕ) → IsLine xs → IsLine ys → IsLine (xs ++ ys)
IsLine-append xs ys h k = list_all-append is_line_byte xs ys ∙ and_from (list_all is_line_byte xs) _ h k

numeral-is_line : (n : ℕ) (digits : List ℕ) → IsNumeral n digits → IsLine digits
numeral-is_line n digits h = IsLine-part digits (IsPart-digits digits h.spells.0)

-- a number has no more than twenty digits
numeral-short : (n : ℕ) (digits : List ℕ) → IsNumeral n digits → n < 2 ^ 64 → length digits ≤ 20
numeral-short n digits h small =
    omega (arith, ap length (decimal-from_IsNumeral n digits h small), length-decimal-le 20 n (omega arith) (omega arith) small)

-- what a line owes
pub record IsShortLine (line : List ℕ) : Type 0 where
  pub is_line : IsLine line
  pub short : length line ≤ longest_event_line

agent-short : (word : List ℕ) (i : ℕ) (line : List ℕ) → IsLine word → length word ≤ 8 → NamesAgent word i line → IsShortLine line
agent-short word i line is few (x, bytes, numeral, small) =
    let digits = numeral-short i x numeral (omega arith) in
    record {
      is_line = subst IsLine (sym bytes) (IsLine-append word (space ∷ x) is (numeral-is_line i x numeral));
      short = omega (arith, ap length bytes, length-append word (space ∷ x), digits, few);
    }

agent_and-short : (word : List ℕ) (i n limit : ℕ) (line : List ℕ) → IsLine word → length word ≤ 8 → limit ≤ 2 ^ 64 → NamesAgentAnd word i n limit line
    → IsShortLine line
agent_and-short word i n limit line is few most (x, y, bytes, first, small, second, below) =
    let digits = numeral-short i x first (omega arith) in
    let others = numeral-short n y second (omega (arith, below, most)) in
    record {
      is_line =
          subst IsLine (sym bytes)
          (IsLine-append word (space ∷ (x ++ space ∷ y)) is
          (IsLine-append x (space ∷ y) (numeral-is_line i x first) (numeral-is_line n y second)));
      short = omega (arith, ap length bytes, length-append word (space ∷ (x ++ space ∷ y)), length-append x (space ∷ y), digits, others, few);
    }

pub event-short : (event : Event) (line : List ℕ) → SpellsEvent event line → IsShortLine line
event-short (Start i) line h = agent-short (codes "start") i line refl (omega arith) h
event-short (Finish i) line h = agent-short (codes "finish") i line refl (omega arith) h
event-short (Say i) line h = agent-short (codes "say") i line refl (omega arith) h
event-short (Deliver i m) line h = agent_and-short (codes "deliver") i m (2 ^ 64) line refl (omega arith) (omega arith) h
event-short (Restart i) line h = agent-short (codes "restart") i line refl (omega arith) h
event-short (Tear i n) line h = agent_and-short (codes "tear") i n (2 ^ 32) line refl (omega arith) (omega arith) h

pub AreEvents-lines : (events : List Event) (lines : List (List ℕ)) → AreEvents events lines → AllByRecursion IsLine lines
AreEvents-lines events [] h = tt
AreEvents-lines events (line ∷ lines) h = ((event-short h.0 line h.3).is_line, AreEvents-lines h.1 lines h.4)

-- ---- where a line ends

-- an LF is no byte of a line
no_feed : (line : List ℕ) → IsLine (line_feed ∷ line) → ⊥
no_feed line h = both_ways (line_feed == line_feed) (is_line_byte-true line_feed (and_parts (is_line_byte line_feed) (list_all is_line_byte line) h).0) (eq-eqb line_feed line_feed refl)

-- a line ends at the first LF
pub line_split : (line other more rest : List ℕ) → IsLine line → IsLine other → line ++ line_feed ∷ more ≡ other ++ line_feed ∷ rest
    → (line ≡ other) × (more ≡ rest)
line_split [] [] more rest h k e = (refl, cc)
line_split [] (c ∷ other) more rest h k e =
    let first : c ≡ line_feed = cc in
    absurd (no_feed other (subst (λ b. IsLine (b ∷ other)) first k))
line_split (b ∷ line) [] more rest h k e =
    let first : b ≡ line_feed = cc in
    absurd (no_feed line (subst (λ c. IsLine (c ∷ line)) first h))
line_split (b ∷ line) (c ∷ other) more rest h k e =
    let first : b ≡ c = cc in
    let behind : line ++ line_feed ∷ more ≡ other ++ line_feed ∷ rest = cc in
    let same = line_split line other more rest (and_parts (is_line_byte b) _ h).1 (and_parts (is_line_byte c) _ k).1 behind in
    (ap (λ l. b ∷ l) same.0 ∙ ap (λ d. d ∷ other) first, same.1)

-- an LF stands behind all bytes of a line
pub line_within : (line other more rest : List ℕ) → IsLine line → line ++ more ≡ other ++ line_feed ∷ rest → length line ≤ length other
line_within [] other more rest h e = omega arith
line_within (b ∷ line) [] more rest h e =
    let first : b ≡ line_feed = cc in
    absurd (no_feed line (subst (λ c. IsLine (c ∷ line)) first h))
line_within (b ∷ line) (c ∷ other) more rest h e =
    let behind : line ++ more ≡ other ++ line_feed ∷ rest = cc in
    let less = line_within line other more rest (and_parts (is_line_byte b) _ h).1 behind in
    omega (arith, less)

-- a line has no LF
pub line_alone : (line other rest : List ℕ) → IsLine line → line ≡ other ++ line_feed ∷ rest → ⊥
line_alone line other rest h e =
    let within = line_within line other [] rest h (append-nil line ∙ e) in
    omega (arith, within, ap length e, length-append other (line_feed ∷ rest))
