-- A list of events has one text.
use Rattle.std.proofs.Common.{◌≡◌, ℕ, ◌^◌, ◌<◌, List, [], ◌∷◌, ◌++◌, map, refl, sym, ap, ◌∙◌, subst, arith, codes}
use Rattle.std.specs.Prelude.{decimal}
use Rattle.std.specs.List.{All, join_with_byte}
use Rattle.std.proofs.lemmas.List.Elements.{All-nil, All-cons, All-head, All-tail}
use Rattle.text_io.specs.Text.{space, spaced_numbers}
use Rattle.text_io.specs.Laws.Words.{joined}
use Rattle.model.specs.declared.event.Event.{Event}
use Rattle.model.specs.declared.event.Event.TheVariants.{Start, Finish, Say, Deliver, Restart, Tear}
use Rattle.text_io.specs.Laws.Numerals.{decimal-from_IsNumeral, decimal-IsNumeral}
use Rattle.event_text.specs.EventText.{NamesAgent, NamesAgentAnd, SpellsEvent, AreEvents}
use Rattle.event_text.specs.EventLine.{event_line, IsWithinWidths}

-- ---- the line of an event

one-number : (word : List ℕ) (i : ℕ) (line : List ℕ) → NamesAgent word i line → line ≡ word ++ spaced_numbers (i ∷ [])
one-number word i line (x, is, numeral, small) =
    is ∙ (ap (λ d. join_with_byte space (word ∷ d ∷ [])) (decimal-from_IsNumeral i x numeral (omega (arith, small))) ∙ joined word (i ∷ []))

two-numbers : (word : List ℕ) (i n limit : ℕ) (line : List ℕ) → (n < limit → n < 2 ^ 64) → NamesAgentAnd word i n limit line
    → line ≡ word ++ spaced_numbers (i ∷ n ∷ [])
two-numbers word i n limit line fits (x, y, is, first, small, second, below) =
    is ∙ (ap (λ d. join_with_byte space (word ∷ d ∷ y ∷ [])) (decimal-from_IsNumeral i x first (omega (arith, small)))
    ∙ (ap (λ d. join_with_byte space (word ∷ decimal i ∷ d ∷ [])) (decimal-from_IsNumeral n y second (fits below)) ∙ joined word (i ∷ n ∷ [])))

-- only the line that is written for it spells an event
line-is : (event : Event) (line : List ℕ) → SpellsEvent event line → line ≡ event_line event
line-is (Start i) line h = one-number (codes "start") i line h
line-is (Finish i) line h = one-number (codes "finish") i line h
line-is (Say i) line h = one-number (codes "say") i line h
line-is (Deliver i m) line h = two-numbers (codes "deliver") i m (2 ^ 64) line (λ below. below) h
line-is (Restart i) line h = one-number (codes "restart") i line h
line-is (Tear i n) line h = two-numbers (codes "tear") i n (2 ^ 32) line (λ below. omega (arith, below)) h

line-within : (event : Event) (line : List ℕ) → SpellsEvent event line → IsWithinWidths event
line-within (Start i) line h = h.3
line-within (Finish i) line h = h.3
line-within (Say i) line h = h.3
line-within (Deliver i m) line h = (h.4, h.6)
line-within (Restart i) line h = h.3
line-within (Tear i n) line h = (h.4, h.6)

-- and that line does
spells-one : (word : List ℕ) (i : ℕ) → i < 2 ^ 32 → NamesAgent word i (word ++ spaced_numbers (i ∷ []))
spells-one word i small = (decimal i, sym (joined word (i ∷ [])), decimal-IsNumeral i (omega (arith, small)), small)

spells-two : (word : List ℕ) (i n limit : ℕ) → i < 2 ^ 32 → n < limit → n < 2 ^ 64 → NamesAgentAnd word i n limit (word ++ spaced_numbers (i ∷ n ∷ []))
spells-two word i n limit small below fits =
    (decimal i, decimal n, sym (joined word (i ∷ n ∷ [])), decimal-IsNumeral i (omega (arith, small)), small, decimal-IsNumeral n fits, below)

line-spells : (event : Event) → IsWithinWidths event → SpellsEvent event (event_line event)
line-spells (Start i) h = spells-one (codes "start") i h
line-spells (Finish i) h = spells-one (codes "finish") i h
line-spells (Say i) h = spells-one (codes "say") i h
line-spells (Deliver i m) h = spells-two (codes "deliver") i m (2 ^ 64) h.0 h.1 h.1
line-spells (Restart i) h = spells-one (codes "restart") i h
line-spells (Tear i n) h = spells-two (codes "tear") i n (2 ^ 32) h.0 h.1 (omega (arith, h.1))

-- ---- the lines of all

pub lines-are : (events : List Event) (lines : List (List ℕ)) → AreEvents events lines → lines ≡ map event_line events
lines-are events [] none = ap (map event_line) (sym none)
lines-are events (line ∷ lines) (event, others, same, spells, more) =
    ap (λ l. l ∷ lines) (line-is event line spells)
    ∙ (ap (λ ls. event_line event ∷ ls) (lines-are others lines more) ∙ ap (map event_line) (sym same))

pub lines-within : (events : List Event) (lines : List (List ℕ)) → AreEvents events lines → All IsWithinWidths events
lines-within events [] none = subst (All IsWithinWidths) (sym none) (All-nil IsWithinWidths)
lines-within events (line ∷ lines) (event, others, same, spells, more) =
    subst (All IsWithinWidths) (sym same)
    (All-cons IsWithinWidths event others (line-within event line spells) (lines-within others lines more))

pub lines-spell : (events : List Event) → All IsWithinWidths events → AreEvents events (map event_line events)
lines-spell [] h = refl
lines-spell (event ∷ events) h =
    (event, events, refl, line-spells event (All-head IsWithinWidths event events h), lines-spell events (All-tail IsWithinWidths event events h))
