-- A line says one thing at the most.
use Rattle.std.proofs.Common.{◌≡◌, ℕ, List, [], ◌∷◌, ◌++◌, Ok, drop, get_or, refl, sym, ap, subst, ◌∙◌, arith, append-nil}
use Rattle.std.specs.Prelude.{decimal}
use Rattle.text_io.specs.Text.{space}
use Rattle.hex.specs.Hex.{decode_of}
use Rattle.grid.specs.declared.cell.Cell.{Cell}
use Rattle.carrier_text.specs.declared.report.Report.{Report}
use Rattle.carrier_text.specs.declared.report.Report.TheVariants.{Stands, Between, Unclear}
use Rattle.carrier_text.specs.CarrierLines.{CarrierEvent, drive, hear, tick, plan, stop, end, IsSmallCell, SpellsReport, SpellsCarrierEvent}
use Rattle.carrier_text.proofs.CoordinateLemmas.{decimal-same, number_split}

cell_from : (u v : Cell) → u.x ≡ v.x → u.y ≡ v.y → u ≡ v
cell_from u v x y = ap {A = ℕ} {B = Cell} (λ n. record { x = n; y = u.y }) x ∙ ap {A = ℕ} {B = Cell} (λ n. record { x = v.x; y = n }) y

-- a cell at the end, and one with a space behind it
last_cell : (c d : Cell) → IsSmallCell c → IsSmallCell d → decimal c.x ++ space ∷ (decimal c.y ++ []) ≡ decimal d.x ++ space ∷ (decimal d.y ++ []) → c ≡ d
last_cell c d small little e =
    let x = number_split c.x d.x (decimal c.y ++ []) (decimal d.y ++ []) small.0 little.0 e in
    let y = decimal-same c.y d.y small.1 little.1 (sym (append-nil (decimal c.y)) ∙ (x.1 ∙ append-nil (decimal d.y))) in
    cell_from c d x.0 y

first_cell : (c d : Cell) (a b : List ℕ) → IsSmallCell c → IsSmallCell d
    → decimal c.x ++ space ∷ (decimal c.y ++ space ∷ a) ≡ decimal d.x ++ space ∷ (decimal d.y ++ space ∷ b) → (c ≡ d) × (a ≡ b)
first_cell c d a b small little e =
    let x = number_split c.x d.x (decimal c.y ++ space ∷ a) (decimal d.y ++ space ∷ b) small.0 little.0 e in
    let y = number_split c.y d.y a b small.1 little.1 x.1 in
    (cell_from c d x.0 y.0, y.1)

-- the words report one thing
report-same : (one other : Report) (words : List ℕ) → SpellsReport one words → SpellsReport other words → one ≡ other
report-same (Stands c) (Stands d) words h k =
    ap Stands (last_cell c d h.0 k.0 (ap (drop 7) (sym h.1 ∙ k.1)))
report-same (Stands c) (Between u v) words h k = let e = ap (λ l. get_or l 0 0) (sym h.1 ∙ k.2) in absurd (omega (arith, e))
report-same (Stands c) Unclear words h k = absurd (k.0 c h)
report-same (Between u v) (Stands c) words h k = let e = ap (λ l. get_or l 0 0) (sym h.2 ∙ k.1) in absurd (omega (arith, e))
report-same (Between u v) (Between s t) words h k =
    let first = first_cell u s _ _ h.0 k.0 (ap (drop 8) (sym h.2 ∙ k.2)) in
    let last = last_cell v t h.1 k.1 first.1 in
    ap (λ c. Between c v) first.0 ∙ ap (Between s) last
report-same (Between u v) Unclear words h k = absurd (k.1 u v h)
report-same Unclear (Stands c) words h k = absurd (h.0 c k)
report-same Unclear (Between u v) words h k = absurd (h.1 u v k)
report-same Unclear Unclear words h k = refl

-- each begins with a byte of its own
first_byte : CarrierEvent → ℕ
first_byte (drive report) = 100
first_byte (hear bytes) = 104
first_byte tick = 116
first_byte plan = 112
first_byte stop = 115
first_byte end = 101

begins : (event : CarrierEvent) (line : List ℕ) → SpellsCarrierEvent event line → get_or line 0 0 ≡ first_byte event
unfolding first_byte
begins (drive report) line h = ap (λ l. get_or l 0 0) h.1
begins (hear bytes) line h = ap (λ l. get_or l 0 0) h.1
begins tick line h = ap (λ l. get_or l 0 0) h
begins plan line h = ap (λ l. get_or l 0 0) h
begins stop line h = ap (λ l. get_or l 0 0) h
begins end line h = ap (λ l. get_or l 0 0) h

same_bytes : (a b : List ℕ) (digits others : List ℕ) → digits ≡ others → decode_of digits ≡ Ok a → decode_of others ≡ Ok b → a ≡ b
same_bytes a b digits others e h k = let both = sym h ∙ (ap decode_of e ∙ k) in cc

event-same : (one other : CarrierEvent) (line : List ℕ) → first_byte one ≡ first_byte other → SpellsCarrierEvent one line → SpellsCarrierEvent other line → one ≡ other
unfolding first_byte
event-same (drive r) (drive s) line e h k =
    let words = ap (drop 6) (sym h.1 ∙ k.1) in
    ap drive (report-same r s h.0 h.2 (subst (SpellsReport s) (sym words) k.2))
event-same (drive r) (hear b) line e h k = absurd (omega (arith, e))
event-same (drive r) tick line e h k = absurd (omega (arith, e))
event-same (drive r) plan line e h k = absurd (omega (arith, e))
event-same (drive r) stop line e h k = absurd (omega (arith, e))
event-same (drive r) end line e h k = absurd (omega (arith, e))
event-same (hear a) (drive s) line e h k = absurd (omega (arith, e))
event-same (hear a) (hear b) line e h k = ap hear (same_bytes a b h.0 k.0 (ap (drop 5) (sym h.1 ∙ k.1)) h.2 k.2)
event-same (hear a) tick line e h k = absurd (omega (arith, e))
event-same (hear a) plan line e h k = absurd (omega (arith, e))
event-same (hear a) stop line e h k = absurd (omega (arith, e))
event-same (hear a) end line e h k = absurd (omega (arith, e))
event-same tick (drive s) line e h k = absurd (omega (arith, e))
event-same tick (hear b) line e h k = absurd (omega (arith, e))
event-same tick tick line e h k = refl
event-same tick plan line e h k = absurd (omega (arith, e))
event-same tick stop line e h k = absurd (omega (arith, e))
event-same tick end line e h k = absurd (omega (arith, e))
event-same plan (drive s) line e h k = absurd (omega (arith, e))
event-same plan (hear b) line e h k = absurd (omega (arith, e))
event-same plan tick line e h k = absurd (omega (arith, e))
event-same plan plan line e h k = refl
event-same plan stop line e h k = absurd (omega (arith, e))
event-same plan end line e h k = absurd (omega (arith, e))
event-same stop (drive s) line e h k = absurd (omega (arith, e))
event-same stop (hear b) line e h k = absurd (omega (arith, e))
event-same stop tick line e h k = absurd (omega (arith, e))
event-same stop plan line e h k = absurd (omega (arith, e))
event-same stop stop line e h k = refl
event-same stop end line e h k = absurd (omega (arith, e))
event-same end (drive s) line e h k = absurd (omega (arith, e))
event-same end (hear b) line e h k = absurd (omega (arith, e))
event-same end tick line e h k = absurd (omega (arith, e))
event-same end plan line e h k = absurd (omega (arith, e))
event-same end stop line e h k = absurd (omega (arith, e))
event-same end end line e h k = refl

pub one_event : (line : List ℕ) (one other : CarrierEvent) → SpellsCarrierEvent one line → SpellsCarrierEvent other line → one ≡ other
one_event line one other h k = event-same one other line (sym (begins one line h) ∙ begins other line k) h k
