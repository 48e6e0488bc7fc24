-- When an agent comes to rest.
use Rattle.std.proofs.Common.{◌≡◌, ℕ, zero, suc, ◌+◌, ◌<◌, ◌≤◌, eqb, false, List, [], ◌∷◌, length, take, inl, inr, arith, refl, sym, ap, subst, ◌∙◌}
use Rattle.std.specs.Prelude.{◌&&◌}
use Rattle.std.proofs.lemmas.Bool.{cases_Bool, cases_lt, cond_both, cond-true, cond-false, and_parts, and_from, eqb-true, eq-eqb, false≢true}
use Rattle.std.proofs.lemmas.List.{length-take-le}
use Rattle.grid.specs.declared.cell.Cell.{Cell}
use Rattle.model.specs.Timetable.{Track, same_cell, cell_after, cell_at, moves_after}
use Rattle.model.specs.Costs.{cost_after, EndsAtRest}
use Rattle.model.specs.Laws.Tracks.{same_cell-same, same_cell-true, cell_at-start}

-- from this time on the cell stays the same
abbrev pub Rests : Cell → List Cell → ℕ → Type 0
Rests c cells t = (later : ℕ) → t ≤ later → cell_after c cells later ≡ cell_after c cells t

rests_next : (c d : Cell) (cells : List Cell) (t : ℕ) → Rests d cells t → Rests c (d ∷ cells) (suc t)
rests_next c d cells t h zero past = absurd (omega (arith, past))
rests_next c d cells t h (suc later) past = h later (omega (arith, past))

rests_at_once : (c d : Cell) (cells : List Cell) → c ≡ d → Rests d cells 0 → Rests c (d ∷ cells) 0
rests_at_once c d cells same h zero past = refl
rests_at_once c d cells same h (suc later) past = h later (omega arith) ∙ cell_at-start d cells ∙ sym same

pub cost-rests : (c : Cell) (cells : List Cell) → Rests c cells (cost_after c cells)
cost-rests c [] = λ later past. refl
cost-rests c (d ∷ cells) =
    let n = cost_after d cells in
    elim (cases_Bool (eqb n 0 && same_cell c d)) [
      | inl both ↦
          let parts = and_parts (eqb n 0) (same_cell c d) both in
          subst (Rests c (d ∷ cells)) (sym (cond-true (eqb n 0 && same_cell c d) 0 (n + 1) both))
          (rests_at_once c d cells (same_cell-same c d parts.1) (subst (Rests d cells) (eqb-true n 0 parts.0) (cost-rests d cells)))
      | inr not_both ↦
          let next : suc n ≡ n + 1 = omega arith in
          subst (Rests c (d ∷ cells)) (next ∙ sym (cond-false (eqb n 0 && same_cell c d) 0 (n + 1) not_both)) (rests_next c d cells n (cost-rests d cells))
    ]

least : (c : Cell) (cells : List Cell) (before : ℕ) → before < cost_after c cells → Rests c cells before → ⊥
least c [] before less h = omega (arith, less)
least c (d ∷ cells) before less h =
    let n = cost_after d cells in
    elim (cases_Bool (eqb n 0 && same_cell c d)) [
      | inl both ↦ (let none = subst (λ k. before < k) (cond-true (eqb n 0 && same_cell c d) 0 (n + 1) both) less in omega (arith, none))
      | inr not_both ↦
          by_time (least d cells) before (subst (λ k. before < k) (cond-false (eqb n 0 && same_cell c d) 0 (n + 1) not_both) less) h not_both
    ] where
      by_time : ((before : ℕ) → before < cost_after d cells → Rests d cells before → ⊥)
          → (before : ℕ) → before < cost_after d cells + 1 → Rests c (d ∷ cells) before → (eqb (cost_after d cells) 0 && same_cell c d) ≡ false → ⊥
      by_time earlier zero less h not_both =
          let same : c ≡ d = sym (h 1 (omega arith)) ∙ cell_at-start d cells in
          let stays : Rests d cells 0 = λ later past. h (suc later) (omega arith) ∙ same ∙ sym (cell_at-start d cells) in
          elim (cases_lt 0 (cost_after d cells)) [
            | inl some ↦ earlier 0 some stays
            | inr none ↦
                let zero_cost : cost_after d cells ≡ 0 = omega (arith, none) in
                false≢true (sym not_both ∙ and_from (eqb (cost_after d cells) 0) (same_cell c d) (eq-eqb _ _ zero_cost) (same_cell-true c d same))
          ]
      by_time earlier (suc before) less h not_both = earlier before (omega (arith, less)) (λ later past. h (suc later) (omega (arith, past)))

-- an agent that stays from some time on has come to rest by then
pub cost-least : (c : Cell) (cells : List Cell) (t : ℕ) → Rests c cells t → cost_after c cells ≤ t
cost-least c cells t h = elim (cases_lt t (cost_after c cells)) [ inl less ↦ absurd (least c cells t less h) | inr most ↦ most ]

cost-length : (c : Cell) (cells : List Cell) → cost_after c cells ≤ length cells
cost-length c [] = omega arith
cost-length c (d ∷ cells) =
    let rest = cost-length d cells in
    let n = cost_after d cells in
    cond_both (eqb n 0 && same_cell c d) 0 (n + 1) (λ k. k ≤ length (d ∷ cells)) (λ e. omega arith) (λ e. omega (arith, rest))

-- each move comes before the agent is at rest
pub moves-cost : (c : Cell) (cells : List Cell) → moves_after c cells (length cells) ≤ cost_after c cells
moves-cost c [] = omega arith
moves-cost c (d ∷ cells) =
    let rest = moves-cost d cells in
    let n = cost_after d cells in
    let k = moves_after d cells (length cells) in
    elim (cases_Bool (same_cell c d)) [
      | inl same ↦ subst (λ m. m ≤ cost_after c (d ∷ cells)) (sym (cond-true (same_cell c d) k (k + 1) same))
          (cond_both (eqb n 0 && same_cell c d) 0 (n + 1) (λ m. k ≤ m)
          (λ e. let none = eqb-true n 0 (and_parts (eqb n 0) (same_cell c d) e).0 in omega (arith, rest, none))
          (λ e. omega (arith, rest)))
      | inr other ↦ subst (λ m. m ≤ cost_after c (d ∷ cells)) (sym (cond-false (same_cell c d) k (k + 1) other))
          (cond_both (eqb n 0 && same_cell c d) 0 (n + 1) (λ m. k + 1 ≤ m)
          (λ e. absurd (false≢true (sym other ∙ (and_parts (eqb n 0) (same_cell c d) e).1)))
          (λ e. omega (arith, rest)))
    ]

-- ---- who stands where and when says when all are at rest

abbrev pub SameCells : Cell → List Cell → Cell → List Cell → Type 0
SameCells u xs v ys = (t : ℕ) → cell_after u xs t ≡ cell_after v ys t

cost_within : (u v : Cell) (xs ys : List Cell) → SameCells u xs v ys → cost_after v ys ≤ cost_after u xs
cost_within u v xs ys same =
    let n = cost_after u xs in
    cost-least v ys n (λ later past. sym (same later) ∙ cost-rests u xs later past ∙ same n)

cost-same : (u v : Cell) (xs ys : List Cell) → SameCells u xs v ys → cost_after u xs ≡ cost_after v ys
cost-same u v xs ys same =
    let less = cost_within u v xs ys same in
    let more = cost_within v u ys xs (λ t. sym (same t)) in
    omega (arith, less, more)

same_cells : (u v : Cell) (xs ys : List Cell) → length xs ≡ length ys → SameCells u xs v ys → (u ≡ v) × (xs ≡ ys)
same_cells u v [] [] count each = (each 0, refl)
same_cells u v [] (y ∷ ys) count each = absurd (omega (arith, count))
same_cells u v (x ∷ xs) [] count each = absurd (omega (arith, count))
same_cells u v (x ∷ xs) (y ∷ ys) count each =
    let rest = same_cells x y xs ys (omega (arith, count)) (λ t. each (suc t)) in
    (each 0, ap (λ c. c ∷ xs) rest.0 ∙ ap (λ cells. y ∷ cells) rest.1)

-- tracks that end at rest are the same where they have the same cells
pub same_track : (a b : Track) → EndsAtRest a → EndsAtRest b → ((t : ℕ) → cell_at a t ≡ cell_at b t) → a ≡ b
same_track a b at_rest_a at_rest_b each =
    let both = same_cells a.start b.start a.later b.later (at_rest_a ∙ cost-same a.start b.start a.later b.later each ∙ sym at_rest_b) each in
    ap {A = Cell} {B = Track} (λ c. record { start = c; later = a.later }) both.0
    ∙ ap {A = List Cell} {B = Track} (λ cells. record { start = b.start; later = cells }) both.1

-- ---- what an agent rests at its end can be left out

cells-take : (c : Cell) (cells : List Cell) (n : ℕ) → Rests c cells n → SameCells c (take n cells) c cells
cells-take c [] zero h t = refl
cells-take c [] (suc n) h t = refl
cells-take c (d ∷ cells) zero h t = sym (h t (omega arith))
cells-take c (d ∷ cells) (suc n) h zero = refl
cells-take c (d ∷ cells) (suc n) h (suc t) = cells-take d cells n (λ later past. h (suc later) (omega (arith, past))) t

-- the cells up to where the agent is at rest
abbrev pub trimmed : Cell → List Cell → List Cell
trimmed c cells = take (cost_after c cells) cells

pub cells-trimmed : (c : Cell) (cells : List Cell) → SameCells c (trimmed c cells) c cells
cells-trimmed c cells = cells-take c cells (cost_after c cells) (cost-rests c cells)

pub trimmed-rests : (c : Cell) (cells : List Cell) → length (trimmed c cells) ≡ cost_after c (trimmed c cells)
trimmed-rests c cells =
    length-take-le (cost_after c cells) cells (cost-length c cells) ∙ sym (cost-same c c (trimmed c cells) cells (cells-trimmed c cells))
