-- Tracks: where an agent stands, how many moves it has made, and its path.
use Rattle.std.proofs.Common.{◌≡◌, ℕ, zero, suc, ◌+◌, ◌-◌, ◌<◌, ◌≤◌, eqb}
use Rattle.std.proofs.Common.{Bool, true, false, cond, List, [], ◌∷◌, length, get_or}
use Rattle.std.proofs.Common.{inl, inr, arith, refl, sym, ap, subst, ◌∙◌}
use Rattle.std.proofs.lemmas.Bool.{cases_Bool, cases_lt, cond-true, cond-false, and_parts, and_from}
use Rattle.std.proofs.lemmas.Bool.{eqb-true, eq-eqb, ne_eqb, false≢true, false_from_ne_true}
use Rattle.grid.specs.declared.cell.Cell.{Cell}
use Rattle.model.specs.Timetable.{same_cell, cell_after, moves_after, collapsed, step_after}

-- ---- cells

cell_from : (u v : Cell) → u.x ≡ v.x → u.y ≡ v.y → u ≡ v
cell_from u v e f =
    ap {A = ℕ} {B = Cell} (λ x. record { x = x; y = u.y }) e
    ∙ ap {A = ℕ} {B = Cell} (λ y. record { x = v.x; y = y }) f

pub same_cell-same : (u v : Cell) → same_cell u v ≡ true → u ≡ v
same_cell-same u v h =
    let both = and_parts (eqb u.x v.x) (eqb u.y v.y) h in
    cell_from u v (eqb-true u.x v.x both.0) (eqb-true u.y v.y both.1)

pub same_cell-true : (u v : Cell) → u ≡ v → same_cell u v ≡ true
same_cell-true u v e =
    and_from (eqb u.x v.x) (eqb u.y v.y) (eq-eqb u.x v.x (ap (λ c. c.x) e))
    (eq-eqb u.y v.y (ap (λ c. c.y) e))

pub same_cell-false : (u v : Cell) → (u ≡ v → ⊥) → same_cell u v ≡ false
same_cell-false u v h = false_from_ne_true (same_cell u v) (λ e. h (same_cell-same u v e))

-- ---- at the start

pub cell_at-start : (c : Cell) (cells : List Cell) → cell_after c cells 0 ≡ c
cell_at-start c [] = refl
cell_at-start c (d ∷ cells) = refl

pub moves_at-start : (c : Cell) (cells : List Cell) → moves_after c cells 0 ≡ 0
moves_at-start c [] = refl
moves_at-start c (d ∷ cells) = refl

-- ---- a step

abbrev Steps : Cell → List Cell → ℕ → Type 0
Steps c cells t =
    moves_after c cells (suc t)
    ≡ cond (same_cell (cell_after c cells t) (cell_after c cells (suc t)))
    (moves_after c cells t) (moves_after c cells t + 1)

swap_conds : (a b : Bool) (n : ℕ) → cond a (cond b n (n + 1)) (cond b n (n + 1) + 1)
    ≡ cond b (cond a n (n + 1)) (cond a n (n + 1) + 1)
swap_conds true true n = refl
swap_conds true false n = refl
swap_conds false true n = refl
swap_conds false false n = refl

steps : (c : Cell) (cells : List Cell) (t : ℕ) → Steps c cells t
steps c [] t = sym (cond-true (same_cell c c) 0 (0 + 1) (same_cell-true c c refl))
steps c (d ∷ cells) zero =
    ap (λ n. cond (same_cell c d) n (n + 1)) (moves_at-start d cells)
    ∙ ap (λ x. cond (same_cell c x) 0 (0 + 1)) (sym (cell_at-start d cells))
steps c (d ∷ cells) (suc t) =
    ap (λ n. cond (same_cell c d) n (n + 1)) (steps d cells t)
    ∙ swap_conds (same_cell c d) (same_cell (cell_after d cells t) (cell_after d cells (suc t)))
    (moves_after d cells t)

pub moves-stay : (c : Cell) (cells : List Cell) (t : ℕ)
    → cell_after c cells t ≡ cell_after c cells (suc t)
    → moves_after c cells (suc t) ≡ moves_after c cells t
moves-stay c cells t e = steps c cells t ∙ cond-true _ _ _ (same_cell-true _ _ e)

pub moves-leave : (c : Cell) (cells : List Cell) (t : ℕ)
    → (cell_after c cells t ≡ cell_after c cells (suc t) → ⊥)
    → moves_after c cells (suc t) ≡ moves_after c cells t + 1
moves-leave c cells t h = steps c cells t ∙ cond-false _ _ _ (same_cell-false _ _ h)

moves-next
    : (c : Cell) (cells : List Cell) (t : ℕ) → moves_after c cells t ≤ moves_after c cells (suc t)
moves-next c cells t =
    elim (cases_Bool (same_cell (cell_after c cells t) (cell_after c cells (suc t)))) [
      | inl e ↦ omega (arith, steps c cells t ∙ cond-true _ _ _ e)
      | inr e ↦ omega (arith, steps c cells t ∙ cond-false _ _ _ e)
    ]

-- the number of moves never falls
pub moves-rise : (c : Cell) (cells : List Cell) (s t : ℕ) → s ≤ t
    → moves_after c cells s ≤ moves_after c cells t
moves-rise c cells s zero h =
    let e : s ≡ 0 = omega (arith, h) in
    subst (λ n. moves_after c cells n ≤ moves_after c cells 0) (sym e) (omega arith)
moves-rise c cells s (suc t) h =
    elim (cases_lt t s) [
      | inl past ↦ let e : suc t ≡ s = omega (arith, h, past) in
          subst (λ n. moves_after c cells n ≤ moves_after c cells (suc t)) e (omega arith)
      | inr before ↦ let first = moves-rise c cells s t before in let next = moves-next c cells t in
          omega (arith, first, next)
    ]

-- ---- the path

get-next : (c : Cell) (cells : List Cell) (n : ℕ) (x : Cell)
    → get_or (c ∷ cells) (n + 1) x ≡ get_or cells n x
get-next c cells n x = let e : n + 1 ≡ suc n = omega arith in ap (λ k. get_or (c ∷ cells) k x) e

pub first_cell : (c : Cell) (cells : List Cell) (x : Cell) → get_or (collapsed c cells) 0 x ≡ c
first_cell c [] x = refl
first_cell c (d ∷ cells) x =
    elim (cases_Bool (same_cell c d)) [
      | inl e ↦ ap (λ l. get_or l 0 x) (cond-true (same_cell c d) _ _ e) ∙ first_cell d cells x
          ∙ sym (same_cell-same c d e)
      | inr e ↦ ap (λ l. get_or l 0 x) (cond-false (same_cell c d) _ _ e)
    ]

-- the cell at a time is that of the path to which so many moves have led
pub cell-visit : (c : Cell) (cells : List Cell) (t : ℕ) (x : Cell)
    → get_or (collapsed c cells) (moves_after c cells t) x ≡ cell_after c cells t
cell-visit c [] t x = refl
cell-visit c (d ∷ cells) zero x = first_cell c (d ∷ cells) x
cell-visit c (d ∷ cells) (suc t) x =
    elim (cases_Bool (same_cell c d)) [
      | inl e ↦
          ap (λ l. get_or l (moves_after c (d ∷ cells) (suc t)) x) (cond-true (same_cell c d) _ _ e)
          ∙ ap (λ n. get_or (collapsed d cells) n x) (cond-true (same_cell c d) _ _ e)
          ∙ cell-visit d cells t x
      | inr e ↦
          ap (λ l. get_or l (moves_after c (d ∷ cells) (suc t)) x)
          (cond-false (same_cell c d) _ _ e)
          ∙ ap (λ n. get_or (c ∷ collapsed d cells) n x) (cond-false (same_cell c d) _ _ e)
          ∙ get-next c (collapsed d cells) (moves_after d cells t) x ∙ cell-visit d cells t x
    ]

pub length-path : (c : Cell) (cells : List Cell)
    → length (collapsed c cells) ≡ moves_after c cells (length cells) + 1
length-path c [] = refl
length-path c (d ∷ cells) =
    elim (cases_Bool (same_cell c d)) [
      | inl e ↦
          ap length (cond-true (same_cell c d) _ _ e) ∙ length-path d cells
          ∙ ap (λ n. n + 1)
          (sym (cond-true (same_cell c d) (moves_after d cells (length cells))
          (moves_after d cells (length cells) + 1) e))
      | inr e ↦
          ap length (cond-false (same_cell c d) _ _ e) ∙ omega (arith, length-path d cells)
          ∙ ap (λ n. n + 1)
          (sym (cond-false (same_cell c d) (moves_after d cells (length cells))
          (moves_after d cells (length cells) + 1) e))
    ]

-- each place in the path is come to at some time
pub visit_time : (c : Cell) (cells : List Cell) (n : ℕ) → n < length (collapsed c cells) → (t : ℕ)
    × (moves_after c cells t ≡ n)
visit_time c [] n h = (0, omega (arith, h))
visit_time c (d ∷ cells) n h =
    elim (cases_Bool (same_cell c d)) [
      | inl e ↦
          let rest = visit_time d cells n
          (subst (λ l. n < length l) (cond-true (same_cell c d) _ _ e) h) in
          (suc rest.0, cond-true (same_cell c d) _ _ e ∙ rest.1)
      | inr e ↦ visit_later d cells (visit_time d cells) n
          (subst (λ l. n < length l) (cond-false (same_cell c d) _ _ e) h) e
    ] where
      visit_later : (d : Cell) (cells : List Cell)
          → ((n : ℕ) → n < length (collapsed d cells) → (t : ℕ) × (moves_after d cells t ≡ n))
          → (n : ℕ) → n < length (c ∷ collapsed d cells) → same_cell c d ≡ false → (t : ℕ)
          × (moves_after c (d ∷ cells) t ≡ n)
      visit_later d cells visits zero h e = (0, refl)
      visit_later d cells visits (suc n) h e =
          let rest = visits n (omega (arith, h)) in
          (suc rest.0, cond-false (same_cell c d) _ _ e ∙ omega (arith, rest.1))

-- no more moves than there are in all
pub moves-most : (c : Cell) (cells : List Cell) (t : ℕ)
    → moves_after c cells t ≤ moves_after c cells (length cells)
moves-most c [] t = omega arith
moves-most c (d ∷ cells) zero = omega arith
moves-most c (d ∷ cells) (suc t) =
    elim (cases_Bool (same_cell c d)) [
      | inl e ↦ omega (
        arith,
        moves-most d cells t,
        cond-true (same_cell c d) (moves_after d cells t) (moves_after d cells t + 1) e,
        cond-true (same_cell c d) (moves_after d cells (length cells))
            (moves_after d cells (length cells) + 1) e,
      )
      | inr e ↦ omega (
        arith,
        moves-most d cells t,
        cond-false (same_cell c d) (moves_after d cells t) (moves_after d cells t + 1) e,
        cond-false (same_cell c d) (moves_after d cells (length cells))
            (moves_after d cells (length cells) + 1) e,
      )
    ]

-- ---- the step of a move

-- a step in which an agent moves is that of the move which it makes next
pub step-of_move : (c : Cell) (cells : List Cell) (t : ℕ)
    → (cell_after c cells t ≡ cell_after c cells (suc t) → ⊥)
    → step_after c cells (moves_after c cells t) ≡ t
step-of_move c [] t h = absurd (h refl)
step-of_move c (d ∷ cells) zero h =
    cond-false (same_cell c d) _ _ (same_cell-false c d (λ e. h (e ∙ sym (cell_at-start d cells))))
step-of_move c (d ∷ cells) (suc t) h =
    let rest = step-of_move d cells t h in
    let n = moves_after d cells t in
    elim (cases_Bool (same_cell c d)) [
      | inl e ↦
          ap (step_after c (d ∷ cells)) (cond-true (same_cell c d) n (n + 1) e)
          ∙ cond-true (same_cell c d) _ _ e ∙ omega (arith, rest)
      | inr e ↦
          ap (step_after c (d ∷ cells)) (cond-false (same_cell c d) n (n + 1) e)
          ∙ cond-false (same_cell c d) _ _ e ∙ cond-false (eqb (n + 1) 0) _ _
          (ne_eqb (n + 1) 0 (λ z. omega (arith, z)))
          ∙ (let one : n + 1 - 1 ≡ n = omega arith in ap (λ k. step_after d cells k + 1) one)
          ∙ omega (arith, rest)
    ]

-- the step of a move
pub moving_step : (c : Cell) (cells : List Cell) (k : ℕ) → k < moves_after c cells (length cells)
    → (t : ℕ) × (moves_after c cells t ≡ k)
    × (cell_after c cells t ≡ cell_after c cells (suc t) → ⊥)
moving_step c [] k h = absurd (omega (arith, h))
moving_step c (d ∷ cells) k h =
    elim (cases_Bool (same_cell c d)) [
      | inl same ↦
          let rest = moving_step d cells k
          (subst (λ n. k < n) (cond-true (same_cell c d) _ _ same) h) in
          (suc rest.0, cond-true (same_cell c d) _ _ same ∙ rest.1, rest.2)
      | inr other ↦ first_or c d cells k other
          (subst (λ n. k < n) (cond-false (same_cell c d) _ _ other) h) (moving_step d cells)
    ] where
      first_or : (c d : Cell) (cells : List Cell) (k : ℕ) → same_cell c d ≡ false
          → k < moves_after d cells (length cells) + 1
          → ((k : ℕ) → k < moves_after d cells (length cells) → (t : ℕ)
          × (moves_after d cells t ≡ k)
          × (cell_after d cells t ≡ cell_after d cells (suc t) → ⊥))
          → (t : ℕ) × (moves_after c (d ∷ cells) t ≡ k)
          × (cell_after c (d ∷ cells) t ≡ cell_after c (d ∷ cells) (suc t) → ⊥)
      first_or c d cells zero other h steps =
          (0, refl, λ e. false≢true (sym other ∙ same_cell-true c d (e ∙ cell_at-start d cells)))
      first_or c d cells (suc k) other h steps =
          let rest = steps k (omega (arith, h)) in
          (suc rest.0, cond-false (same_cell c d) _ _ other ∙ omega (arith, rest.1), rest.2)
