-- That no step from a cell is forgotten, behind each of the steps that may have led there.
use Rattle.std.proofs.Common.{◌≡◌, ◌∙◌, ℕ, ◌+◌, ◌-◌, ◌^◌, ◌<◌, ◌≤◌, ◌⊎◌, Bool, true, false, inl, inr, arith, refl, sym, ap, subst}
use Rattle.std.specs.Prelude.{◌==◌, if◌then◌else◌}
use Rattle.std.specs.Int.Bits.{bit_and}
use Rattle.std.proofs.lemmas.Bool.{cases_lt, true≢false}
use Rattle.std.proofs.lemmas.Nat.Bits.{bit_at-lt, bit_at_above, bit_at_and}
use Rattle.grid.specs.declared.cell.Cell.{Cell}
use Rattle.grid.specs.Map.{AreNext, IsDiagonalStep, IsStraightStep}
use Rattle.walks.specs.Walk.{IsOn}
use Rattle.least_steps.specs.Code.Exploring.{Exploration, Has, IsArrival, IsLeft}
use Rattle.least_steps.specs.Code.Reaching.{IsMove}
use Rattle.least_steps.specs.Code.Steps.{AreLegal, HasStep, cell_behind, not_back, onward_of, weight}
use Rattle.least_steps.specs.Laws.Ways.{step-on}
use Rattle.least_steps.proofs.LeavingLemmas.{IsDone, column_left, diagonal_left, never_next, row_left, same_cell, shorter_back}
use Rattle.least_steps.proofs.StepLemmas.{always_on, each, first_on, is_diagonal, is_straight, legal_move, second_on, some_step}

-- a step of this number
abbrev IsBy : Bool → Cell → Cell → ℕ → ℕ → Type 0
IsBy aslant c v step k = (k < 8) × (v ≡ cell_behind k c) × (step ≡ weight k) × (aslant ≡ false → k < 4)

module _ (e : Exploration) (c : Cell) (n legal : ℕ) (are : AreLegal e.map c legal) where
  legal_in : (v : Cell) (step k : ℕ) → IsMove e.map e.aslant c v step → IsBy e.aslant c v step k → HasStep legal k
  legal_in v step k move is =
      (are k is.0).1 (subst (λ d. IsMove e.map true c d (weight k)) is.1 (subst (IsMove e.map true c v) is.2 (legal_move e.map e.aslant c v step move)))

  -- what is true of each kind of step is true of each move
  by_step : (P : Cell → ℕ → Type 0) → ((v : Cell) (step k : ℕ) → IsBy e.aslant c v step k → HasStep legal k → P v step) → (v : Cell) (step : ℕ)
      → IsMove e.map e.aslant c v step → P v step
  by_step P h v step move =
      let is = some_step e.map e.aslant c v step move in
      let by : IsBy e.aslant c v step is.step = (is.few, is.is, is.number, is.kind) in
      h v step is.step by (legal_in v step is.step move by)

  diagonal_to : (j : ℕ) (w : Cell) → j < 8 → weight j ≡ 9369319 → cell_behind j c ≡ w → HasStep legal j → IsDiagonalStep e.map c w
  diagonal_to j w few number is there =
      subst (IsDiagonalStep e.map c) is
      (is_diagonal e.map true c (cell_behind j c) (subst (IsMove e.map true c (cell_behind j c)) number ((are j few).0 there)))

  module _ (steps : ℕ) (taken : (k : ℕ) → k < 8 → HasStep steps k → Has e (cell_behind k c) (n + weight k)) where
    goes : (v : Cell) (step k : ℕ) → IsBy e.aslant c v step k → HasStep steps k → Has e v (n + step)
    goes v step k is there = subst (λ d. Has e d (n + step)) (sym is.1) (subst (λ l. Has e (cell_behind k c) (n + l)) (sym is.2) (taken k is.0 there))

    -- it is taken, or a third one is legal, a diagonal one
    sided : (v : Cell) (step k j : ℕ) (w : Cell) → j < 8 → weight j ≡ 9369319 → cell_behind j c ≡ w → IsBy e.aslant c v step k → HasStep steps k ⊎ HasStep legal j
        → Has e v (n + step) ⊎ IsDiagonalStep e.map c w
    sided v step k j w few number there is (inl on) = inl (goes v step k is on)
    sided v step k j w few number there is (inr third) = inr (diagonal_to j w few number there third)

  -- behind a step to the north
  behind_north : (p : Cell) (before : ℕ) → e.aslant ≡ true → Has e p before → before + 6625109 ≤ n → IsStraightStep e.map p c → c.x ≡ p.x → c.y + 1 ≡ p.y
      → ((k : ℕ) → k < 8 → HasStep (onward_of 0 legal) k → Has e (cell_behind k c) (n + weight k)) → IsLeft e c n
  behind_north p before aslant has most led column row taken =
      column_left e p c before n has aslant most led (sym column)
      (by_step (λ v step. (v.y ≡ p.y → ⊥) → Has e v (n + step) ⊎ IsDiagonalStep e.map c (record { x = v.x; y = p.y }))
      (λ v step k is there. each (λ k. IsBy e.aslant c v step k → HasStep legal k → (v.y ≡ p.y → ⊥) → Has e v (n + step) ⊎ IsDiagonalStep e.map c (record { x = v.x; y = p.y }))
      (λ is there other. inl (goes (onward_of 0 legal) taken v step 0 is (always_on legal 1 64 18 128 36 0 refl there)))
      (λ is there other.
      sided (onward_of 0 legal) taken v step 1 6 (record { x = v.x; y = p.y }) (omega arith) refl
      (same_cell (cell_behind 6 c) (record { x = v.x; y = p.y }) (sym (ap (λ (d : Cell). d.x) is.1)) row) is (first_on legal 1 64 18 128 36 1 6 refl refl there))
      (λ is there other.
      sided (onward_of 0 legal) taken v step 2 7 (record { x = v.x; y = p.y }) (omega arith) refl
      (same_cell (cell_behind 7 c) (record { x = v.x; y = p.y }) (sym (ap (λ (d : Cell). d.x) is.1)) row) is (second_on legal 1 64 18 128 36 2 7 refl refl there))
      (λ is there other. absurd (other (ap (λ (d : Cell). d.y) is.1 ∙ row)))
      (λ is there other.
      sided (onward_of 0 legal) taken v step 4 6 (record { x = v.x; y = p.y }) (omega arith) refl
      (same_cell (cell_behind 6 c) (record { x = v.x; y = p.y }) (sym (ap (λ (d : Cell). d.x) is.1)) row) is (first_on legal 1 64 18 128 36 4 6 refl refl there))
      (λ is there other.
      sided (onward_of 0 legal) taken v step 5 7 (record { x = v.x; y = p.y }) (omega arith) refl
      (same_cell (cell_behind 7 c) (record { x = v.x; y = p.y }) (sym (ap (λ (d : Cell). d.x) is.1)) row) is (second_on legal 1 64 18 128 36 5 7 refl refl there))
      (λ is there other. absurd (other (ap (λ (d : Cell). d.y) is.1 ∙ row)))
      (λ is there other. absurd (other (ap (λ (d : Cell). d.y) is.1 ∙ row)))
      k is.0 is there))

  -- behind a step to the west
  behind_west : (p : Cell) (before : ℕ) → e.aslant ≡ true → Has e p before → before + 6625109 ≤ n → IsStraightStep e.map p c → c.x + 1 ≡ p.x → c.y ≡ p.y
      → ((k : ℕ) → k < 8 → HasStep (onward_of 1 legal) k → Has e (cell_behind k c) (n + weight k)) → IsLeft e c n
  behind_west p before aslant has most led column row taken =
      row_left e p c before n has aslant most led (sym row)
      (by_step (λ v step. (v.x ≡ p.x → ⊥) → Has e v (n + step) ⊎ IsDiagonalStep e.map c (record { x = p.x; y = v.y }))
      (λ v step k is there. each (λ k. IsBy e.aslant c v step k → HasStep legal k → (v.x ≡ p.x → ⊥) → Has e v (n + step) ⊎ IsDiagonalStep e.map c (record { x = p.x; y = v.y })) (λ is there other.
      sided (onward_of 1 legal) taken v step 0 5 (record { x = p.x; y = v.y }) (omega arith) refl
      (same_cell (cell_behind 5 c) (record { x = p.x; y = v.y }) column (sym (ap (λ (d : Cell). d.y) is.1))) is (first_on legal 2 32 17 128 72 0 5 refl refl there))
      (λ is there other. inl (goes (onward_of 1 legal) taken v step 1 is (always_on legal 2 32 17 128 72 1 refl there)))
      (λ is there other. absurd (other (ap (λ (d : Cell). d.x) is.1 ∙ column)))
      (λ is there other.
      sided (onward_of 1 legal) taken v step 3 7 (record { x = p.x; y = v.y }) (omega arith) refl
      (same_cell (cell_behind 7 c) (record { x = p.x; y = v.y }) column (sym (ap (λ (d : Cell). d.y) is.1))) is (second_on legal 2 32 17 128 72 3 7 refl refl there))
      (λ is there other.
      sided (onward_of 1 legal) taken v step 4 5 (record { x = p.x; y = v.y }) (omega arith) refl
      (same_cell (cell_behind 5 c) (record { x = p.x; y = v.y }) column (sym (ap (λ (d : Cell). d.y) is.1))) is (first_on legal 2 32 17 128 72 4 5 refl refl there))
      (λ is there other. absurd (other (ap (λ (d : Cell). d.x) is.1 ∙ column)))
      (λ is there other.
      sided (onward_of 1 legal) taken v step 6 7 (record { x = p.x; y = v.y }) (omega arith) refl
      (same_cell (cell_behind 7 c) (record { x = p.x; y = v.y }) column (sym (ap (λ (d : Cell). d.y) is.1))) is (second_on legal 2 32 17 128 72 6 7 refl refl there))
      (λ is there other. absurd (other (ap (λ (d : Cell). d.x) is.1 ∙ column)))
      k is.0 is there))

  -- behind a step to the east
  behind_east : (p : Cell) (before : ℕ) → e.aslant ≡ true → Has e p before → before + 6625109 ≤ n → IsStraightStep e.map p c → c.x - 1 ≡ p.x → c.y ≡ p.y
      → ((k : ℕ) → k < 8 → HasStep (onward_of 2 legal) k → Has e (cell_behind k c) (n + weight k)) → IsLeft e c n
  behind_east p before aslant has most led column row taken =
      row_left e p c before n has aslant most led (sym row)
      (by_step (λ v step. (v.x ≡ p.x → ⊥) → Has e v (n + step) ⊎ IsDiagonalStep e.map c (record { x = p.x; y = v.y }))
      (λ v step k is there. each (λ k. IsBy e.aslant c v step k → HasStep legal k → (v.x ≡ p.x → ⊥) → Has e v (n + step) ⊎ IsDiagonalStep e.map c (record { x = p.x; y = v.y })) (λ is there other.
      sided (onward_of 2 legal) taken v step 0 4 (record { x = p.x; y = v.y }) (omega arith) refl
      (same_cell (cell_behind 4 c) (record { x = p.x; y = v.y }) column (sym (ap (λ (d : Cell). d.y) is.1))) is (first_on legal 4 16 33 64 136 0 4 refl refl there))
      (λ is there other. absurd (other (ap (λ (d : Cell). d.x) is.1 ∙ column)))
      (λ is there other. inl (goes (onward_of 2 legal) taken v step 2 is (always_on legal 4 16 33 64 136 2 refl there)))
      (λ is there other.
      sided (onward_of 2 legal) taken v step 3 6 (record { x = p.x; y = v.y }) (omega arith) refl
      (same_cell (cell_behind 6 c) (record { x = p.x; y = v.y }) column (sym (ap (λ (d : Cell). d.y) is.1))) is (second_on legal 4 16 33 64 136 3 6 refl refl there))
      (λ is there other. absurd (other (ap (λ (d : Cell). d.x) is.1 ∙ column)))
      (λ is there other.
      sided (onward_of 2 legal) taken v step 5 4 (record { x = p.x; y = v.y }) (omega arith) refl
      (same_cell (cell_behind 4 c) (record { x = p.x; y = v.y }) column (sym (ap (λ (d : Cell). d.y) is.1))) is (first_on legal 4 16 33 64 136 5 4 refl refl there))
      (λ is there other. absurd (other (ap (λ (d : Cell). d.x) is.1 ∙ column)))
      (λ is there other.
      sided (onward_of 2 legal) taken v step 7 6 (record { x = p.x; y = v.y }) (omega arith) refl
      (same_cell (cell_behind 6 c) (record { x = p.x; y = v.y }) column (sym (ap (λ (d : Cell). d.y) is.1))) is (second_on legal 4 16 33 64 136 7 6 refl refl there))
      k is.0 is there))

  -- behind a step to the south
  behind_south : (p : Cell) (before : ℕ) → e.aslant ≡ true → Has e p before → before + 6625109 ≤ n → IsStraightStep e.map p c → c.x ≡ p.x → c.y - 1 ≡ p.y
      → ((k : ℕ) → k < 8 → HasStep (onward_of 3 legal) k → Has e (cell_behind k c) (n + weight k)) → IsLeft e c n
  behind_south p before aslant has most led column row taken =
      column_left e p c before n has aslant most led (sym column)
      (by_step (λ v step. (v.y ≡ p.y → ⊥) → Has e v (n + step) ⊎ IsDiagonalStep e.map c (record { x = v.x; y = p.y }))
      (λ v step k is there. each (λ k. IsBy e.aslant c v step k → HasStep legal k → (v.y ≡ p.y → ⊥) → Has e v (n + step) ⊎ IsDiagonalStep e.map c (record { x = v.x; y = p.y }))
      (λ is there other. absurd (other (ap (λ (d : Cell). d.y) is.1 ∙ row)))
      (λ is there other.
      sided (onward_of 3 legal) taken v step 1 4 (record { x = v.x; y = p.y }) (omega arith) refl
      (same_cell (cell_behind 4 c) (record { x = v.x; y = p.y }) (sym (ap (λ (d : Cell). d.x) is.1)) row) is (first_on legal 8 16 66 32 132 1 4 refl refl there))
      (λ is there other.
      sided (onward_of 3 legal) taken v step 2 5 (record { x = v.x; y = p.y }) (omega arith) refl
      (same_cell (cell_behind 5 c) (record { x = v.x; y = p.y }) (sym (ap (λ (d : Cell). d.x) is.1)) row) is (second_on legal 8 16 66 32 132 2 5 refl refl there))
      (λ is there other. inl (goes (onward_of 3 legal) taken v step 3 is (always_on legal 8 16 66 32 132 3 refl there)))
      (λ is there other. absurd (other (ap (λ (d : Cell). d.y) is.1 ∙ row)))
      (λ is there other. absurd (other (ap (λ (d : Cell). d.y) is.1 ∙ row)))
      (λ is there other.
      sided (onward_of 3 legal) taken v step 6 4 (record { x = v.x; y = p.y }) (omega arith) refl
      (same_cell (cell_behind 4 c) (record { x = v.x; y = p.y }) (sym (ap (λ (d : Cell). d.x) is.1)) row) is (first_on legal 8 16 66 32 132 6 4 refl refl there))
      (λ is there other.
      sided (onward_of 3 legal) taken v step 7 5 (record { x = v.x; y = p.y }) (omega arith) refl
      (same_cell (cell_behind 5 c) (record { x = v.x; y = p.y }) (sym (ap (λ (d : Cell). d.x) is.1)) row) is (second_on legal 8 16 66 32 132 7 5 refl refl there))
      k is.0 is there))

  -- behind a step to the northwest
  behind_northwest : (p : Cell) (before : ℕ) → e.aslant ≡ true → Has e p before → before + 9369319 ≤ n → IsDiagonalStep e.map p c → c.x + 1 ≡ p.x → c.y + 1 ≡ p.y
      → ((k : ℕ) → k < 8 → HasStep (onward_of 4 legal) k → Has e (cell_behind k c) (n + weight k)) → IsLeft e c n
  behind_northwest p before aslant has most led column row taken =
      diagonal_left e p c before n has aslant most led
      (by_step (λ v step. (v.x ≡ p.x → ⊥) → (v.y ≡ p.y → ⊥) → Has e v (n + step))
      (λ v step k is there. each (λ k. IsBy e.aslant c v step k → HasStep legal k → (v.x ≡ p.x → ⊥) → (v.y ≡ p.y → ⊥) → Has e v (n + step))
      (λ is there apart other. goes (onward_of 4 legal) taken v step 0 is (always_on legal 19 0 0 0 0 0 refl there))
      (λ is there apart other. goes (onward_of 4 legal) taken v step 1 is (always_on legal 19 0 0 0 0 1 refl there))
      (λ is there apart other. absurd (apart (ap (λ (d : Cell). d.x) is.1 ∙ column)))
      (λ is there apart other. absurd (other (ap (λ (d : Cell). d.y) is.1 ∙ row)))
      (λ is there apart other. goes (onward_of 4 legal) taken v step 4 is (always_on legal 19 0 0 0 0 4 refl there))
      (λ is there apart other. absurd (apart (ap (λ (d : Cell). d.x) is.1 ∙ column)))
      (λ is there apart other. absurd (other (ap (λ (d : Cell). d.y) is.1 ∙ row)))
      (λ is there apart other. absurd (apart (ap (λ (d : Cell). d.x) is.1 ∙ column)))
      k is.0 is there))

  -- behind a step to the northeast
  behind_northeast : (p : Cell) (before : ℕ) → e.aslant ≡ true → Has e p before → before + 9369319 ≤ n → IsDiagonalStep e.map p c → c.x - 1 ≡ p.x → c.y + 1 ≡ p.y
      → ((k : ℕ) → k < 8 → HasStep (onward_of 5 legal) k → Has e (cell_behind k c) (n + weight k)) → IsLeft e c n
  behind_northeast p before aslant has most led column row taken =
      diagonal_left e p c before n has aslant most led
      (by_step (λ v step. (v.x ≡ p.x → ⊥) → (v.y ≡ p.y → ⊥) → Has e v (n + step))
      (λ v step k is there. each (λ k. IsBy e.aslant c v step k → HasStep legal k → (v.x ≡ p.x → ⊥) → (v.y ≡ p.y → ⊥) → Has e v (n + step))
      (λ is there apart other. goes (onward_of 5 legal) taken v step 0 is (always_on legal 37 0 0 0 0 0 refl there))
      (λ is there apart other. absurd (apart (ap (λ (d : Cell). d.x) is.1 ∙ column)))
      (λ is there apart other. goes (onward_of 5 legal) taken v step 2 is (always_on legal 37 0 0 0 0 2 refl there))
      (λ is there apart other. absurd (other (ap (λ (d : Cell). d.y) is.1 ∙ row)))
      (λ is there apart other. absurd (apart (ap (λ (d : Cell). d.x) is.1 ∙ column)))
      (λ is there apart other. goes (onward_of 5 legal) taken v step 5 is (always_on legal 37 0 0 0 0 5 refl there))
      (λ is there apart other. absurd (apart (ap (λ (d : Cell). d.x) is.1 ∙ column)))
      (λ is there apart other. absurd (other (ap (λ (d : Cell). d.y) is.1 ∙ row)))
      k is.0 is there))

  -- behind a step to the southwest
  behind_southwest : (p : Cell) (before : ℕ) → e.aslant ≡ true → Has e p before → before + 9369319 ≤ n → IsDiagonalStep e.map p c → c.x + 1 ≡ p.x → c.y - 1 ≡ p.y
      → ((k : ℕ) → k < 8 → HasStep (onward_of 6 legal) k → Has e (cell_behind k c) (n + weight k)) → IsLeft e c n
  behind_southwest p before aslant has most led column row taken =
      diagonal_left e p c before n has aslant most led
      (by_step (λ v step. (v.x ≡ p.x → ⊥) → (v.y ≡ p.y → ⊥) → Has e v (n + step))
      (λ v step k is there. each (λ k. IsBy e.aslant c v step k → HasStep legal k → (v.x ≡ p.x → ⊥) → (v.y ≡ p.y → ⊥) → Has e v (n + step))
      (λ is there apart other. absurd (other (ap (λ (d : Cell). d.y) is.1 ∙ row)))
      (λ is there apart other. goes (onward_of 6 legal) taken v step 1 is (always_on legal 74 0 0 0 0 1 refl there))
      (λ is there apart other. absurd (apart (ap (λ (d : Cell). d.x) is.1 ∙ column)))
      (λ is there apart other. goes (onward_of 6 legal) taken v step 3 is (always_on legal 74 0 0 0 0 3 refl there))
      (λ is there apart other. absurd (other (ap (λ (d : Cell). d.y) is.1 ∙ row)))
      (λ is there apart other. absurd (apart (ap (λ (d : Cell). d.x) is.1 ∙ column)))
      (λ is there apart other. goes (onward_of 6 legal) taken v step 6 is (always_on legal 74 0 0 0 0 6 refl there))
      (λ is there apart other. absurd (apart (ap (λ (d : Cell). d.x) is.1 ∙ column)))
      k is.0 is there))

  -- behind a step to the southeast
  behind_southeast : (p : Cell) (before : ℕ) → e.aslant ≡ true → Has e p before → before + 9369319 ≤ n → IsDiagonalStep e.map p c → c.x - 1 ≡ p.x → c.y - 1 ≡ p.y
      → ((k : ℕ) → k < 8 → HasStep (onward_of 7 legal) k → Has e (cell_behind k c) (n + weight k)) → IsLeft e c n
  behind_southeast p before aslant has most led column row taken =
      diagonal_left e p c before n has aslant most led
      (by_step (λ v step. (v.x ≡ p.x → ⊥) → (v.y ≡ p.y → ⊥) → Has e v (n + step))
      (λ v step k is there. each (λ k. IsBy e.aslant c v step k → HasStep legal k → (v.x ≡ p.x → ⊥) → (v.y ≡ p.y → ⊥) → Has e v (n + step))
      (λ is there apart other. absurd (other (ap (λ (d : Cell). d.y) is.1 ∙ row)))
      (λ is there apart other. absurd (apart (ap (λ (d : Cell). d.x) is.1 ∙ column)))
      (λ is there apart other. goes (onward_of 7 legal) taken v step 2 is (always_on legal 140 0 0 0 0 2 refl there))
      (λ is there apart other. goes (onward_of 7 legal) taken v step 3 is (always_on legal 140 0 0 0 0 3 refl there))
      (λ is there apart other. absurd (apart (ap (λ (d : Cell). d.x) is.1 ∙ column)))
      (λ is there apart other. absurd (other (ap (λ (d : Cell). d.y) is.1 ∙ row)))
      (λ is there apart other. absurd (apart (ap (λ (d : Cell). d.x) is.1 ∙ column)))
      (λ is there apart other. goes (onward_of 7 legal) taken v step 7 is (always_on legal 140 0 0 0 0 7 refl there))
      k is.0 is there))

  -- ---- behind none

  behind_none : ((k : ℕ) → k < 8 → HasStep (onward_of 8 legal) k → Has e (cell_behind k c) (n + weight k)) → IsLeft e c n
  behind_none taken =
      by_step (λ v step. IsDone e v n step)
      (λ v step k is there. inl (goes (onward_of 8 legal) taken v step k is (each (λ k. HasStep legal k → HasStep (onward_of 8 legal) k)
      (always_on legal 255 0 0 0 0 0 refl)
      (always_on legal 255 0 0 0 0 1 refl)
      (always_on legal 255 0 0 0 0 2 refl)
      (always_on legal 255 0 0 0 0 3 refl)
      (always_on legal 255 0 0 0 0 4 refl)
      (always_on legal 255 0 0 0 0 5 refl)
      (always_on legal 255 0 0 0 0 6 refl)
      (always_on legal 255 0 0 0 0 7 refl)
      k is.0 there)))

  -- ---- where straight steps alone are taken

  in_both : (others k : ℕ) → HasStep legal k → HasStep others k → HasStep (bit_and legal others) k
  in_both others k there too = let all = bit_at_and legal others k in omega (arith, all, there, too)

  too_many : (v : Cell) (step k : ℕ) → e.aslant ≡ false → 4 ≤ k → IsBy e.aslant c v step k → IsDone e v n step
  too_many v step k straight many is = let few = is.3 straight in absurd (omega (arith, few, many))

  straight_behind_none : e.aslant ≡ false → ((k : ℕ) → k < 8 → HasStep (bit_and legal (not_back 8)) k → Has e (cell_behind k c) (n + weight k)) → IsLeft e c n
  straight_behind_none straight taken =
      by_step (λ v step. IsDone e v n step)
      (λ v step k is there. each (λ k. IsBy e.aslant c v step k → HasStep legal k → IsDone e v n step)
      (λ is there. inl (goes (bit_and legal 15) taken v step 0 is (in_both 15 0 there refl)))
      (λ is there. inl (goes (bit_and legal 15) taken v step 1 is (in_both 15 1 there refl)))
      (λ is there. inl (goes (bit_and legal 15) taken v step 2 is (in_both 15 2 there refl)))
      (λ is there. inl (goes (bit_and legal 15) taken v step 3 is (in_both 15 3 there refl)))
      (λ is there. too_many v step 4 straight (omega arith) is)
      (λ is there. too_many v step 5 straight (omega arith) is)
      (λ is there. too_many v step 6 straight (omega arith) is)
      (λ is there. too_many v step 7 straight (omega arith) is)
      k is.0 is there)

  straight_behind_north : (p : Cell) (before : ℕ) → IsOn e.map p → e.aslant ≡ false → Has e p before → before + 6625109 ≤ n → cell_behind 3 c ≡ p
      → ((k : ℕ) → k < 8 → HasStep (bit_and legal (not_back 0)) k → Has e (cell_behind k c) (n + weight k)) → IsLeft e c n
  straight_behind_north p before on straight has most back taken =
      by_step (λ v step. IsDone e v n step)
      (λ v step k is there. each (λ k. IsBy e.aslant c v step k → HasStep legal k → IsDone e v n step)
      (λ is there. inl (goes (bit_and legal 7) taken v step 0 is (in_both 7 0 there refl)))
      (λ is there. inl (goes (bit_and legal 7) taken v step 1 is (in_both 7 1 there refl)))
      (λ is there. inl (goes (bit_and legal 7) taken v step 2 is (in_both 7 2 there refl)))
      (λ is there. shorter_back e p before n has on v step (is.1 ∙ back) (omega (arith, most)))
      (λ is there. too_many v step 4 straight (omega arith) is)
      (λ is there. too_many v step 5 straight (omega arith) is)
      (λ is there. too_many v step 6 straight (omega arith) is)
      (λ is there. too_many v step 7 straight (omega arith) is)
      k is.0 is there)

  straight_behind_west : (p : Cell) (before : ℕ) → IsOn e.map p → e.aslant ≡ false → Has e p before → before + 6625109 ≤ n → cell_behind 2 c ≡ p
      → ((k : ℕ) → k < 8 → HasStep (bit_and legal (not_back 1)) k → Has e (cell_behind k c) (n + weight k)) → IsLeft e c n
  straight_behind_west p before on straight has most back taken =
      by_step (λ v step. IsDone e v n step)
      (λ v step k is there. each (λ k. IsBy e.aslant c v step k → HasStep legal k → IsDone e v n step)
      (λ is there. inl (goes (bit_and legal 11) taken v step 0 is (in_both 11 0 there refl)))
      (λ is there. inl (goes (bit_and legal 11) taken v step 1 is (in_both 11 1 there refl)))
      (λ is there. shorter_back e p before n has on v step (is.1 ∙ back) (omega (arith, most)))
      (λ is there. inl (goes (bit_and legal 11) taken v step 3 is (in_both 11 3 there refl)))
      (λ is there. too_many v step 4 straight (omega arith) is)
      (λ is there. too_many v step 5 straight (omega arith) is)
      (λ is there. too_many v step 6 straight (omega arith) is)
      (λ is there. too_many v step 7 straight (omega arith) is)
      k is.0 is there)

  straight_behind_east : (p : Cell) (before : ℕ) → IsOn e.map p → e.aslant ≡ false → Has e p before → before + 6625109 ≤ n → cell_behind 1 c ≡ p
      → ((k : ℕ) → k < 8 → HasStep (bit_and legal (not_back 2)) k → Has e (cell_behind k c) (n + weight k)) → IsLeft e c n
  straight_behind_east p before on straight has most back taken =
      by_step (λ v step. IsDone e v n step)
      (λ v step k is there. each (λ k. IsBy e.aslant c v step k → HasStep legal k → IsDone e v n step)
      (λ is there. inl (goes (bit_and legal 13) taken v step 0 is (in_both 13 0 there refl)))
      (λ is there. shorter_back e p before n has on v step (is.1 ∙ back) (omega (arith, most)))
      (λ is there. inl (goes (bit_and legal 13) taken v step 2 is (in_both 13 2 there refl)))
      (λ is there. inl (goes (bit_and legal 13) taken v step 3 is (in_both 13 3 there refl)))
      (λ is there. too_many v step 4 straight (omega arith) is)
      (λ is there. too_many v step 5 straight (omega arith) is)
      (λ is there. too_many v step 6 straight (omega arith) is)
      (λ is there. too_many v step 7 straight (omega arith) is)
      k is.0 is there)

  straight_behind_south : (p : Cell) (before : ℕ) → IsOn e.map p → e.aslant ≡ false → Has e p before → before + 6625109 ≤ n → cell_behind 0 c ≡ p
      → ((k : ℕ) → k < 8 → HasStep (bit_and legal (not_back 3)) k → Has e (cell_behind k c) (n + weight k)) → IsLeft e c n
  straight_behind_south p before on straight has most back taken =
      by_step (λ v step. IsDone e v n step)
      (λ v step k is there. each (λ k. IsBy e.aslant c v step k → HasStep legal k → IsDone e v n step)
      (λ is there. shorter_back e p before n has on v step (is.1 ∙ back) (omega (arith, most)))
      (λ is there. inl (goes (bit_and legal 14) taken v step 1 is (in_both 14 1 there refl)))
      (λ is there. inl (goes (bit_and legal 14) taken v step 2 is (in_both 14 2 there refl)))
      (λ is there. inl (goes (bit_and legal 14) taken v step 3 is (in_both 14 3 there refl)))
      (λ is there. too_many v step 4 straight (omega arith) is)
      (λ is there. too_many v step 5 straight (omega arith) is)
      (λ is there. too_many v step 6 straight (omega arith) is)
      (λ is there. too_many v step 7 straight (omega arith) is)
      k is.0 is there)

-- ---- behind any

rows_of : (e : Exploration) (p c : Cell) → IsStraightStep e.map p c → c.x ≡ p.x → AreNext p.y c.y
rows_of e p c led same = elim led.side [
  | inl h ↦ h.1
  | inr h ↦ absurd (never_next c.x (subst (λ x. AreNext x c.x) (sym same) h.1))
]

columns_of : (e : Exploration) (p c : Cell) → IsStraightStep e.map p c → c.y ≡ p.y → AreNext p.x c.x
columns_of e p c led same = elim led.side [
  | inl h ↦ absurd (never_next c.y (subst (λ y. AreNext y c.y) (sym same) h.1))
  | inr h ↦ h.1
]

one_less : (a b : ℕ) → b ≡ a - 1 → AreNext a b → b + 1 ≡ a
one_less a b is (inl h) = sym h
one_less a b is (inr h) = omega (arith, is, h)

one_more : (a b : ℕ) → b ≡ a + 1 → b - 1 ≡ a
one_more a b is = omega (arith, is)

never_straight : (e : Exploration) (p c : Cell) → e.aslant ≡ false → IsMove e.map e.aslant p c 9369319 → ⊥
never_straight e p c straight (inl h) = let is = h.1 in omega (arith, is)
never_straight e p c straight (inr h) = true≢false (sym h.0 ∙ straight)

abbrev pub IsTaken : Exploration → Cell → ℕ → ℕ → Type 0
IsTaken e c n steps = (k : ℕ) → k < 8 → HasStep steps k → Has e (cell_behind k c) (n + weight k)

aslant_left : (e : Exploration) (c : Cell) (n by legal : ℕ) → AreLegal e.map c legal → e.aslant ≡ true → IsArrival e c n by → IsTaken e c n (onward_of by legal)
    → IsLeft e c n
aslant_left e c n by legal are aslant (inl none) taken = behind_none e c n legal are (subst (λ b. IsTaken e c n (onward_of b legal)) none taken)
aslant_left e c n by legal are aslant (inr h) taken =
    let p = h.1 in
    let before = h.2 in
    let has = h.5 in
    each (λ by. c ≡ cell_behind by p → IsMove e.map e.aslant p c (weight by) → before + weight by ≤ n → IsTaken e c n (onward_of by legal) → IsLeft e c n)
    (λ is move most taken.
    let led = is_straight e.map e.aslant p c move in
    behind_north e c n legal are p before aslant has most led (ap (λ (k : Cell). k.x) is) (one_less p.y c.y (ap (λ (k : Cell). k.y) is) (rows_of e p c led (ap (λ (k : Cell). k.x) is))) taken)
    (λ is move most taken.
    let led = is_straight e.map e.aslant p c move in
    behind_west e c n legal are p before aslant has most led (one_less p.x c.x (ap (λ (k : Cell). k.x) is) (columns_of e p c led (ap (λ (k : Cell). k.y) is))) (ap (λ (k : Cell). k.y) is) taken)
    (λ is move most taken.
    let led = is_straight e.map e.aslant p c move in
    behind_east e c n legal are p before aslant has most led (one_more p.x c.x (ap (λ (k : Cell). k.x) is)) (ap (λ (k : Cell). k.y) is) taken)
    (λ is move most taken.
    let led = is_straight e.map e.aslant p c move in
    behind_south e c n legal are p before aslant has most led (ap (λ (k : Cell). k.x) is) (one_more p.y c.y (ap (λ (k : Cell). k.y) is)) taken)
    (λ is move most taken.
    let led = is_diagonal e.map e.aslant p c move in
    behind_northwest e c n legal are p before aslant has most led (one_less p.x c.x (ap (λ (k : Cell). k.x) is) led.columns) (one_less p.y c.y (ap (λ (k : Cell). k.y) is) led.rows) taken)
    (λ is move most taken.
    let led = is_diagonal e.map e.aslant p c move in
    behind_northeast e c n legal are p before aslant has most led (one_more p.x c.x (ap (λ (k : Cell). k.x) is)) (one_less p.y c.y (ap (λ (k : Cell). k.y) is) led.rows) taken)
    (λ is move most taken.
    let led = is_diagonal e.map e.aslant p c move in
    behind_southwest e c n legal are p before aslant has most led (one_less p.x c.x (ap (λ (k : Cell). k.x) is) led.columns) (one_more p.y c.y (ap (λ (k : Cell). k.y) is)) taken)
    (λ is move most taken.
    let led = is_diagonal e.map e.aslant p c move in
    behind_southeast e c n legal are p before aslant has most led (one_more p.x c.x (ap (λ (k : Cell). k.x) is)) (one_more p.y c.y (ap (λ (k : Cell). k.y) is)) taken)
    by h.0 h.3 h.4 h.6 taken

straight_left : (e : Exploration) (c : Cell) (n by legal : ℕ) → AreLegal e.map c legal → e.aslant ≡ false → IsArrival e c n by
    → IsTaken e c n (bit_and legal (not_back by)) → IsLeft e c n
straight_left e c n by legal are straight (inl none) taken =
    straight_behind_none e c n legal are straight (subst (λ b. IsTaken e c n (bit_and legal (not_back b))) none taken)
straight_left e c n by legal are straight (inr h) taken =
    let p = h.1 in
    let before = h.2 in
    let has = h.5 in
    each (λ by. c ≡ cell_behind by p → IsMove e.map e.aslant p c (weight by) → before + weight by ≤ n → IsTaken e c n (bit_and legal (not_back by)) → IsLeft e c n)
    (λ is move most taken.
    let led = is_straight e.map e.aslant p c move in
    straight_behind_north e c n legal are p before (step-on e.map p c led).0 straight has most
    (same_cell (cell_behind 3 c) p (ap (λ (k : Cell). k.x) is) (one_less p.y c.y (ap (λ (k : Cell). k.y) is) (rows_of e p c led (ap (λ (k : Cell). k.x) is)))) taken)
    (λ is move most taken.
    let led = is_straight e.map e.aslant p c move in
    straight_behind_west e c n legal are p before (step-on e.map p c led).0 straight has most
    (same_cell (cell_behind 2 c) p (one_less p.x c.x (ap (λ (k : Cell). k.x) is) (columns_of e p c led (ap (λ (k : Cell). k.y) is))) (ap (λ (k : Cell). k.y) is)) taken)
    (λ is move most taken.
    let led = is_straight e.map e.aslant p c move in
    straight_behind_east e c n legal are p before (step-on e.map p c led).0 straight has most (same_cell (cell_behind 1 c) p (one_more p.x c.x (ap (λ (k : Cell). k.x) is)) (ap (λ (k : Cell). k.y) is))
    taken)
    (λ is move most taken.
    let led = is_straight e.map e.aslant p c move in
    straight_behind_south e c n legal are p before (step-on e.map p c led).0 straight has most
    (same_cell (cell_behind 0 c) p (ap (λ (k : Cell). k.x) is) (one_more p.y c.y (ap (λ (k : Cell). k.y) is))) taken)
    (λ is move most taken. absurd (never_straight e p c straight move))
    (λ is move most taken. absurd (never_straight e p c straight move))
    (λ is move most taken. absurd (never_straight e p c straight move))
    (λ is move most taken. absurd (never_straight e p c straight move))
    by h.0 h.3 h.4 h.6 taken

either : (b : Bool) → (b ≡ true) ⊎ (b ≡ false)
either true = inl refl
either false = inr refl

-- ---- which steps go on

in_first : (a b k : ℕ) → HasStep (bit_and a b) k → HasStep a k
in_first a b k there = let all = bit_at_and a b k in let low = bit_at-lt a k in let other = bit_at-lt b k in omega (arith, all, there, low, other)

in_second : (a b k : ℕ) → HasStep (bit_and a b) k → HasStep b k
in_second a b k there = let all = bit_at_and a b k in let low = bit_at-lt a k in let other = bit_at-lt b k in omega (arith, all, there, low, other)

few_back : (by : ℕ) → not_back by < 2 ^ 4
few_back by = pick (by == 0) (by == 1) (by == 2) (by == 3) where
  pick : (a b d f : Bool) → (if a then 7 else if b then 11 else if d then 13 else if f then 14 else 15) < 2 ^ 4
  pick true b d f = omega arith
  pick false true d f = omega arith
  pick false false true f = omega arith
  pick false false false true = omega arith
  pick false false false false = omega arith

pub onward_legal : (by legal steps : ℕ) (aslant : Bool) → (aslant ≡ true → steps ≡ onward_of by legal) → (aslant ≡ false → steps ≡ bit_and legal (not_back by))
    → (k : ℕ) → HasStep steps k → HasStep legal k
onward_legal by legal steps true all straight k there = in_first legal _ k (subst (λ s. HasStep s k) (all refl) there)
onward_legal by legal steps false all straight k there = in_first legal (not_back by) k (subst (λ s. HasStep s k) (straight refl) there)

pub onward_kind : (by legal steps : ℕ) (aslant : Bool) → (aslant ≡ false → steps ≡ bit_and legal (not_back by)) → (k : ℕ) → HasStep steps k → aslant ≡ false → k < 4
onward_kind by legal steps aslant straight k there none = elim (cases_lt k 4) [
  | inl few ↦ few
  | inr many ↦
      let on = in_second legal (not_back by) k (subst (λ s. HasStep s k) (straight none) there) in
      let past = bit_at_above (not_back by) 4 k (few_back by) many in
      absurd (omega (arith, on, past))
]

-- of the legal steps from a cell those were taken that go on behind the one that led there
pub left_behind : (e : Exploration) (c : Cell) (n by legal steps : ℕ) → AreLegal e.map c legal → IsArrival e c n by
    → (e.aslant ≡ true → steps ≡ onward_of by legal) → (e.aslant ≡ false → steps ≡ bit_and legal (not_back by)) → IsTaken e c n steps → IsLeft e c n
left_behind e c n by legal steps are arrival all straight taken = elim (either e.aslant) [
  | inl aslant ↦ aslant_left e c n by legal are aslant arrival (subst (IsTaken e c n) (all aslant) taken)
  | inr none ↦ straight_left e c n by legal are none arrival (subst (IsTaken e c n) (straight none) taken)
]
