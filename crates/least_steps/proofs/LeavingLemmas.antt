-- That no step from a cell is forgotten: each is taken, or the cell before leads as soon to where it leads.
use Rattle.std.proofs.Common.{◌≡◌, ◌∙◌, ℕ, ◌+◌, ◌<◌, ◌≤◌, ◌⊎◌, true, inl, inr, arith, refl, sym, ap₂, subst}
use Rattle.std.proofs.lemmas.Bool.{cases_order}
use Rattle.grid.specs.declared.cell.Cell.{Cell}
use Rattle.grid.specs.Map.{AreNext, IsDiagonalStep, IsStraightStep}
use Rattle.walks.specs.Walk.{IsOn}
use Rattle.least_steps.specs.Code.Exploring.{Comes, Exploration, Has, IsLeft, IsShorter, IsTurned}
use Rattle.least_steps.specs.Code.Reaching.{IsMove}
use Rattle.least_steps.specs.Laws.Ways.{comes-on, corner-on, step-on}
use Rattle.least_steps.proofs.DiagonalLemmas.{across_column, across_row}

-- a step is taken, or need not be
abbrev pub IsDone : Exploration → Cell → ℕ → ℕ → Type 0
IsDone e v n step = Has e v (n + step) ⊎ (IsShorter e v (n + step) ⊎ (IsTurned e v (n + step) × (step ≡ 9369319)))

pub same_cell : (u v : Cell) → u.x ≡ v.x → u.y ≡ v.y → u ≡ v
same_cell u v x y = ap₂ (λ a b. record { x = a; y = b }) x y

-- ---- what the cell before leads to, of which a walk has so much less than one to the cell

module _ (e : Exploration) (p : Cell) (k n : ℕ) (has : Has e p k) (on : IsOn e.map p) where
  -- itself
  pub shorter_back : (v : Cell) (step : ℕ) → v ≡ p → k < n + step → IsDone e v n step
  shorter_back v step is less = inr (inl (record {
    before = p;
    number = k;
    rest = 0;
    on = on;
    has = has;
    leads = λ l comes. subst (λ j. Comes e v j) (plus_none l) (subst (λ c. Comes e c l) (sym is) comes);
    less = omega (arith, less);
  })) where
    plus_none : (l : ℕ) → l ≡ l + 0
    plus_none l = omega arith

  -- a cell that it leads to
  shorter_beside : (v : Cell) (step rest : ℕ) → IsMove e.map e.aslant p v rest → k + rest < n + step → IsDone e v n step
  shorter_beside v step rest move less = inr (inl (record {
    before = p;
    number = k;
    rest = rest;
    on = on;
    has = has;
    leads = λ l comes. comes-on e.map e.aslant e.start p v l rest comes move;
    less = less;
  }))

  -- one that it leads to by two steps
  shorter_beyond : (u v : Cell) (step : ℕ) → IsStraightStep e.map p u → IsStraightStep e.map u v → k + 13250218 < n + step → IsDone e v n step
  shorter_beyond u v step first second less = inr (inl (record {
    before = p;
    number = k;
    rest = 13250218;
    on = on;
    has = has;
    leads = λ l comes.
        subst (λ j. Comes e v j) (two l)
        (comes-on e.map e.aslant e.start u v (l + 6625109) 6625109 (comes-on e.map e.aslant e.start p u l 6625109 comes (inl (first, refl))) (inl (second, refl)));
    less = less;
  })) where
    two : (l : ℕ) → l + 6625109 + 6625109 ≡ l + 13250218
    two l = omega arith

  -- as soon, by a diagonal step first
  turned : (u v : Cell) → e.aslant ≡ true → IsDiagonalStep e.map p u → IsStraightStep e.map u v → k + 6625109 ≤ n → IsDone e v n 9369319
  turned u v aslant first second most = inr (inr (
    record {
      before = p;
      between = u;
      number = k;
      has = has;
      aslant = inr (aslant, first, refl);
      straight = inl (second, refl);
      most = omega (arith, most);
    },
    refl,
  ))

-- ---- behind a step along a row

pub never_next : (a : ℕ) → AreNext a a → ⊥
never_next a (inl h) = omega (arith, h)
never_next a (inr h) = omega (arith, h)

same_or : (a b : ℕ) → (a ≡ b) ⊎ (a ≡ b → ⊥)
same_or a b = elim (cases_order a b) [
  | inl same ↦ inl same
  | inr other ↦ elim other [ inl less ↦ inr (λ is. omega (arith, less, is)) | inr more ↦ inr (λ is. omega (arith, more, is)) ]
]

module _ (e : Exploration) (p c : Cell) (k n : ℕ) (has : Has e p k) (aslant : e.aslant ≡ true) where
  module _ (most : k + 6625109 ≤ n) where
    -- the step led along a row: a step out of the column of the cell before is taken, or a diagonal one leads past that cell
    pub row_left : IsStraightStep e.map p c → p.y ≡ c.y
        → ((v : Cell) (step : ℕ) → IsMove e.map e.aslant c v step → (v.x ≡ p.x → ⊥) → Has e v (n + step) ⊎ IsDiagonalStep e.map c (record { x = p.x; y = v.y }))
        → IsLeft e c n
    row_left led row onward v step (inl h) =
        let number = h.1 in
        elim (same_or v.x p.x) [
          | inl same ↦ shorter_back e p k n has (step-on e.map p c led).0 v step (straight_back v h.0 same) (omega (arith, most, number))
          | inr other ↦ elim (onward v step (inl h) other) [
            | inl taken ↦ inl taken
            | inr past ↦ shorter_beside e p k n has (step-on e.map p c led).0 v step 9369319 (inr (aslant, past_side v h.0 past, refl)) (omega (arith, most, number))
          ]
        ] where
          straight_back : (v : Cell) → IsStraightStep e.map c v → v.x ≡ p.x → v ≡ p
          straight_back v step same = elim step.side [
            | inl column ↦
                let apart = led.side in
                absurd (elim apart [
                  | inl h ↦ never_next c.y (subst (λ y. AreNext y c.y) row h.1)
                  | inr h ↦ never_next c.x (subst (λ x. AreNext x c.x) (sym (column.0 ∙ same)) h.1)
                ])
            | inr along ↦ same_cell v p same (sym along.0 ∙ sym row)
          ]

          past_side : (v : Cell) → IsStraightStep e.map c v → IsDiagonalStep e.map c (record { x = p.x; y = v.y }) → IsDiagonalStep e.map p v
          past_side v step past = elim step.side [
            | inl column ↦
                subst (λ u. IsDiagonalStep e.map u v) (same_cell (record { x = p.x; y = c.y }) p refl (sym row))
                (subst (IsDiagonalStep e.map (record { x = p.x; y = c.y })) (same_cell (record { x = c.x; y = v.y }) v column.0 refl)
                (across_row e.map c (record { x = p.x; y = v.y }) past))
            | inr along ↦ absurd (never_next c.y (subst (AreNext c.y) (sym along.0) past.rows))
          ]
    row_left led row onward v step (inr h) =
        let number = h.2 in
        elim (same_or v.x p.x) [
          | inl same ↦
              shorter_beside e p k n has (step-on e.map p c led).0 v step 6625109
              (inl (subst (λ u. IsStraightStep e.map u v) (same_cell (record { x = v.x; y = c.y }) p same (sym row)) h.1.second_on, refl))
              (omega (arith, most, number))
          | inr other ↦ elim (onward v step (inr h) other) [
            | inl taken ↦ inl taken
            | inr past ↦
                subst (λ s. IsDone e v n s) (sym number)
                (turned e p k n has (step-on e.map p c led).0 (record { x = c.x; y = v.y }) v aslant
                (subst (λ u. IsDiagonalStep e.map u (record { x = c.x; y = v.y })) (same_cell (record { x = p.x; y = c.y }) p refl (sym row))
                (across_row e.map c (record { x = p.x; y = v.y }) past)) h.1.first_on most)
          ]
        ]

    -- the same along a column
    pub column_left : IsStraightStep e.map p c → p.x ≡ c.x
        → ((v : Cell) (step : ℕ) → IsMove e.map e.aslant c v step → (v.y ≡ p.y → ⊥) → Has e v (n + step) ⊎ IsDiagonalStep e.map c (record { x = v.x; y = p.y }))
        → IsLeft e c n
    column_left led column onward v step (inl h) =
        let number = h.1 in
        elim (same_or v.y p.y) [
          | inl same ↦ shorter_back e p k n has (step-on e.map p c led).0 v step (straight_back v h.0 same) (omega (arith, most, number))
          | inr other ↦ elim (onward v step (inl h) other) [
            | inl taken ↦ inl taken
            | inr past ↦ shorter_beside e p k n has (step-on e.map p c led).0 v step 9369319 (inr (aslant, past_side v h.0 past, refl)) (omega (arith, most, number))
          ]
        ] where
          straight_back : (v : Cell) → IsStraightStep e.map c v → v.y ≡ p.y → v ≡ p
          straight_back v step same = elim step.side [
            | inl down ↦ same_cell v p (sym down.0 ∙ sym column) same
            | inr row ↦
                let apart = led.side in
                absurd (elim apart [
                  | inl h ↦ never_next c.y (subst (λ y. AreNext y c.y) (sym (row.0 ∙ same)) h.1)
                  | inr h ↦ never_next c.x (subst (λ x. AreNext x c.x) column h.1)
                ])
          ]

          past_side : (v : Cell) → IsStraightStep e.map c v → IsDiagonalStep e.map c (record { x = v.x; y = p.y }) → IsDiagonalStep e.map p v
          past_side v step past = elim step.side [
            | inl down ↦ absurd (never_next c.x (subst (AreNext c.x) (sym down.0) past.columns))
            | inr row ↦
                subst (λ u. IsDiagonalStep e.map u v) (same_cell (record { x = c.x; y = p.y }) p (sym column) refl)
                (subst (IsDiagonalStep e.map (record { x = c.x; y = p.y })) (same_cell (record { x = v.x; y = c.y }) v refl row.0)
                (across_column e.map c (record { x = v.x; y = p.y }) past))
          ]
    column_left led column onward v step (inr h) =
        let number = h.2 in
        elim (same_or v.y p.y) [
          | inl same ↦
              shorter_beside e p k n has (step-on e.map p c led).0 v step 6625109
              (inl (subst (λ u. IsStraightStep e.map u v) (same_cell (record { x = c.x; y = v.y }) p (sym column) same) h.1.first_on, refl))
              (omega (arith, most, number))
          | inr other ↦ elim (onward v step (inr h) other) [
            | inl taken ↦ inl taken
            | inr past ↦
                subst (λ s. IsDone e v n s) (sym number)
                (turned e p k n has (step-on e.map p c led).0 (record { x = v.x; y = c.y }) v aslant
                (subst (λ u. IsDiagonalStep e.map u (record { x = v.x; y = c.y })) (same_cell (record { x = c.x; y = p.y }) p (sym column) refl)
                (across_column e.map c (record { x = v.x; y = p.y }) past)) h.1.second_on most)
          ]
        ]

  -- ---- behind a diagonal step

  -- a step out of the column and out of the row of the cell before is taken
  pub diagonal_left : k + 9369319 ≤ n → IsDiagonalStep e.map p c
      → ((v : Cell) (step : ℕ) → IsMove e.map e.aslant c v step → (v.x ≡ p.x → ⊥) → (v.y ≡ p.y → ⊥) → Has e v (n + step)) → IsLeft e c n
  diagonal_left most led onward v step move = elim (same_or v.x p.x) [
    | inl column ↦ elim (same_or v.y p.y) [
      | inl row ↦ shorter_back e p k n has (corner-on e.map p c led).0 v step (same_cell v p column row) (at_least step move)
      | inr other ↦ elim move [
        | inl h ↦
            let number = h.1 in
            shorter_beside e p k n has (corner-on e.map p c led).0 v step 6625109
            (inl (subst (IsStraightStep e.map p) (same_cell (record { x = p.x; y = c.y }) v (sym column) (in_row v h.0 column)) led.first, refl)) (omega (arith, most, number))
        | inr h ↦
            let number = h.2 in
            shorter_beyond e p k n has (corner-on e.map p c led).0 (record { x = p.x; y = c.y }) v step led.first
            (subst (λ x. IsStraightStep e.map (record { x = x; y = c.y }) v) column h.1.second_on) (omega (arith, most, number))
      ]
    ]
    | inr apart ↦ elim (same_or v.y p.y) [
      | inl row ↦ elim move [
        | inl h ↦
            let number = h.1 in
            shorter_beside e p k n has (corner-on e.map p c led).0 v step 6625109
            (inl (subst (IsStraightStep e.map p) (same_cell (record { x = c.x; y = p.y }) v (in_column v h.0 row) (sym row)) led.second, refl)) (omega (arith, most, number))
        | inr h ↦
            let number = h.2 in
            shorter_beyond e p k n has (corner-on e.map p c led).0 (record { x = c.x; y = p.y }) v step led.second
            (subst (λ y. IsStraightStep e.map (record { x = c.x; y = y }) v) row h.1.first_on) (omega (arith, most, number))
      ]
      | inr other ↦ inl (onward v step move apart other)
    ]
  ] where
    at_least : (step : ℕ) → IsMove e.map e.aslant c v step → k < n + step
    at_least step move = omega (arith, most)

    in_row : (v : Cell) → IsStraightStep e.map c v → v.x ≡ p.x → c.y ≡ v.y
    in_row v step column = elim step.side [
      | inl h ↦ absurd (never_next c.x (subst (λ x. AreNext x c.x) (sym (h.0 ∙ column)) led.columns))
      | inr h ↦ h.0
    ]

    in_column : (v : Cell) → IsStraightStep e.map c v → v.y ≡ p.y → c.x ≡ v.x
    in_column v step row = elim step.side [
      | inl h ↦ h.0
      | inr h ↦ absurd (never_next c.y (subst (λ y. AreNext y c.y) (sym (h.0 ∙ row)) led.rows))
    ]
