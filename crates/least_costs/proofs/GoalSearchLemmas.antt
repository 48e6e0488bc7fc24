-- How a search from a goal goes on.
use Rattle.std.proofs.Common.{◌≡◌, ◌∙◌, ℕ, ◌+◌, ◌<◌, ◌≤◌, ◌⊎◌, List, [], ◌∷◌, ◌++◌, length, Some, inl, inr, arith, sym, ap, subst}
use Rattle.std.specs.Prelude.{slice_get}
use Rattle.std.specs.List.{swap_remove}
use Rattle.std.proofs.lemmas.Option.{same_Some, slice_get_within}
use Rattle.grid.specs.declared.cell.Cell.{Cell}
use Rattle.grid.specs.Map.{Grid}
use Rattle.least_costs.specs.declared.goal_search.GoalSearch.{GoalSearch}
use Rattle.least_costs.specs.declared.goal_search.Waiting.{Waiting}
use Rattle.least_costs.specs.declared.marks.Marks.{Marks}
use Rattle.least_costs.specs.Code.GoalSearches.{AreBeyond, HasSpread, IsAmongThem, IsSpread, LowersMarks}
use Rattle.least_costs.specs.Code.Places.{between}
use Rattle.least_costs.specs.Code.Marks.{AreSameMarks, IsPut, mark_at}
use Rattle.least_costs.proofs.ListLemmas.{get-added, get-left, still-there, was-there}
use Rattle.least_costs.proofs.SideLemmas.{same_or_other}

at_most : (i j k : ℕ) → i ≤ j → j ≤ k → i ≤ k
at_most i j k h l = omega (arith, h, l)

-- ---- marks that are put

-- the marks fall
pub lowers_put : (steps : ℕ) (old new : Marks) (cell : Cell) → IsPut old cell steps new → steps < mark_at old cell → LowersMarks steps old new
lowers_put steps old new cell put more = record {
  less = λ c. elim (same_or_other c cell) [
    | inl here ↦ subst (λ d. mark_at new d ≤ mark_at old d) (sym here) (subst (λ k. k ≤ mark_at old cell) (sym put.here) (below steps (mark_at old cell) more))
    | inr other ↦ subst (λ k. k ≤ mark_at old c) (sym (put.others c other)) (omega arith)
  ];
  same = λ c few. elim (same_or_other c cell) [
    | inl here ↦ absurd (apart steps (mark_at old cell) more (subst (λ d. mark_at old d ≤ steps) here few))
    | inr other ↦ put.others c other
  ];
}
  where
    below : (i j : ℕ) → i < j → i ≤ j
    below i j h = omega (arith, h)

    apart : (i j : ℕ) → i < j → j ≤ i → ⊥
    apart i j h k = omega (arith, h, k)

pub lowers_on : (steps : ℕ) (first second third : Marks) → LowersMarks steps first second → LowersMarks steps second third → LowersMarks steps first third
lowers_on steps first second third one two = record {
  less = λ c. at_most (mark_at third c) (mark_at second c) (mark_at first c) (two.less c) (one.less c);
  same = λ c few. (two.same c (at_most (mark_at second c) (mark_at first c) steps (one.less c) few) ∙ one.same c few);
}

-- ---- a search

pub beyond_on : (first second third : GoalSearch) → AreBeyond first second → AreBeyond second third → AreBeyond first third
beyond_on first second third one two = record {
  goal = two.goal ∙ one.goal;
  start = two.start ∙ one.start;
  through = two.through ∙ one.through;
  next = λ i w at. two.next i w (one.next i w at);
}

module _ (m : Grid) (goal start : Cell) where
  -- what has spread, or was reached by a shorter way since, is left out
  pub left_out : (marks : Marks) (next later : List Waiting) (through n : ℕ) (w d : Waiting) → slice_get next n ≡ Some w
      → (mark_at marks w.cell ≡ w.steps → HasSpread m marks w.cell)
      → IsSpread m goal start marks next later through → IsSpread m goal start marks (swap_remove next n d) later through
  left_out marks next later through n w d there done is = record {
    at_goal = is.at_goal;
    spreads = λ c reached. elim (is.spreads c reached) [
      | inl spread ↦ inl spread
      | inr (inl first) ↦ still c first
      | inr (inr second) ↦ inr (inr second)
    ];
    first = λ i v at. (let was = was-there next n d within i v at in is.first was.0 v was.1);
    second = is.second;
    limit = is.limit;
  }
    where
      within : n < length next
      within = slice_get_within next n w there

      still : (c : Cell) → IsAmongThem next c (mark_at marks c) → HasSpread m marks c ⊎ IsAmongThem (swap_remove next n d) c (mark_at marks c) ⊎ IsAmongThem later c (mark_at marks c)
      still c has =
          let own : Waiting = record { cell = c; steps = mark_at marks c } in
          elim (still-there next n d within has.0 own has.1) [
            | inl same ↦
                let one : own ≡ w = same_Some own w (sym has.1 ∙ ap (slice_get next) same ∙ there) in
                let cells : c ≡ w.cell = ap (λ (v : Waiting). v.cell) one in
                let numbers : mark_at marks c ≡ w.steps = ap (λ (v : Waiting). v.steps) one in
                inl (subst (HasSpread m marks) (sym cells) (done (ap (mark_at marks) (sym cells) ∙ numbers)))
            | inr other ↦ inr (inl other)
          ]

  -- one more waits
  pub waits_next : (marks : Marks) (next later : List Waiting) (through : ℕ) (w : Waiting) → w.steps + between w.cell start ≡ through
      → IsSpread m goal start marks next later through → IsSpread m goal start marks (next ++ w ∷ []) later through
  waits_next marks next later through w sum is = record {
    at_goal = is.at_goal;
    spreads = λ c reached. elim (is.spreads c reached) [
      | inl spread ↦ inl spread
      | inr (inl first) ↦ inr (inl (first.0, get-left next w first.0 (record { cell = c; steps = mark_at marks c }) first.1))
      | inr (inr second) ↦ inr (inr second)
    ];
    first = λ i v at. elim (get-added next w i v at) [
      | inl new ↦ subst (λ (u : Waiting). u.steps + between u.cell start ≡ through) new sum
      | inr old ↦ is.first i v old
    ];
    second = is.second;
    limit = is.limit;
  }

  pub waits_later : (marks : Marks) (next later : List Waiting) (through : ℕ) (w : Waiting) → w.steps + between w.cell start ≡ through + 2
      → IsSpread m goal start marks next later through → IsSpread m goal start marks next (later ++ w ∷ []) through
  waits_later marks next later through w sum is = record {
    at_goal = is.at_goal;
    spreads = λ c reached. elim (is.spreads c reached) [
      | inl spread ↦ inl spread
      | inr (inl first) ↦ inr (inl first)
      | inr (inr second) ↦ inr (inr (second.0, get-left later w second.0 (record { cell = c; steps = mark_at marks c }) second.1))
    ];
    first = is.first;
    second = λ i v at. elim (get-added later w i v at) [
      | inl new ↦ subst (λ (u : Waiting). u.steps + between u.cell start ≡ through + 2) new sum
      | inr old ↦ is.second i v old
    ];
    limit = is.limit;
  }

  -- ---- and its marks

  spread_still : (old new : Marks) (c : Cell) → ((v : Cell) → mark_at new v ≤ mark_at old v) → mark_at new c ≡ mark_at old c → HasSpread m old c → HasSpread m new c
  spread_still old new c less same spread v step = subst (λ k. mark_at new v ≤ k + 1) (sym same) (at_most (mark_at new v) (mark_at old v) (mark_at old c + 1) (less v) (spread v step))

  pub same_still : (old new : Marks) (next later : List Waiting) (through : ℕ) → AreSameMarks old new
      → IsSpread m goal start old next later through → IsSpread m goal start new next later through
  same_still old new next later through same is = record {
    at_goal = same goal ∙ is.at_goal;
    spreads = λ c reached. elim (is.spreads c (subst (λ k. k < 4294967295) (same c) reached)) [
      | inl spread ↦ inl (spread_still old new c (λ v. subst (λ k. k ≤ mark_at old v) (sym (same v)) (omega arith)) (same c) spread)
      | inr waits ↦ inr (subst (λ k. IsAmongThem next c k ⊎ IsAmongThem later c k) (sym (same c)) waits)
    ];
    first = is.first;
    second = is.second;
    limit = is.limit;
  }

  -- a cell that waits is reached by a shorter way
  pub reached : (old new : Marks) (next later : List Waiting) (through : ℕ) (cell : Cell) (steps : ℕ) → IsPut old cell steps new
      → steps < mark_at old cell → (IsAmongThem next cell steps ⊎ IsAmongThem later cell steps)
      → IsSpread m goal start old next later through → IsSpread m goal start new next later through
  reached old new next later through cell steps put fewer has is = record {
    at_goal = elim (same_or_other goal cell) [
      | inl here ↦ absurd (never steps (mark_at old cell) fewer (subst (λ d. mark_at old d ≡ 0) here is.at_goal))
      | inr other ↦ put.others goal other ∙ is.at_goal
    ];
    spreads = λ c come. elim (same_or_other c cell) [
      | inl here ↦ inr (subst (λ d. IsAmongThem next d (mark_at new d) ⊎ IsAmongThem later d (mark_at new d)) (sym here)
          (subst (λ k. IsAmongThem next cell k ⊎ IsAmongThem later cell k) (sym put.here) has))
      | inr other ↦ (let same = put.others c other in
          elim (is.spreads c (subst (λ k. k < 4294967295) same come)) [
            | inl spread ↦ inl (spread_still old new c lower.less same spread)
            | inr waits ↦ inr (subst (λ k. IsAmongThem next c k ⊎ IsAmongThem later c k) (sym same) waits)
          ])
    ];
    first = is.first;
    second = is.second;
    limit = is.limit;
  }
    where
      lower : LowersMarks steps old new
      lower = lowers_put steps old new cell put fewer

      never : (i j : ℕ) → i < j → j ≡ 0 → ⊥
      never i j h e = omega (arith, h, e)
