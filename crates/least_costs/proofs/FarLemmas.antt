-- How far the walks to a goal have to go, by a search from there.
use Rattle.std.proofs.Common.{◌≡◌, ◌∙◌, ℕ, zero, suc, ◌+◌, ◌-◌, ◌≤◌, ◌⊎◌, List, [], inl, inr, arith, sym, ap, subst}
use Rattle.std.specs.Prelude.{slice_get}
use Rattle.std.proofs.lemmas.Bool.{cases_lt}
use Rattle.std.proofs.lemmas.Option.{none-some}
use Rattle.grid.specs.declared.cell.Cell.{Cell}
use Rattle.grid.specs.Map.{Grid, IsStraightStep}
use Rattle.model.specs.Costs.{cost}
use Rattle.model.specs.Timetable.{Track, cell_at}
use Rattle.optimality.specs.Walkers.{IsAgentWalk, MayFollow}
use Rattle.least_costs.specs.declared.goal_search.Waiting.{Waiting}
use Rattle.least_costs.specs.declared.marks.Marks.{Marks}
use Rattle.least_costs.specs.Code.GoalSearches.{HasSpread, IsAmongThem, IsSpread}
use Rattle.least_costs.specs.Code.Places.{between}
use Rattle.least_costs.specs.Code.Marks.{mark_at}
use Rattle.least_costs.specs.Code.Tables.{IsEstimate}
use Rattle.least_costs.proofs.ApartLemmas.{side_apart}
use Rattle.least_costs.proofs.LegalLemmas.{step_back}

-- a step leads nearer by one at the most
nearer : (m : Grid) (start u v : Cell) → IsStraightStep m u v → between v start ≤ between u start + 1
nearer m start u v step = side_apart v u start (step_back m u v step).side

-- By a search of which each cell that hasn't spread to those beside it is so far away at least that a walk by way of it takes as
-- much as a bound. A cell's height falls by one a step at the most.
module _ (m : Grid) (goal : Cell) (marks : Marks) (height : Cell → ℕ) (bound : ℕ) (at_goal : mark_at marks goal ≡ 0)
    (spreads : (c : Cell) → HasSpread m marks c ⊎ (bound ≤ mark_at marks c + height c))
    (falls : (u v : Cell) → IsStraightStep m u v → height v ≤ height u + 1)
    (start : Cell) (track : Track) (walker : IsAgentWalk m (record { start = start; goal = goal }) track) where
  abbrev IsFar : ℕ → ℕ → Type 0
  IsFar n t = (mark_at marks (cell_at track t) ≤ n) ⊎ (bound ≤ n + height (cell_at track t))

  by_way : (u v : Cell) (n : ℕ) → MayFollow m u v → (mark_at marks v ≤ n) ⊎ (bound ≤ n + height v) → (mark_at marks u ≤ suc n) ⊎ (bound ≤ suc n + height u)
  by_way u v n (inl same) far = subst (λ w. (mark_at marks w ≤ suc n) ⊎ (bound ≤ suc n + height w)) same (more far)
    where
      more : (mark_at marks v ≤ n) ⊎ (bound ≤ n + height v) → (mark_at marks v ≤ suc n) ⊎ (bound ≤ suc n + height v)
      more (inl few) = inl (omega (arith, few))
      more (inr past) = inr (omega (arith, past))
  by_way u v n (inr step) (inr past) = inr (sum bound n (height u) (height v) past (falls u v step))
    where
      sum : (b n i j : ℕ) → b ≤ n + j → j ≤ i + 1 → b ≤ suc n + i
      sum b n i j h k = omega (arith, h, k)
  by_way u v n (inr step) (inl few) = elim (spreads v) [
    | inl spread ↦ inl (one (mark_at marks u) (mark_at marks v) n (spread u step) few)
    | inr past ↦ inr (sum bound (mark_at marks v) n (height u) (height v) past few (falls u v step))
  ]
    where
      one : (j k n : ℕ) → j ≤ k + 1 → k ≤ n → j ≤ suc n
      one j k n h i = omega (arith, h, i)

      sum : (b k n i j : ℕ) → b ≤ k + j → k ≤ n → j ≤ i + 1 → b ≤ suc n + i
      sum b k n i j h l e = omega (arith, h, l, e)

  pub far : (n t : ℕ) → t + n ≡ cost track → IsFar n t
  far zero t at =
      let there : t ≡ cost track = omega (arith, at) in
      let none : mark_at marks (cell_at track t) ≡ 0 =
      ap (λ k. mark_at marks (cell_at track k)) there ∙ ap (λ c. mark_at marks c) walker.to_goal ∙ at_goal in
      inl (omega (arith, none))
  far (suc n) t at = by_way (cell_at track t) (cell_at track (t + 1)) n (walker.steps t) (far n (t + 1) (omega (arith, at)))

  pub far_from : (c : Cell) (t : ℕ) → t ≤ cost track → cell_at track t ≡ c → (mark_at marks c ≤ cost track - t) ⊎ (bound ≤ (cost track - t) + height c)
  far_from c t within at =
      let left : t + (cost track - t) ≡ cost track = omega (arith, within) in
      subst (λ d. (mark_at marks d ≤ cost track - t) ⊎ (bound ≤ (cost track - t) + height d)) at (far (cost track - t) t left)

module _ (m : Grid) (goal start : Cell) (marks : Marks) (next later : List Waiting) (through : ℕ) (is : IsSpread m goal start marks next later through) where
  -- a cell that hasn't spread is on no shorter way
  spread_or_past : (c : Cell) → HasSpread m marks c ⊎ (through ≤ mark_at marks c + between c start)
  spread_or_past c = elim (cases_lt (mark_at marks c) 4294967295) [
    | inl reached ↦ elim (is.spreads c reached) [
      | inl spread ↦ inl spread
      | inr (inl first) ↦
          let sum = is.first first.0 (record { cell = c; steps = mark_at marks c }) first.1 in inr (equal (mark_at marks c + between c start) through sum)
      | inr (inr second) ↦
          let sum = is.second second.0 (record { cell = c; steps = mark_at marks c }) second.1 in inr (more (mark_at marks c + between c start) through sum)
    ]
    | inr none ↦ inr (past through (mark_at marks c) (between c start) is.limit none)
  ]
    where
      equal : (s t : ℕ) → s ≡ t → t ≤ s
      equal s t h = omega (arith, h)

      more : (s t : ℕ) → s ≡ t + 2 → t ≤ s
      more s t h = omega (arith, h)

      past : (t k b : ℕ) → t ≤ 4294967295 → 4294967295 ≤ k → t ≤ k + b
      past t k b h i = omega (arith, h, i)

  -- a walk from a cell takes as many steps as are found, or as a way through it of which none is found yet
  pub estimate : (c : Cell) (n : ℕ) → n ≤ mark_at marks c → n ≤ through - between c start → IsEstimate (record { map = m; goal = goal }) c n
  estimate c n found left from track t walker within at =
      by (far_from m goal marks (λ u. between u start) through is.at_goal spread_or_past (λ u v. nearer m start u v) from track walker c t within at)
    where
      few : (t k n r : ℕ) → t ≤ r → k ≤ r - t → n ≤ k → t + n ≤ r
      few t k n r h i j = omega (arith, h, i, j)

      much : (t n b s r : ℕ) → t ≤ r → s ≤ (r - t) + b → n ≤ s - b → t + n ≤ r
      much t n b s r h i j = omega (arith, h, i, j)

      by : (mark_at marks c ≤ cost track - t) ⊎ (through ≤ (cost track - t) + between c start) → t + n ≤ cost track
      by (inl less) = few t (mark_at marks c) n (cost track) within less found
      by (inr past) = much t n (between c start) through (cost track) within past left

  -- where nothing waits, all ways are found
  pub whole_estimate : next ≡ [] → later ≡ [] → (c : Cell) → mark_at marks c ≤ 4294967295 → IsEstimate (record { map = m; goal = goal }) c (mark_at marks c)
  whole_estimate none none_later c limit from track t walker within at =
      by (far_from m goal marks (λ _. 0) 4294967295 is.at_goal all_spread (λ _ _ _. (omega arith)) from track walker c t within at)
    where
      none_in : (list : List Waiting) (d : Cell) (k : ℕ) → list ≡ [] → IsAmongThem list d k → ⊥
      none_in list d k empty has = none-some (record { cell = d; steps = k }) (sym (ap (λ l. slice_get l has.0) empty) ∙ has.1)

      all_spread : (d : Cell) → HasSpread m marks d ⊎ (4294967295 ≤ mark_at marks d + 0)
      all_spread d = elim (cases_lt (mark_at marks d) 4294967295) [
        | inl reached ↦ elim (is.spreads d reached) [
          | inl spread ↦ inl spread
          | inr (inl first) ↦ absurd (none_in next d (mark_at marks d) none first)
          | inr (inr second) ↦ absurd (none_in later d (mark_at marks d) none_later second)
        ]
        | inr past ↦ inr (omega (arith, past))
      ]

      few : (t k r : ℕ) → t ≤ r → k ≤ r - t → t + k ≤ r
      few t k r h i = omega (arith, h, i)

      much : (t k r : ℕ) → t ≤ r → 4294967295 ≤ (r - t) + 0 → k ≤ 4294967295 → t + k ≤ r
      much t k r h i j = omega (arith, h, i, j)

      by : (mark_at marks c ≤ cost track - t) ⊎ (4294967295 ≤ (cost track - t) + 0) → t + mark_at marks c ≤ cost track
      by (inl less) = few t (mark_at marks c) (cost track) within less
      by (inr past) = much t (mark_at marks c) (cost track) within past limit
