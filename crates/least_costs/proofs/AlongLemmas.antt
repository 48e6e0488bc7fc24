-- The cells of a walk.
use Rattle.std.proofs.Common.{◌≡◌, ◌∙◌, ℕ, zero, suc, ◌+◌, ◌-◌, ◌<◌, ◌≤◌, min, List, [], ◌∷◌, length, get_or, Some, inl, inr, arith, refl, sym, ap, subst}
use Rattle.std.specs.Prelude.{slice_get}
use Rattle.std.proofs.lemmas.Bool.{cases_lt}
use Rattle.std.proofs.lemmas.Option.{none-some, same_Some, slice_get-get_or}
use Rattle.grid.specs.declared.cell.Cell.{Cell}
use Rattle.grid.specs.Map.{Grid}
use Rattle.model.specs.Costs.{RestsFrom, cost}
use Rattle.model.specs.Plan.{IsPassable}
use Rattle.model.specs.Timetable.{cell_at}
use Rattle.optimality.specs.declared.constraint.Ends.{Ends}
use Rattle.optimality.specs.Walkers.{IsAgentWalk, MayFollow, along}
use Rattle.least_costs.proofs.TrackLemmas.{CostLaw, cost_is}

pub along_at : (cells : List Cell) (t : ℕ) (c : Cell) → slice_get cells t ≡ Some c → cell_at (along cells) t ≡ c
along_at [] t c is = absurd (none-some c is)
along_at (d ∷ []) zero c is = same_Some d c is
along_at (d ∷ []) (suc t) c is = absurd (none-some c is)
along_at (d ∷ e ∷ cells) zero c is = same_Some d c is
along_at (d ∷ e ∷ cells) (suc t) c is = along_at (e ∷ cells) t c is

-- from its last cell on a walk stays
pub past : (cells : List Cell) (s t : ℕ) → length cells ≤ s + 1 → s ≤ t → cell_at (along cells) t ≡ cell_at (along cells) s
past [] s t all later = refl
past (d ∷ []) s t all later = refl
past (d ∷ e ∷ cells) zero t all later = absurd (omega (arith, all))
past (d ∷ e ∷ cells) (suc s) zero all later = absurd (omega (arith, later))
past (d ∷ e ∷ cells) (suc s) (suc t) all later = past (e ∷ cells) s t (omega (arith, all)) (omega (arith, later))

-- the cell at a time, by the place of the last one
pub along_least : (cells : List Cell) (last t place : ℕ) (c : Cell) → length cells ≡ last + 1 → place ≡ min last t → slice_get cells place ≡ Some c
    → cell_at (along cells) t ≡ c
along_least cells last t place c all least is = elim (cases_lt t last) [
  | inl before ↦
      let same : t ≡ place = omega (arith, least, before) in
      ap (cell_at (along cells)) same ∙ along_at cells place c is
  | inr after ↦
      let same : last ≡ place = omega (arith, least, after) in
      past cells last t (omega (arith, all)) after ∙ ap (cell_at (along cells)) same ∙ along_at cells place c is
]

-- a walk that isn't in a cell at a time, nor in any of its cells from then on, is never there later
pub never : (cells : List Cell) (time : ℕ) (c : Cell) → ((k : ℕ) → time ≤ k → k < length cells → slice_get cells k ≡ Some c → ⊥)
    → (cell_at (along cells) time ≡ c → ⊥) → (later : ℕ) → time ≤ later → cell_at (along cells) later ≡ c → ⊥
never cells time c each here later after is = elim (cases_lt later (length cells)) [
  | inl within ↦ at_place later after within is
  | inr beyond ↦ elim (cases_lt time (length cells)) [
    | inl some ↦
        let last = length cells - 1 in
        at_place last (before time (length cells) some) (below time (length cells) some) (sym (past cells last later (one (length cells)) (least time (length cells) later some beyond)) ∙ is)
    | inr none ↦ here (sym (past cells time later (omega (arith, none)) after) ∙ is)
  ]
]
  where
    at_place : (k : ℕ) → time ≤ k → k < length cells → cell_at (along cells) k ≡ c → ⊥
    at_place k from within there =
        let found = slice_get-get_or cells k c within in
        each k from within (found ∙ ap Some (sym (along_at cells k (get_or cells k c) found) ∙ there))

    before : (t n : ℕ) → t < n → t ≤ n - 1
    before t n h = omega (arith, h)

    below : (t n : ℕ) → t < n → n - 1 < n
    below t n h = omega (arith, h)

    one : (n : ℕ) → n ≤ n - 1 + 1
    one n = omega arith

    least : (t n later : ℕ) → t < n → n ≤ later → n - 1 ≤ later
    least t n later h i = omega (arith, h, i)

-- when a walk comes to rest
pub cost_along : CostLaw → (cells : List Cell) (rest at : ℕ) → rest < at → length cells ≤ at
    → ((k : ℕ) → rest ≤ k → k < at → cell_at (along cells) k ≡ cell_at (along cells) rest)
    → (0 < rest → cell_at (along cells) (rest - 1) ≡ cell_at (along cells) rest → ⊥) → rest ≡ cost (along cells)
cost_along law cells rest at less all same moves = cost_is law (along cells) rest stays moves
  where
    stays : RestsFrom (along cells) rest
    stays later after = elim (cases_lt later at) [
      | inl before ↦ same later after before
      | inr beyond ↦
          let last : rest ≤ at - 1 = omega (arith, less) in
          past cells (at - 1) later (omega (arith, all, less)) (omega (arith, less, beyond)) ∙ same (at - 1) last (omega (arith, less))
    ]

-- it follows its steps
pub steps_along : (m : Grid) (cells : List Cell) → ((k : ℕ) (u v : Cell) → slice_get cells k ≡ Some u → slice_get cells (k + 1) ≡ Some v → MayFollow m u v)
    → (t : ℕ) → MayFollow m (cell_at (along cells) t) (cell_at (along cells) (t + 1))
steps_along m cells each t = elim (cases_lt (t + 1) (length cells)) [
  | inl within ↦
      let none : Cell = record { x = 0; y = 0 } in
      let first = slice_get-get_or cells t none (omega (arith, within)) in
      let second = slice_get-get_or cells (t + 1) none within in
      subst (λ u. MayFollow m u (cell_at (along cells) (t + 1))) (sym (along_at cells t (get_or cells t none) first))
      (subst (MayFollow m (get_or cells t none)) (sym (along_at cells (t + 1) (get_or cells (t + 1) none) second))
      (each t (get_or cells t none) (get_or cells (t + 1) none) first second))
  | inr beyond ↦ inl (past cells t (t + 1) beyond (omega arith))
]

start_of : (cells : List Cell) (c : Cell) → slice_get cells 0 ≡ Some c → (along cells).start ≡ c
start_of [] c is = absurd (none-some c is)
start_of (d ∷ cells) c is = same_Some d c is

pub walks : (m : Grid) (ends : Ends) (cells : List Cell) (n : ℕ) → slice_get cells 0 ≡ Some ends.start → n ≡ cost (along cells) → slice_get cells n ≡ Some ends.goal
    → IsPassable m ends.start → ((k : ℕ) (u v : Cell) → slice_get cells k ≡ Some u → slice_get cells (k + 1) ≡ Some v → MayFollow m u v) → IsAgentWalk m ends (along cells)
walks m ends cells n first rest last passable steps = record {
  from_start = start_of cells ends.start first;
  passable = subst (IsPassable m) (sym (start_of cells ends.start first)) passable;
  steps = steps_along m cells steps;
  to_goal = ap (cell_at (along cells)) (sym rest) ∙ along_at cells n ends.goal last;
}

-- ---- cells by their places

pub at_place : (cells : List Cell) (none : Cell) (k i : ℕ) (u : Cell) → k ≡ i → i < length cells → slice_get cells k ≡ Some u → get_or cells i none ≡ u
at_place cells none k i u same within is =
    same_Some (get_or cells i none) u (sym (slice_get-get_or cells i none within) ∙ ap (slice_get cells) (sym same) ∙ is)

along_place : (cells : List Cell) (none : Cell) (i : ℕ) → i < length cells → cell_at (along cells) i ≡ get_or cells i none
along_place cells none i within = along_at cells i (get_or cells i none) (slice_get-get_or cells i none within)

-- up to a time the walk is in one cell from a time on, before which it moved
abbrev pub RestsBefore : List Cell → (rest at : ℕ) → Type 0
RestsBefore cells rest at =
    (rest < at) × (rest ≤ length cells)
    × ((k : ℕ) → rest ≤ k → k < at → cell_at (along cells) k ≡ cell_at (along cells) rest)
    × (0 < rest → cell_at (along cells) (rest - 1) ≡ cell_at (along cells) rest → ⊥)

pub rests_anew : (cells : List Cell) (none : Cell) (at : ℕ) → 0 < at → at < length cells → (get_or cells at none ≡ get_or cells (at - 1) none → ⊥) → RestsBefore cells at (at + 1)
rests_anew cells none at later within differ = (
  omega arith,
  omega (arith, within),
  λ k from below. (let same : k ≡ at = omega (arith, from, below) in ap (cell_at (along cells)) same),
  λ _ same. (let before : at - 1 < length cells = omega (arith, within) in
      differ (sym (along_place cells none at within) ∙ sym same ∙ along_place cells none (at - 1) before)),
)

pub rests_on : (cells : List Cell) (none : Cell) (rest at : ℕ) → at < length cells → get_or cells at none ≡ get_or cells (at - 1) none → RestsBefore cells rest at
    → RestsBefore cells rest (at + 1)
rests_on cells none rest at within same rests = (
  omega (arith, rests.0),
  rests.1,
  λ k from below. elim (cases_lt k at) [
    | inl before ↦ rests.2 k from before
    | inr now ↦
        let here : k ≡ at = omega (arith, below, now) in
        let one : at - 1 < length cells = omega (arith, within) in
        let least : rest ≤ at - 1 = omega (arith, rests.0) in
        let less : at - 1 < at = omega (arith, rests.0) in
        ap (cell_at (along cells)) here ∙ along_place cells none at within ∙ same ∙ sym (along_place cells none (at - 1) one) ∙ rests.2 (at - 1) least less
  ],
  rests.3,
)
