-- When a walk comes to rest.
use Rattle.std.proofs.Common.{◌≡◌, ◌∙◌, ℕ, ◌+◌, ◌-◌, ◌<◌, ◌≤◌, inl, inr, arith, sym, ap}
use Rattle.std.proofs.lemmas.Bool.{cases_lt}
use Rattle.grid.specs.declared.cell.Cell.{Cell}
use Rattle.model.specs.Costs.{IsCost, RestsFrom, cost}
use Rattle.model.specs.Timetable.{Track, cell_at}

-- `cost` is the least time from which an agent stays
abbrev pub CostLaw : Type 0
CostLaw = (track : Track) → IsCost track (cost track)

-- ---- a walk at rest

-- from when it comes to rest, it is in one cell
pub at_rest : CostLaw → (track : Track) (goal : Cell) (s t : ℕ) → cost track ≤ s → cell_at track s ≡ goal → cost track ≤ t → cell_at track t ≡ goal
at_rest law track goal s t first there second = (law track).rests t second ∙ sym ((law track).rests s first) ∙ there

-- a walk that moves just before a time and stays from then on comes to rest then
pub cost_is : CostLaw → (track : Track) (n : ℕ) → RestsFrom track n → (0 < n → cell_at track (n - 1) ≡ cell_at track n → ⊥) → n ≡ cost track
cost_is law track n rests moves = elim (cases_lt n (cost track)) [
  | inl less ↦ absurd ((law track).least n less rests)
  | inr most ↦ elim (cases_lt (cost track) n) [
    | inl more ↦
        let before : cost track ≤ n - 1 = omega (arith, more) in
        absurd (moves (omega (arith, more)) ((law track).rests (n - 1) before ∙ sym ((law track).rests n most)))
    | inr past ↦ omega (arith, most, past)
  ]
]

-- a walk doesn't come to rest by waiting
pub waits_on : CostLaw → (track : Track) (goal : Cell) (t : ℕ) → cell_at track (cost track) ≡ goal → cell_at track t ≡ goal → t + 1 ≡ cost track → ⊥
waits_on law track goal t to_goal there last = (law track).least t (omega (arith, last)) stays
  where
    stays : RestsFrom track t
    stays later past = elim (cases_lt t later) [
      | inl after ↦
          let at_end : cost track ≤ later = omega (arith, last, after) in
          (law track).rests later at_end ∙ to_goal ∙ sym there
      | inr now ↦ let same : later ≡ t = omega (arith, past, now) in ap (cell_at track) same
    ]
