-- An agent that kept to its ground up to a time.
use Rattle.std.proofs.Common.{◌≡◌, ℕ, ◌+◌, ◌<◌, ◌≤◌, length, arith, sym, ap, subst, inl, inr, ◌∙◌}
use Rattle.std.proofs.lemmas.Bool.{cases_lt}
use Rattle.grid.specs.declared.cell.Cell.{Cell}
use Rattle.grid.specs.Map.{Grid}
use Rattle.model.specs.Plan.{Course, position_of, position_at, IsBadMove}
use Rattle.checker.specs.Moving.{IsOnGrid, KeepsToGround}
use Rattle.checker.specs.Laws.Walking.{bad-has_act, position_at-start, position-stays}

-- up to the time the agent was in cells of the map, and no move was bad
pub record HasKept (m : Grid) (course : Course) (t : ℕ) : Type 0 where
  pub cells : (s : ℕ) → s ≤ t → (c : Cell) × (position_of c ≡ position_at course s) × IsOnGrid m c
  pub good : (s : ℕ) → s < t → IsBadMove m course s → ⊥

pub kept_none : (m : Grid) (course : Course) → IsOnGrid m course.start → HasKept m course 0
kept_none m course on = record {
  cells = λ s most. (let first : s ≡ 0 = omega (arith, most) in (
    course.start,
    sym (position_at-start (position_of course.start) course.acts)
        ∙ ap (position_at course) (sym first),
    on,
  ));
  good = λ s less. absurd (omega (arith, less));
}

pub kept_next : (m : Grid) (course : Course) (t : ℕ) (c : Cell) → HasKept m course t
    → position_of c ≡ position_at course (t + 1) → IsOnGrid m c
    → (IsBadMove m course t → ⊥) → HasKept m course (t + 1)
kept_next m course t c kept at on good = record {
  cells = λ s most. elim (cases_lt s (t + 1)) [
    | inl less ↦ kept.cells s (omega (arith, less))
    | inr past ↦ (let same : s ≡ t + 1 = omega (arith, most, past) in
        (c, at ∙ ap (position_at course) (sym same), on))
  ];
  good = λ s less. elim (cases_lt s t) [
    | inl before ↦ kept.good s before
    | inr last ↦ (let same : t ≡ s = omega (arith, less, last) in
        subst (λ n. IsBadMove m course n → ⊥) same good)
  ];
}

-- past its acts the agent stays
pub kept_always : (m : Grid) (course : Course) (t : ℕ) → length course.acts ≤ t → HasKept m course t
    → KeepsToGround m course
kept_always m course t over kept = record {
  cells = λ s. elim (cases_lt s t) [
    | inl less ↦ kept.cells s (omega (arith, less))
    | inr past ↦ (
        let last = kept.cells t (omega arith) in (
          last.0,
          last.1 ∙ sym (position-stays (position_of course.start) course.acts t s over past),
          last.2,
        )
        )
  ];
  good =
      λ s bad. (let within = bad-has_act m course s bad in
      kept.good s (omega (arith, within, over)) bad);
}
