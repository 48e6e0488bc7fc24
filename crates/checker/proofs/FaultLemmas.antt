-- Faults of a time, and plans without any.
use Rattle.std.proofs.Common.{◌≡◌, ℕ, ◌+◌, ◌<◌, ◌≤◌, ◌⊎◌, length, Some, arith, refl, sym, subst, inl, inr, ◌∙◌}
use Rattle.std.specs.Prelude.{MatchOption}
use Rattle.std.proofs.lemmas.Bool.{cases_lt}
use Rattle.grid.specs.Map.{Grid}
use Rattle.model.specs.declared.plan_fault.PlanFault.{PlanFault}
use Rattle.model.specs.declared.plan_fault.PlanFault.TheVariants.{BadStart, BadMove, Vertex, Swap, OutOfMemory}
use Rattle.model.specs.Plan.{Course, Plan, Position, position_of, position_at, course_of, IsAt, HasPlanFault, IsValid, Key, key_of, IsBefore, IsLeastFault}
use Rattle.model.specs.Laws.Options.{some-found}
use Rattle.checker.specs.Code.Walking.{IsFirst, HasBadStart, ArePassable}
use Rattle.checker.specs.Code.Watching.{IsClean}
use Rattle.checker.specs.Laws.Walking.{position-stays, course_from, bad-has_act}
use Rattle.checker.proofs.SameFaults.{one_place}

-- ---- keys

pub before-time : (a b : Key) → IsBefore a b → (a.time < b.time) ⊎ (a.time ≡ b.time)
before-time a b (inl less) = inl less
before-time a b (inr rest) = inr rest.0

before-rank : (a b : Key) → IsBefore a b → a.time ≡ b.time → a.rank ≤ b.rank
before-rank a b (inl less) same = absurd (omega (arith, less, same))
before-rank a b (inr (time, inl less)) same = omega (arith, less)
before-rank a b (inr (time, inr rest)) same = let e = rest.0 in omega (arith, e)

-- of one time and rank, the one with the lesser agents comes before
before-agents : (a b : Key) → IsBefore a b → a.time ≡ b.time → a.rank ≡ b.rank → (a.first < b.first) ⊎ ((a.first ≡ b.first) × (a.second < b.second))
before-agents a b (inl less) same rank = absurd (omega (arith, less, same))
before-agents a b (inr (time, inl less)) same rank = absurd (omega (arith, less, rank))
before-agents a b (inr (time, inr rest)) same rank = rest.1

-- ---- the least fault of a time

-- no start and no move is a fault of the time
pub record HasNoBad (m : Grid) (p : Plan) (t : ℕ) : Type 0 where
  pub start : (i : ℕ) → 0 ≡ t → HasPlanFault m p (BadStart i) → ⊥
  pub move : (i step : ℕ) → step + 1 ≡ t → HasPlanFault m p (BadMove i step) → ⊥

-- nothing comes before the fault at its time
abbrev IsFirstAt : Grid → Plan → Key → Type 0
IsFirstAt m p key = (other : PlanFault) → HasPlanFault m p other → (key_of other).time ≡ key.time → IsBefore (key_of other) key → ⊥

least_from : (m : Grid) (p : Plan) (fault : PlanFault) → HasPlanFault m p fault → IsClean m p (key_of fault).time → IsFirstAt m p (key_of fault) → IsLeastFault m p fault
least_from m p fault has clean first = record {
  has = has;
  first = λ other is before. elim (before-time (key_of other) (key_of fault) before) [
    | inl less ↦ clean other is less
    | inr same ↦ first other is same before
  ];
}

pub least_start : (m : Grid) (p : Plan) (i : ℕ) → IsFirst (HasBadStart m p.courses) i → IsLeastFault m p (BadStart i)
least_start m p i h = least_from m p (BadStart i) h.is_one (λ other is less. absurd (omega (arith, less))) first where
  first : IsFirstAt m p (key_of (BadStart i))
  first (BadStart j) is time before = elim (before-agents (key_of (BadStart j)) (key_of (BadStart i)) before refl refl) [
    | inl less ↦ h.first j less is
    | inr (same, less) ↦ absurd (omega (arith, less))
  ]
  first (BadMove j step) is time before = absurd (omega (arith, time))
  first (Vertex j k time cell) is same before = let rank = before-rank (key_of (Vertex j k time cell)) (key_of (BadStart i)) before same in absurd (omega (arith, rank))
  first (Swap j k step) is time before = absurd (omega (arith, time))
  first OutOfMemory is time before = absurd is

-- ---- no fault of a time

pub clean_more : (m : Grid) (p : Plan) (t : ℕ) → IsClean m p t → ((fault : PlanFault) → HasPlanFault m p fault → (key_of fault).time ≡ t → ⊥) → IsClean m p (t + 1)
clean_more m p t clean none fault has less = elim (cases_lt (key_of fault).time t) [
  | inl before ↦ clean fault has before
  | inr after ↦ none fault has (omega (arith, less, after))
]

-- ---- a step without bad moves

pub good_start : (m : Grid) (p : Plan) → ArePassable m p.courses → HasNoBad m p 0
good_start m p passable = record {
  start = λ i zero_time bad. (let course = some-found (course_of p i) _ bad in course.2 (passable i course.0 course.1));
  move = λ i step time bad. absurd (omega (arith, time));
}

-- ---- all acts are over

pub valid_at_end : (m : Grid) (p : Plan) (step : ℕ) → ((i : ℕ) (course : Course) → course_of p i ≡ Some course → length course.acts ≤ step)
    → IsClean m p (step + 1) → IsValid m p
valid_at_end m p step over clean = valid where
  -- where an agent is later it is already
  already : (i t : ℕ) (place : Position) → step ≤ t → IsAt p i t place → IsAt p i step place
  already i t place later is =
      let course = some-found (course_of p i) (λ k. position_at k t ≡ place) is in
      subst (λ o. MatchOption o ⊥ (λ k. position_at k step ≡ place)) (sym course.1)
      (sym (position-stays (position_of course.0.start) course.0.acts step t (over i course.0 course.1) later) ∙ course.2)

  valid : IsValid m p
  valid (BadStart i) has = clean (BadStart i) has (omega arith)
  valid (BadMove i other) has = elim (cases_lt other step) [
    | inl less ↦ clean (BadMove i other) has (omega (arith, less))
    | inr past ↦ (
        let course = course_from m p.courses other i has in
        let most = over i course.0 course.1 in
        let less = bad-has_act m course.0 other course.2 in
        omega (arith, most, past, less)
        )
  ]
  valid (Vertex i j time cell) has = elim (cases_lt time (step + 1)) [
    | inl less ↦ clean (Vertex i j time cell) has less
    | inr past ↦ clean (Vertex i j step cell)
        (has.0, already i time (position_of cell) (omega (arith, past)) has.1, already j time (position_of cell) (omega (arith, past)) has.2) (omega arith)
  ]
  valid (Swap i j other) has = elim (cases_lt other step) [
    | inl less ↦ clean (Swap i j other) has (omega (arith, less))
    | inr past ↦ has.3 (one_place p i step has.1 has.2 (already i other has.1 past has.4) (already i (other + 1) has.2 (omega (arith, past)) has.5))
  ]
  valid OutOfMemory has = has
