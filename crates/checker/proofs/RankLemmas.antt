-- Which faults there are at one time and of one rank.
use Rattle.std.proofs.Common.{◌≡◌, ℕ, ◌+◌, ◌<◌, ◌≤◌, inl, inr, arith, refl, sym, ap, subst, ◌∙◌, length}
use Rattle.std.proofs.lemmas.Bool.{cases_lt}
use Rattle.grid.specs.Map.{Grid}
use Rattle.model.specs.declared.plan_fault.PlanFault.{PlanFault}
use Rattle.model.specs.declared.plan_fault.PlanFault.TheVariants.{BadStart, BadMove, Vertex, Swap, OutOfMemory}
use Rattle.model.specs.Plan.{Plan, HasPlanFault, Key, key_of, IsBefore}
use Rattle.checker.specs.AllFaults.{IsFaultTold}
use Rattle.checker.specs.Code.Known.{key_with}
use Rattle.checker.proofs.KeyLemmas.{row_grows, in_row, next_row_grows, in_next_row, next_rank_grows, in_next_rank, next_time_grows, in_next_time}
use Rattle.checker.proofs.SameFaults.{same_fault, fault_agents}
use Rattle.checker.proofs.KnownLemmas.{IsGap, IsOnly}

-- ---- keys that are told apart by their numbers

key-from : (key : Key) (t r i j : ℕ) → key.time ≡ t → key.rank ≡ r → key.first ≡ i → key.second ≡ j → key ≡ key_with t r i j
key-from key t r i j time rank first second =
    ap {A = ℕ} {B = Key} (λ n. record { time = n; rank = key.rank; first = key.first; second = key.second }) time
    ∙ ap {A = ℕ} {B = Key} (λ n. record { time = t; rank = n; first = key.first; second = key.second }) rank
    ∙ ap {A = ℕ} {B = Key} (λ n. record { time = t; rank = r; first = n; second = key.second }) first
    ∙ ap {A = ℕ} {B = Key} (λ n. record { time = t; rank = r; first = i; second = n }) second

-- ---- the ends of a row, of a rank, and of a time

pub rank-gap : (m : Grid) (p : Plan) (t r n : ℕ) → length p.courses ≤ n → IsGap m p (key_with t r n 0) (key_with t (r + 1) 0 0)
rank-gap m p t r n past = record {
  grows = λ key h. next_rank_grows key t r n h;
  none = λ f has told less. elim (in_next_rank (key_of f) t r n less) [
    | inl before ↦ before
    | inr there ↦ absurd (let own = (fault_agents m p f has).first in let first = there.1.1 in omega (arith, own, first, past))
  ];
}

-- a row in which no fault is left
pub row-gap : (m : Grid) (p : Plan) (t r i a : ℕ)
    → ((f : PlanFault) → HasPlanFault m p f → IsFaultTold p f → (key_of f).time ≡ t → (key_of f).rank ≡ r → (key_of f).first ≡ i → a ≤ (key_of f).second → ⊥)
    → IsGap m p (key_with t r i a) (key_with t r (i + 1) 0)
row-gap m p t r i a none = record {
  grows = λ key h. next_row_grows key t r i a h;
  none = λ f has told less. elim (in_next_row (key_of f) t r i a less) [
    | inl before ↦ before
    | inr there ↦ absurd (none f has told there.0 there.1.0 there.1.1.0 there.1.1.1)
  ];
}

-- a part of a row in which there is no fault
pub part-gap : (m : Grid) (p : Plan) (t r i a b : ℕ) → a ≤ b
    → ((f : PlanFault) → HasPlanFault m p f → IsFaultTold p f → key_of f ≡ key_with t r i (key_of f).second → a ≤ (key_of f).second → (key_of f).second < b → ⊥)
    → IsGap m p (key_with t r i a) (key_with t r i b)
part-gap m p t r i a b order none = record {
  grows = λ key h. row_grows key t r i a b order h;
  none = λ f has told less. elim (in_row (key_of f) t r i a b less) [
    | inl before ↦ before
    | inr there ↦ absurd (none f has told (key-from (key_of f) t r i (key_of f).second there.0 there.1.0 there.1.1.0 refl) there.1.1.1.0 there.1.1.1.1)
  ];
}

-- the rest of a row in which there is no fault
pub rest-gap : (m : Grid) (p : Plan) (t r i a : ℕ)
    → ((f : PlanFault) → HasPlanFault m p f → IsFaultTold p f → key_of f ≡ key_with t r i (key_of f).second → a ≤ (key_of f).second → ⊥)
    → IsGap m p (key_with t r i a) (key_with t r (i + 1) 0)
rest-gap m p t r i a none =
    row-gap m p t r i a (λ f has told time rank first second. none f has told (key-from (key_of f) t r i (key_of f).second time rank first refl) second)

-- a time at which no fault of the rank or of a greater one is left
pub time-gap : (m : Grid) (p : Plan) (t r : ℕ) → ((f : PlanFault) → HasPlanFault m p f → (key_of f).time ≡ t → r ≤ (key_of f).rank → ⊥) → IsGap m p (key_with t r 0 0) (key_with (t + 1) 0 0 0)
time-gap m p t r none = record {
  grows = λ key h. next_time_grows key t r h;
  none = λ f has told less. elim (in_next_time (key_of f) t r less) [
    | inl before ↦ before
    | inr there ↦ absurd (none f has there.0 there.1)
  ];
}

-- no rank is above 2
pub last-rank-gap : (m : Grid) (p : Plan) (t : ℕ) → IsGap m p (key_with t 3 0 0) (key_with (t + 1) 0 0 0)
last-rank-gap m p t = time-gap m p t 3 (λ f has time rank. (let own = (fault_agents m p f has).rank in omega (arith, own, rank)))

-- at time 0 there are no swaps
swap-later : (m : Grid) (p : Plan) (f : PlanFault) → HasPlanFault m p f → (key_of f).time ≡ 0 → 2 ≤ (key_of f).rank → ⊥
swap-later m p (BadStart i) has time rank = omega (arith, rank)
swap-later m p (BadMove i s) has time rank = omega (arith, rank)
swap-later m p (Vertex i j t c) has time rank = omega (arith, rank)
swap-later m p (Swap i j s) has time rank = omega (arith, time)
swap-later m p OutOfMemory has time rank = has

pub start-gap : (m : Grid) (p : Plan) → IsGap m p (key_with 0 2 0 0) (key_with 1 0 0 0)
start-gap m p = time-gap m p 0 2 (swap-later m p)

-- ---- one fault of a row

-- the fault stands at its place in the row, and no other is left before it
pub row-only : (m : Grid) (p : Plan) (t r i a b : ℕ) (fault : PlanFault) → HasPlanFault m p fault → IsFaultTold p fault → key_of fault ≡ key_with t r i b → a ≤ b
    → ((f : PlanFault) → HasPlanFault m p f → IsFaultTold p f → key_of f ≡ key_with t r i (key_of f).second → a ≤ (key_of f).second → (key_of f).second < b → ⊥)
    → IsOnly m p (key_with t r i a) fault (key_with t r i (b + 1))
row-only m p t r i a b fault has told is order none = record {
  has = has;
  told = told;
  grows = λ key h. row_grows key t r i a (b + 1) (omega (arith, order)) h;
  after = λ key h. subst (IsBefore key) (sym is) (row_grows key t r i a b order h);
  before = subst (λ k. IsBefore k (key_with t r i (b + 1))) (sym is) (inr (refl, inr (refl, inr (refl, omega arith))));
  only = λ f other also less. elim (in_row (key_of f) t r i a (b + 1) less) [
    | inl before ↦ inl before
    | inr there ↦ (
        let same = key-from (key_of f) t r i (key_of f).second there.0 there.1.0 there.1.1.0 refl in
        elim (cases_lt (key_of f).second b) [
          | inl sooner ↦ absurd (none f other also same there.1.1.1.0 sooner)
          | inr later ↦ inr (same_fault m p f fault other has (
              let last : (key_of f).second ≡ b = (let more = there.1.1.1.1 in omega (arith, more, later)) in
              let both : key_of f ≡ key_of fault = same ∙ ap (key_with t r i) last ∙ sym is in
              record { time = ap (λ k. k.time) both; rank = ap (λ k. k.rank) both; first = ap (λ k. k.first) both; second = ap (λ k. k.second) both }))
        ]
        )
  ];
}
