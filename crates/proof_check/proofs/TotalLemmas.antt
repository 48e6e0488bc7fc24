-- What numbers come to.
use Rattle.std.proofs.Common.{◌≡◌, ℕ, zero, suc, ◌+◌, ◌<◌, ◌≤◌, List, [], ◌∷◌, ◌++◌, length, Some, arith, sym, ap, subst, ◌∙◌, get_or, take}
use Rattle.std.specs.Prelude.{MatchOption, None, Option, max, slice_get, sum}
use Rattle.grid.specs.Map.{Grid}
use Rattle.optimality.specs.declared.constraint.Demand.{Demand}
use Rattle.optimality.specs.declared.constraint.Ends.{Ends}
use Rattle.proof_check.specs.Code.Trails.{AreFoundLeast}
use Rattle.std.proofs.Math.Seq.{take-suc}
use Rattle.std.proofs.lemmas.List.Sums.{sum_by-cons}
use Rattle.std.proofs.lemmas.Option.{none-some, same_Some}
use Rattle.optimality.specs.declared.constraint.Objective.{Objective}
use Rattle.optimality.specs.declared.constraint.Objective.TheVariants.{Cost, Makespan}
use Rattle.optimality.specs.Judging.{LeafIsLow, LeafStands, greatest_number, objective_of}

-- one number more
pub sum-push : (numbers : List ℕ) (n : ℕ) → sum (numbers ++ n ∷ []) ≡ sum numbers + n
sum-push [] n = omega (arith, sum_by-cons (λ k. k) n [])
sum-push (a ∷ numbers) n = omega (arith, sum-push numbers n, sum_by-cons (λ k. k) a (numbers ++ n ∷ []), sum_by-cons (λ k. k) a numbers)

pub greatest-push : (numbers : List ℕ) (n : ℕ) → greatest_number (numbers ++ n ∷ []) ≡ max (greatest_number numbers) n
greatest-push [] n = omega arith
greatest-push (a ∷ numbers) n = omega (arith, greatest-push numbers n)

-- all have more than their beginning
pub sum-front : (front rest : List ℕ) → sum front ≤ sum (front ++ rest)
sum-front [] rest = omega arith
sum-front (a ∷ front) rest = omega (arith, sum-front front rest, sum_by-cons (λ k. k) a front, sum_by-cons (λ k. k) a (front ++ rest))

pub greatest-front : (front rest : List ℕ) → greatest_number front ≤ greatest_number (front ++ rest)
greatest-front [] rest = omega arith
greatest-front (a ∷ front) rest = omega (arith, greatest-front front rest)

-- no number is above the total
pub below_total : (objective : Objective) (numbers : List ℕ) (k n : ℕ) → slice_get numbers k ≡ Some n → n ≤ objective_of objective numbers
below_total objective [] k n is = absurd (none-some n is)
below_total Cost (a ∷ numbers) zero n is = let same = same_Some a n is in omega (arith, same, sum_by-cons (λ k. k) a numbers)
below_total Cost (a ∷ numbers) (suc k) n is = omega (arith, below_total Cost numbers k n is, sum_by-cons (λ k. k) a numbers)
below_total Makespan (a ∷ numbers) zero n is = let same = same_Some a n is in omega (arith, same)
below_total Makespan (a ∷ numbers) (suc k) n is = omega (arith, below_total Makespan numbers k n is)

-- the greatest of the first numbers and the next
pub greatest-taken : (numbers : List ℕ) (i : ℕ) → i < length numbers
    → greatest_number (take (i + 1) numbers) ≡ max (greatest_number (take i numbers)) (get_or numbers i 0)
greatest-taken numbers i more =
    let next : suc i ≡ i + 1 = omega arith in
    ap (λ n. greatest_number (take n numbers)) (sym next)
    ∙ ap greatest_number (take-suc numbers i 0 more) ∙ greatest-push (take i numbers) (get_or numbers i 0)

-- what was found of all agents judges the leaf
pub judged : (m : Grid) (ends : List Ends) (objective : Objective) (bound : ℕ) (demands : List Demand) (numbers : List ℕ) (r : Option ℕ) → AreFoundLeast m ends demands bound numbers
    → MatchOption r (bound ≤ objective_of objective numbers) (λ total. (total ≡ objective_of objective numbers) × (total < bound))
    → MatchOption r (LeafStands m ends objective bound demands) (LeafIsLow m ends objective bound demands)
judged m ends objective bound demands numbers None are over = (numbers, record { count = are.count; each = are.least }, over)
judged m ends objective bound demands numbers (Some total) are low = (
  numbers,
  record {
    count = are.count;
    each = λ k n own number there. are.costs k n own number there
        (let most = below_total objective numbers k n number in let is = low.0 in let less = low.1 in omega (arith, most, is, less));
  },
  low.0,
  low.1,
)

pub judged_by : (m : Grid) (ends : List Ends) (objective : Objective) (bound : ℕ) (demands : List Demand) (numbers same : List ℕ) (r : Option ℕ) → same ≡ numbers
    → AreFoundLeast m ends demands bound numbers
    → MatchOption r (bound ≤ objective_of objective same) (λ total. (total ≡ objective_of objective same) × (total < bound))
    → MatchOption r (LeafStands m ends objective bound demands) (LeafIsLow m ends objective bound demands)
judged_by m ends objective bound demands numbers same r is are h =
    judged m ends objective bound demands numbers r are
    (subst (λ (l : List ℕ). MatchOption r (bound ≤ objective_of objective l) (λ total. (total ≡ objective_of objective l) × (total < bound))) is h)
