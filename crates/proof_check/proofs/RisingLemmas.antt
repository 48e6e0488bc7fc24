-- Numbers that rise.
use Rattle.std.proofs.Common.{ℕ, ◌≤◌, List, [], ◌∷◌, ◌++◌, arith}
use Rattle.std.specs.List.{AllByRecursion}
use Rattle.proof_check.specs.Code.Rising.{RisesTo}

pub all_push : {X : Type 0} (P : X → Type 0) (xs : List X) (x : X) → AllByRecursion P xs → P x → AllByRecursion P (xs ++ x ∷ [])
all_push P [] x all own = (own, tt)
all_push P (y ∷ xs) x all own = (all.0, all_push P xs x all.1 own)

pub all_front : {X : Type 0} (P : X → Type 0) (xs : List X) (x : X) → AllByRecursion P (xs ++ x ∷ []) → AllByRecursion P xs
all_front P [] x all = tt
all_front P (y ∷ xs) x all = (all.0, all_front P xs x all.1)

pub all_last : {X : Type 0} (P : X → Type 0) (xs : List X) (x : X) → AllByRecursion P (xs ++ x ∷ []) → P x
all_last P [] x all = all.0
all_last P (y ∷ xs) x all = all_last P xs x all.1

pub rising-more : (numbers : List ℕ) (n k : ℕ) → RisesTo numbers n → n ≤ k → RisesTo numbers k
rising-more [] n k is more = tt
rising-more (a ∷ numbers) n k is more = (let own = is.0 in omega (arith, own, more), is.1, rising-more numbers n k is.2 more)

-- without the last, up to it
pub rising-front : (numbers : List ℕ) (a n : ℕ) → RisesTo (numbers ++ a ∷ []) n → RisesTo numbers a
rising-front [] a n is = tt
rising-front (b ∷ numbers) a n is = (all_last (λ c. b ≤ c) numbers a is.1, all_front (λ c. b ≤ c) numbers a is.1, rising-front numbers a n is.2)

pub rising-last : (numbers : List ℕ) (a n : ℕ) → RisesTo (numbers ++ a ∷ []) n → a ≤ n
rising-last [] a n is = is.0
rising-last (b ∷ numbers) a n is = rising-last numbers a n is.2

pub rising-push : (numbers : List ℕ) (a n : ℕ) → RisesTo numbers a → a ≤ n → RisesTo (numbers ++ a ∷ []) n
rising-push [] a n is most = (most, tt, tt)
rising-push (b ∷ numbers) a n is most =
    (let own = is.0 in omega (arith, own, most), all_push (λ c. b ≤ c) numbers a is.1 is.0, rising-push numbers a n is.2 most)
