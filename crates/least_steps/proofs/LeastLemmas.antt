-- The least number is that of the fewest straight steps, or of the shortest length.
use Rattle.std.proofs.Common.{◌≡◌, ℕ, ◌+◌, ◌*◌, ◌<◌, true, false, List, Some, None, inl, inr, arith, refl, sym, subst}
use Rattle.std.proofs.lemmas.Bool.{true≢false}
use Rattle.grid.specs.declared.cell.Cell.{Cell}
use Rattle.grid.specs.Map.{Grid}
use Rattle.scenario.specs.declared.length.Length.{Length}
use Rattle.scenario.specs.Length.{IsAtMost}
use Rattle.scenario.specs.Code.OrderLaws.{never_both}
use Rattle.walks.specs.Certificate.{IsLeast}
use Rattle.walks.specs.Laws.KeyOrder.{at_most_from_key}
use Rattle.walks.specs.Walk.{IsWalk}
use Rattle.least_steps.specs.LeastSteps.{IsLeastSteps}
use Rattle.least_steps.specs.Code.Reaching.{IsLeastNumber, IsWay}

-- ---- of straight steps

straight_way : (m : Grid) (u v : Cell) (cells : List Cell) (k : ℕ) → IsWalk m u v cells k 0 → IsWay m false u v cells (k * 6625109)
straight_way m u v cells k walk = record { straight = k; diagonal = 0; is_walk = walk; kinds = λ _. refl; number = omega arith }

pub fewest : (m : Grid) (u v : Cell) (n s : ℕ) → IsLeastNumber m false u v (Some n) → ((k : ℕ) → n ≡ (k + 1) * 6625109 → s ≡ k) → IsLeastSteps m u v (Some s)
fewest m u v n s least steps =
    let there = least.0 n refl in
    let way = there.2 in
    let none = way.kinds refl in
    let number = way.number in
    let begins = there.3 in
    let is = steps way.straight (omega (arith, none, number, begins)) in
    record {
      walk = there.0;
      is_walk = subst (λ k. IsWalk m u v there.0 k 0) (sym is) (subst (IsWalk m u v there.0 way.straight) none way.is_walk);
      least = λ cells k walk. let most = least.1 cells (k * 6625109) (straight_way m u v cells k walk) in omega (arith, most, is, none, number, begins);
    }

pub no_steps : (m : Grid) (u v : Cell) → IsLeastNumber m false u v None → IsLeastSteps m u v None
no_steps m u v least = λ cells k walk. least.1 cells (k * 6625109) (straight_way m u v cells k walk)

-- ---- of all steps

any_way : (m : Grid) (u v : Cell) (cells : List Cell) (s d : ℕ) → IsWalk m u v cells s d → IsWay m true u v cells (s * 6625109 + d * 9369319)
any_way m u v cells s d walk = record { straight = s; diagonal = d; is_walk = walk; kinds = λ no. absurd (true≢false no); number = refl }

same : (a b c d : ℕ) → IsAtMost a b c d → IsAtMost c d a b → (a ≡ c) × (b ≡ d)
same a b c d (inr h) k = h
same a b c d (inl h) (inr k) = (sym k.0, sym k.1)
same a b c d (inl h) (inl k) = absurd (never_both a b c d h k)

pub shortest : (m : Grid) (u v : Cell) (n : ℕ) (l : Length) → IsLeastNumber m true u v (Some n) → n < 6625109 * 9369319
    → n ≡ (l.straight + 1) * 6625109 + l.diagonal * 9369319 → IsLeast m u v (Some l)
shortest m u v n l least limit is =
    let there = least.0 n refl in
    let way = there.2 in
    let number = way.number in
    let begins = there.3 in
    let few = l.diagonal_limit in
    let equal : l.straight * 6625109 + l.diagonal * 9369319 ≡ way.straight * 6625109 + way.diagonal * 9369319 = omega (arith, is, number, begins) in
    let parts = same l.straight l.diagonal way.straight way.diagonal
    (at_most_from_key l.straight l.diagonal way.straight way.diagonal (omega (arith, few)) (omega (arith, equal)))
    (at_most_from_key way.straight way.diagonal l.straight l.diagonal (omega (arith, limit, number, begins)) (omega (arith, equal))) in
    record {
      walk = there.0;
      is_walk = subst (λ d. IsWalk m u v there.0 l.straight d) (sym parts.1) (subst (λ s. IsWalk m u v there.0 s way.diagonal) (sym parts.0) way.is_walk);
      least = λ cells s d walk.
          let most = least.1 cells (s * 6625109 + d * 9369319) (any_way m u v cells s d walk) in
          at_most_from_key l.straight l.diagonal s d (omega (arith, few)) (omega (arith, is, most));
    }

pub no_walk : (m : Grid) (u v : Cell) → IsLeastNumber m true u v None → IsLeast m u v None
no_walk m u v least = λ cells s d walk. least.1 cells (s * 6625109 + d * 9369319) (any_way m u v cells s d walk)
