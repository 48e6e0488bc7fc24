-- Where the test says that the one is not at most the other, it is more.
use Rattle.std.proofs.Common.{◌≡◌, ℕ, Bool, true, false, refl, sym, ◌∙◌}
use Rattle.std.specs.Prelude.{◌↔◌}
use Rattle.std.proofs.lemmas.Bool.{true≢false}
use Rattle.scenario.specs.Length.{IsLess, IsAtMost}
use Rattle.scenario.proofs.OrderLemmas.{less_from_not_at_most}
use Rattle.scenario.specs.Code.ComparisonLaws.{parts_cmp-Greater}
use Rattle.scenario.proofs.length.LengthOrd.cmp.Goals as goal

-- of equal numbers in a wider type
less_from_wide_test : (a b c d m n o p : ℕ) (t : Bool) → m ≡ a → n ≡ b → o ≡ c → p ≡ d
    → (t ≡ true) ↔ IsAtMost m n o p → t ≡ false → IsLess c d a b
less_from_wide_test a b c d m n o p t e f g h test other =
    less_from_not_at_most a b c d (λ k. let wide : IsAtMost m n o p = rw (e, f, g, h) k in true≢false (sym (test.1 wide) ∙ other))

less : (c : goal.Else-is_at_most) → IsLess c.args.other.now.straight c.args.other.now.diagonal c.args.self.now.straight c.args.self.now.diagonal
less c = less_from_wide_test _ _ _ _ _ _ _ _ _ c.into.ensures c.into-else-eq.ensures c.into-else-eq-2.ensures c.into-else-eq-3.ensures
    c.is_at_most.ensures c.if-is_at_most.false

pub returns-else-is_at_most-clause-value : goal.returns-else-is_at_most-clause-value
returns-else-is_at_most-clause-value c = sym (parts_cmp-Greater _ _ _ _ (less c))

pub returns-else-is_at_most-clause-greater : goal.returns-else-is_at_most-clause-greater
returns-else-is_at_most-clause-greater c = (λ e. less c, λ h. refl)
